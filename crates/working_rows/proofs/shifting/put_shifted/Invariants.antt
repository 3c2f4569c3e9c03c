-- `working_rows::shifting::put_shifted` meets its contract. The loop's invariant: the first k numbers are those of p(n + 1), and the others
-- are as they were.
-- Assumes nothing.
use mathlib.Core.Path.{◌≡◌}
use lib.ListN.{drop}
use Rattle.algebra.specs.Polynomials.{shift}
use Rattle.lists.specs.Taken.{Overwritten}
use Rattle.rules.specs.Limits.{coefficient_count}
use Rattle.working_rows.proofs.shifting.put_shifted.Given as goal

abbrev pub invariant-loop-k : goal.invariant-loop-k
invariant-loop-k l =
    Overwritten coefficient_count (shift l.p) l.place l.k × (drop l.k l.place ≡ drop l.k l.initial.place)
