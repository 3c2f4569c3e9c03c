-- `solutions::trailing::last_root` meets its contract. The loop's invariant: the answer is the largest root of the first j
-- trailing diagonal polynomials.
-- Assumes nothing.
use mathlib.Core.Path.{◌≡◌}
use Prim.Native.Nat.{◌≤◌}
use lib.ListN.{length}
use Rattle.roots.specs.RootSearch.{answered}
use Rattle.solutions.specs.LastIndices.{last_over}
use Rattle.solutions.proofs.trailing.last_root.Given as goal

abbrev pub invariant-loop-j : goal.invariant-loop-j
invariant-loop-j l =
    (l.settled ≤ length l.fn.order) × (l.answer ≡ answered (last_over l.span l.settled l.store l.fn.order l.j))
