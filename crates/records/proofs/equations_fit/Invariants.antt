-- `records::equations_fit` meets its contract. The invariant: the tests from the n of vector j on, after those before, answer as all of
-- them do; at most six are made at each n, and all sums at the n before are formed.
-- Assumes nothing.
use mathlib.Core.Path.{◌≡◌}
use Prim.Native.Nat.{ℕ, ◌*◌, ◌-◌, ◌≤◌, ◌<◌}
use lib.ListN.{get_or}
use Rattle.rules.specs.Stores.{rows_of}
use Rattle.stores.specs.Validity.{the_sizes_of}
use Rattle.records.specs.Records.{equation_tests, answer_to}
use Rattle.records.proofs.equations_fit.Given as goal

abbrev pub invariant-loop-j : goal.invariant-loop-j
invariant-loop-j l =
    (l.tested ≤ 6 * l.j)
    × (answer_to l.tested (equation_tests (the_sizes_of l.sizes) l.first l.values (rows_of l.sizes.equations l.rows) l.j (l.tests - l.j))
    ≡ answer_to 0 (equation_tests (the_sizes_of l.sizes) l.first l.values (rows_of l.sizes.equations l.rows) 0 l.tests))
    × ((i : ℕ) → i < l.equations → l.j ≤ get_or l.formed i 0)
