-- `records::equations_at` meets its contract. The invariant: the tests from row i on, after i more, answer as all of them do.
-- Assumes nothing.
use mathlib.Core.Path.{◌≡◌}
use Prim.Native.Nat.{◌+◌, ◌-◌}
use Rattle.records.specs.Records.{answer_to}
use Rattle.records.specs.Successive.{stored_tests}
use Rattle.records.proofs.equations_at.Given as goal

abbrev pub invariant-loop-i : goal.invariant-loop-i
invariant-loop-i l =
    (answer_to (l.before + l.i) (stored_tests l.n l.sums l.formed l.j l.i (l.equations - l.i))
    ≡ answer_to l.before (stored_tests l.n l.sums l.formed l.j 0 l.equations))
