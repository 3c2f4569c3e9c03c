-- `answers::clear_records` meets its contract. The loop's invariant: the first i records are cleared.
-- Assumes nothing.
use mathlib.Core.Path.{◌≡◌}
use Prim.Native.Nat.{◌*◌, ◌≤◌, ◌-◌}
use lib.ListN.{length}
use Rattle.answers.specs.ClearedRecords.{cleared_to}
use Rattle.answers.proofs.clear_records.Given as goal

abbrev pub invariant-loop-i : goal.invariant-loop-i
invariant-loop-i l =
    ((length l.store ≡ length l.initial.store) × (l.store ≡ cleared_to l.initial.store l.size l.count (l.i * l.size)))
