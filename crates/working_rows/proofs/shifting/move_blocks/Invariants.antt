-- `working_rows::shifting::move_blocks` meets its contract. The loop's invariant: the first e polynomials are those of the shifted row, the
-- numbers past them are as they were, and `within` is the test of what is written.
-- Assumes nothing.
use mathlib.Core.Path.{◌≡◌}
use Prim.Native.Nat.{◌*◌}
use lib.ListN.{length, take}
use Rattle.lists.specs.Tests.{every}
use Rattle.rules.specs.Limits.{coefficient_count, entries_length, small}
use Rattle.rules.specs.Rows.{shift_up}
use Rattle.rules.specs.Stores.{row_of}
use Rattle.working_rows.specs.Working.{left_part}
use Rattle.working_rows.specs.Shifting.{over_front}
use Rattle.working_rows.proofs.shifting.move_blocks.Given as goal

abbrev pub invariant-loop-e : goal.invariant-loop-e
invariant-loop-e l =
    (length l.entries ≡ entries_length)
    × (l.entries ≡ over_front (left_part (shift_up (row_of l.initial.entries))) l.initial.entries (l.e * coefficient_count))
    × (l.within ≡ every small (take (l.e * coefficient_count) (left_part (shift_up (row_of l.initial.entries)))))
