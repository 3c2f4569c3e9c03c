-- `working_rows::entries::width_within` meets its contract. The loop's invariant: the first blocks that are left have the width of the row.
-- Assumes nothing.
use mathlib.Core.Path.{◌≡◌}
use lib.ListN.{take}
use Rattle.rules.specs.Rows.{width, width_of}
use Rattle.rules.specs.Stores.{row_of}
use Rattle.working_rows.proofs.entries.width_within.Given as goal

abbrev pub invariant-loop-block : goal.invariant-loop-block
invariant-loop-block l = width (row_of l.entries) ≡ width_of (take l.block (row_of l.entries).blocks)
