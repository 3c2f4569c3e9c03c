-- `working_rows::entries::width` meets its contract.
-- Assumes nothing.
use native.Mathlib.Omega.{arith}
use Rattle.working_rows.specs.Found.{width-most}
use Rattle.working_rows.proofs.entries.width.Goals as goal

pub width_within-requires : goal.width_within-requires
width_within-requires c = (c.requires, omega arith, width-most c.args.entries.now)
