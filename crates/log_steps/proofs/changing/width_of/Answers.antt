-- `log_steps::changing::width_of` meets its contract.
-- Assumes nothing.
use native.Mathlib.Omega.{arith}
use Rattle.working_rows.specs.Found.{width-most}
use Rattle.reduction.specs.StoreExchange.{numbers_at}
use Rattle.log_steps.proofs.changing.width_of.Goals as goal

pub width_at-requires : goal.width_at-requires
width_at-requires c =
    (c.requires, omega arith, omega (arith, width-most (numbers_at c.args.rows.now c.args.i)))

pub returns : goal.returns
returns c = c.width_at.ensures
