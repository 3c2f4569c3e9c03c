-- `steps::checks::columns_within` meets its contract.
-- Assumes nothing.
use mathlib.Core.Bool.{◌&&◌}
use lib.Dec.{leb}
use lib.ListN.{take}
use borrow.Author.Rules.{rules}
use Rattle.steps.specs.Handed.{every-tested}
use Rattle.steps.proofs.checks.columns_within.Goals as goal

pub returns : goal.returns
returns c = every-tested (λ k. leb 1 k && leb k c.args.m) 0 c.all.result (take c.args.settled c.args.order) (search rules)
