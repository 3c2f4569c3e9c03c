-- `replays::ending::none_negative` meets its contract.
-- Assumes nothing.
use borrow.Author.Rules.{rules}
use lib.IntN.{pos}
use lib.Signed.{le_z}
use Rattle.steps.specs.Handed.{every-tested}
use Rattle.replays.proofs.ending.none_negative.Goals as goal

pub returns : goal.returns
returns c = every-tested (le_z (pos 0)) (pos 0) c.all.result c.args.numbers.now (search rules)
