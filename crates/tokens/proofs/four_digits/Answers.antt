-- `tokens::four_digits` meets its contract. The tests are those of the definition.
-- Assumes nothing.
use Rattle.std.proofs.Common.{◌&&◌, ap₂}
use Rattle.tokens.specs.Straight.{four_digits_of}
use Rattle.tokens.proofs.four_digits.Goals as goal

pub returns : goal.returns
unfolding four_digits_of
returns c = ap₂ ◌&&◌ c.two_digits.ensures c.two_digits-2.ensures
