-- `tokens::eight_digits` meets its contract. The tests are those of the definition.
-- Assumes nothing.
use Rattle.std.proofs.Common.{◌&&◌, ap₂}
use Rattle.tokens.specs.Straight.{eight_digits_of}
use Rattle.tokens.proofs.eight_digits.Goals as goal

pub returns : goal.returns
unfolding eight_digits_of
returns c = ap₂ ◌&&◌ c.four_digits.ensures c.four_digits-2.ensures
