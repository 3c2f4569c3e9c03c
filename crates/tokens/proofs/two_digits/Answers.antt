-- `tokens::two_digits` meets its contract. The tests are those of the definition.
-- Assumes nothing.
use Rattle.std.proofs.Common.{◌&&◌, ap₂}
use Rattle.tokens.specs.Straight.{two_digits_of}
use Rattle.tokens.proofs.two_digits.Goals as goal

pub returns : goal.returns
unfolding two_digits_of
returns c = ap₂ ◌&&◌ c.is_digit.ensures c.is_digit-2.ensures
