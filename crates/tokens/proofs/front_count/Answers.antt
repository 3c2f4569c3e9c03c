-- `tokens::front_count` meets its contract. There are 64 binary places.
-- Assumes nothing.
use Rattle.std.proofs.Common.{refl, arith}
use lib.Count.{trailing_le}
use Rattle.tokens.specs.Words.{front_count_of}
use Rattle.tokens.proofs.front_count.Goals as goal

pub overflow_cast-result : goal.overflow_cast-result
overflow_cast-result c = omega (arith, trailing_le 64 c.args.s)

pub returns : goal.returns
unfolding front_count_of
returns c = refl
