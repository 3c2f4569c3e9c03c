-- `tokens::eight_value` meets its contract. Each of the eight bytes is 48 more than its digit.
-- Assumes nothing.
use Rattle.std.proofs.Common.{arith}
use Rattle.tokens.specs.Straight.{eight-read}
use Rattle.tokens.proofs.eight_value.Goals as goal

pub overflow_sub-result : goal.overflow_sub-result
overflow_sub-result c =
    omega (arith, (eight-read _ c.args.from c.requires.0 c.requires.1).0, c.four_bytes.ensures.0, c.four_bytes-2.ensures.0)

pub returns : goal.returns
returns c =
    rw (c.four_bytes.ensures.0, c.four_bytes-2.ensures.0) (eight-read _ c.args.from c.requires.0 c.requires.1).1
