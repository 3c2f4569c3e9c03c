-- `tokens::four_bytes` meets its contract. Two bytes come to at most 2805.
-- Assumes nothing.
use Rattle.std.proofs.Common.{◌+◌, ◌*◌, ap₂, arith}
use Rattle.tokens.specs.Straight.{four_bytes_of}
use Rattle.tokens.proofs.four_bytes.Goals as goal

pub returns : goal.returns
unfolding four_bytes_of
returns c = (ap₂ (λ a b. 100 * a + b) c.two_bytes.ensures.0 c.two_bytes-2.ensures.0, omega arith)
