-- `tokens::two_bytes` meets its contract. A byte is at most 255.
-- Assumes nothing.
use Rattle.std.proofs.Common.{◌+◌, ◌*◌, ap₂, arith}
use Rattle.tokens.specs.Straight.{two_bytes_of}
use Rattle.tokens.proofs.two_bytes.Goals as goal

pub returns : goal.returns
unfolding two_bytes_of
returns c = (ap₂ (λ a b. 10 * a + b) c.wide.ensures.0 c.wide-2.ensures.0, omega arith)
