-- `tokens::digits_start` meets its contract. At the end of the bytes there is no sign.
-- Assumes nothing.
use Rattle.std.proofs.Common.{arith}
use Rattle.tokens.specs.Tokens.{digits-none}
use Rattle.tokens.specs.Straight.{start-at}
use Rattle.tokens.proofs.digits_start.Goals as goal

pub returns-then-at-bytes : goal.returns-then-at-bytes
returns-then-at-bytes c = rw c.after_sign.ensures.0 (start-at _ _ (omega arith))

pub returns : goal.returns
returns c = digits-none _ _ (omega arith)
