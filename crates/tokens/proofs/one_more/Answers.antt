-- `tokens::one_more` meets its contract. The value is small enough for one digit more.
-- Assumes nothing.
use Rattle.tokens.proofs.one_more.Goals as goal

pub returns-then-more : goal.returns-then-more
returns-then-more c = rw (c.if-more.true, c.wide.ensures.0)
