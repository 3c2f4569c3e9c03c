-- `tokens::is_digit` meets its contract. The two tests are those of the definition.
-- Assumes nothing.
use Rattle.std.proofs.Common.{le-leb}
use borrow.Author.Tests.{lt-leb}
use Rattle.rules.specs.Numbers.{is_digit_of}
use Rattle.tokens.proofs.is_digit.Goals as goal

pub returns-then-b-ge48 : goal.returns-then-b-ge48
unfolding is_digit_of
returns-then-b-ge48 c = rw (le-leb 48 _ c.if-b-ge48.true)

pub returns-else-b-ge48 : goal.returns-else-b-ge48
unfolding is_digit_of
returns-else-b-ge48 c = rw (lt-leb 48 _ c.if-b-ge48.false)
