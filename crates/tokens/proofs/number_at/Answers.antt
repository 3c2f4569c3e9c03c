-- `tokens::number_at` meets its contract: what is read straight is the number that stands there.
-- Assumes nothing.
use Rattle.std.proofs.Common.{sym, ◌∙◌}
use Rattle.tokens.specs.Straight.{long-number}
use Rattle.tokens.proofs.number_at.Goals as goal

pub returns-in-Some : goal.returns-in-Some
returns-in-Some c = long-number (sym c.long_at.ensures ∙ c.in-Some.is)
