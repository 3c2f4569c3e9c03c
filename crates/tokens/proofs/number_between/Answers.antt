-- `tokens::number_between` meets its contract: the number is a field, judged by the range.
-- Assumes nothing.
use Rattle.std.proofs.Common.{rules}
use Rattle.rules.specs.Numbers.{between}
use Rattle.tokens.proofs.number_between.Goals as goal

pub returns : goal.returns
returns c = c.field_at.ensures (between c.args.low c.args.high) (λ v fits r post. search rules)
