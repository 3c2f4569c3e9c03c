-- `reading::sides::total_at` meets its contract: the number is a field, judged by its rule.
-- Assumes nothing.
use Rattle.std.proofs.Common.{rules}
use Rattle.rules.specs.Sheets.{judge_side_count}
use Rattle.reading.proofs.sides.total_at.Goals as goal

pub returns : goal.returns
returns c = c.field_at.ensures (judge_side_count c.args.total) (λ v fits r post. search rules)
