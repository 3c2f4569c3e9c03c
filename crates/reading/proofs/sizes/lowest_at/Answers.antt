-- `reading::sizes::lowest_at` meets its contract: the number is a field, judged by its rule.
-- Assumes nothing.
use Rattle.std.proofs.Common.{rules}
use Rattle.rules.specs.Sheets.{judge_lowest_of}
use Rattle.reading.proofs.sizes.lowest_at.Goals as goal

pub returns : goal.returns
returns c = c.field_at.ensures (judge_lowest_of c.args.l) (λ v fits r post. search rules)
