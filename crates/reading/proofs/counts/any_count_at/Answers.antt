-- `reading::counts::any_count_at` meets its contract: the number is a field, judged by the range.
-- Assumes nothing.
use Rattle.std.proofs.Common.{pos, rules}
use Rattle.rules.specs.Numbers.{between}
use Rattle.rules.specs.Sheets.{after_count_of}
use Rattle.reading.proofs.counts.any_count_at.Goals as goal

pub returns : goal.returns
returns c =
    c.any_field_at.ensures (between (pos 0) c.args.most) after_count_of (λ v fits r post. search rules) (λ v fits b post. search rules)
