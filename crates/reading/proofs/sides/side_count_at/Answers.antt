-- `reading::sides::side_count_at` meets its contract: the number is a field, judged by its rule.
-- Assumes nothing.
use Rattle.std.proofs.Common.{rules}
use Rattle.rules.specs.Sheets.{judge_side_of, after_count_of}
use Rattle.reading.proofs.sides.side_count_at.Goals as goal

pub returns : goal.returns
returns c =
    c.any_field_at.ensures (judge_side_of c.args.needed) after_count_of (λ v fits r post. search rules) (λ v fits b post. search rules)
