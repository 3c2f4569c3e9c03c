-- `reading::terms::column_at` meets its contract: the number is a field, judged by its rule.
-- Assumes nothing.
use Rattle.std.proofs.Common.{rules}
use Rattle.rules.specs.Sheets.{judge_column_of}
use Rattle.stores.specs.Validity.{the_sizes_of}
use Rattle.reading.proofs.terms.column_at.Goals as goal

pub returns : goal.returns
returns c = c.field_at.ensures (judge_column_of (the_sizes_of c.args.z) c.args.before c.args.last c.args.s) (λ v fits r post. search rules)
