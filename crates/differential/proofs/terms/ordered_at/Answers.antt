-- `differential::terms::ordered_at` meets its contract: the number is a field, judged by its rule.
-- Assumes nothing.
use Rattle.std.proofs.Common.{rules}
use Rattle.differential.specs.Grammar.{judge_ordered_of}
use Rattle.differential.proofs.terms.ordered_at.Goals as goal

pub returns : goal.returns
returns c =
    c.field_at.ensures (judge_ordered_of c.args.low c.args.high c.args.first c.args.last) (λ v fits r post. search rules)
