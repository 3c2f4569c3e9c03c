-- `differential::terms::factor_at` meets its contract: the number is a field, judged by its rule.
-- Assumes nothing.
use Rattle.std.proofs.Common.{rules}
use Rattle.differential.specs.Grammar.{judge_factor_of}
use Rattle.differential.proofs.terms.factor_at.Goals as goal

pub returns : goal.returns
returns c = c.field_at.ensures judge_factor_of (λ v fits r post. search rules)
