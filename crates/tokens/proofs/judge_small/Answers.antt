-- `tokens::judge_small` meets its contract. The test is that of the definition.
-- Assumes nothing.
use Rattle.std.proofs.Common.{cond, sym, ap, ◌∙◌, to_z-of_z}
use Rattle.rules.specs.Numbers.{judge_small_of}
use Rattle.tokens.proofs.judge_small.Goals as goal

pub within_bound-requires : goal.within_bound-requires
within_bound-requires c = tt

pub returns-then-within_bound : goal.returns-then-within_bound
unfolding judge_small_of
returns-then-within_bound c =
    let test = rw (to_z-of_z c.ranges.value) at c.within_bound.ensures in
    sym (ap (λ t. cond t 0 5) (sym test ∙ c.if-within_bound.true))

pub returns-else-within_bound : goal.returns-else-within_bound
unfolding judge_small_of
returns-else-within_bound c =
    let test = rw (to_z-of_z c.ranges.value) at c.within_bound.ensures in
    sym (ap (λ t. cond t 0 5) (sym test ∙ c.if-within_bound.false))
