-- `tokens::judge_between` meets its contract. The test is that of the definition.
-- Assumes nothing.
use Rattle.std.proofs.Common.{◌≡◌, cond, ◌&&◌, sym, ap, ◌∙◌, to_z-of_z}
use lib.Signed.{le_z}
use Rattle.rules.specs.Numbers.{between}
use Rattle.tokens.proofs.judge_between.Goals as goal
use Rattle.tokens.proofs.judge_between.Goals.{After-is_between}

pub is_between-requires : goal.is_between-requires
is_between-requires c = tt

module _ (c : After-is_between) where
  test : c.is_between.result
      ≡ (le_z c.args.low c.args.value && le_z c.args.value c.args.high)
  test =
      let f = c.ranges in
      simp (to_z-of_z f.low, to_z-of_z f.high, to_z-of_z f.value) at c.is_between.ensures

pub returns-then-is_between : goal.returns-then-is_between
unfolding between
returns-then-is_between c = sym (ap (λ t. cond t 0 2) (sym (test (goal.at.returns-then-is_between c).After-is_between) ∙ c.if-is_between.true))

pub returns-else-is_between : goal.returns-else-is_between
unfolding between
returns-else-is_between c = sym (ap (λ t. cond t 0 2) (sym (test (goal.at.returns-else-is_between c).After-is_between) ∙ c.if-is_between.false))
