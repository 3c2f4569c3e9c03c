-- `reading::terms::judge_block` meets its contract. The tests are those of the definition.
-- Assumes nothing.
use mathlib.Core.Path.{◌≡◌, sym, ap, ap₂, ◌∙◌}
use mathlib.Core.Bool.{◌&&◌, cond}
use borrow.Author.Rules.{rules}
use lib.Signed.{le_z}
use mir.Syntax.{w64}
use mir.Val.{SFits}
use mir.Facts.{to_z-of_z}
use Rattle.rules.specs.Sheets.{judge_block_of}
use Rattle.stores.specs.Validity.{the_sizes_of}
use Rattle.reading.proofs.terms.judge_block.Goals as goal
use Rattle.reading.proofs.terms.judge_block.Goals.{After-is_between}

pub is_between-requires : goal.is_between-requires
is_between-requires c = tt

module _ (c : After-is_between) where
  test : c.is_between.result
      ≡ (le_z c.args.z.t c.args.s
      && le_z c.args.s c.args.z.l)
  test =
      let ft : SFits w64 c.args.z.t = search rules in
      let fl : SFits w64 c.args.z.l = search rules in
      simp (to_z-of_z {w = w64} ft, to_z-of_z {w = w64} fl, to_z-of_z {w = w64} c.ranges.s) at c.is_between.ensures

pub returns-then-s-before : goal.returns-then-s-before
unfolding judge_block_of the_sizes_of
returns-then-s-before c =
    let f = c.ranges in
    sym (ap₂ (λ t u. cond t (cond u 0 3) 2) (sym (test (goal.at.returns-then-s-before c).After-is_between) ∙ c.if-is_between.true)
    (simp (to_z-of_z {w = w64} f.s, to_z-of_z {w = w64} f.before) at c.if-s-before.true))

pub returns-then-is_between : goal.returns-then-is_between
unfolding judge_block_of the_sizes_of
returns-then-is_between c =
    let f = c.ranges in
    sym (ap₂ (λ t u. cond t (cond u 0 3) 2) (sym (test (goal.at.returns-then-is_between c).After-is_between) ∙ c.if-is_between.true)
    (simp (to_z-of_z {w = w64} f.s, to_z-of_z {w = w64} f.before) at c.if-s-before.false))

pub returns : goal.returns
unfolding judge_block_of the_sizes_of
returns c =
    let a = c.args in
    sym (ap (λ t. cond t (cond (le_z a.s a.before) 0 3) 2) (sym (test (goal.at.returns c).After-is_between) ∙ c.if-is_between.false))
