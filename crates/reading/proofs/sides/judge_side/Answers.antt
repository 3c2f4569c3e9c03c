-- `reading::sides::judge_side` meets its contract. The tests are those of the definition.
-- Assumes nothing.
use mathlib.Core.Path.{◌≡◌, sym, ap, ap₂, ◌∙◌}
use mathlib.Core.Bool.{◌&&◌, cond, and-false, true}
use lib.IntN.{pos}
use lib.Signed.{le_z}
use mir.Facts.{to_z-of_z}
use borrow.Author.Tests.{eq-eqb, ne_eqb}
use Rattle.algebra.specs.Polynomials.{is_zero_ℤ}
use Rattle.integers.specs.Ranges.{of_z-zero}
use Rattle.rules.specs.Limits.{coefficient_count}
use Rattle.rules.specs.Sheets.{judge_side_of}
use mir.Syntax.{w64}
use Rattle.reading.proofs.sides.judge_side.Goals as goal
use Rattle.reading.proofs.sides.judge_side.Goals.{After-is_between}

pub is_between-requires : goal.is_between-requires
is_between-requires c = tt

module _ (c : After-is_between) where
  test : c.is_between.result ≡ (le_z (pos 0) c.args.value && le_z c.args.value (pos coefficient_count))
  test = simp (to_z-of_z {w = w64} c.ranges.value) at c.is_between.ensures

pub returns-then-value-ne0 : goal.returns-then-value-ne0
unfolding judge_side_of is_zero_ℤ
returns-then-value-ne0 c =
    sym
    (ap₂ (λ t z. cond t (cond (c.args.needed && z) 3 0) 2) (sym (test (goal.at.returns-then-value-ne0 c).After-is_between) ∙ c.if-is_between.true)
    (sym (of_z-zero _ c.ranges.value) ∙ ne_eqb _ 0 c.if-value-ne0.true)
    ∙ ap (λ t. cond t 3 0) (and-false c.args.needed))

pub returns-then-needed : goal.returns-then-needed
unfolding judge_side_of is_zero_ℤ
returns-then-needed c =
    sym
    (ap₂ (λ t z. cond t (cond (c.args.needed && z) 3 0) 2) (sym (test (goal.at.returns-then-needed c).After-is_between) ∙ c.if-is_between.true)
    (sym (of_z-zero _ c.ranges.value) ∙ eq-eqb _ 0 c.if-value-ne0.false)
    ∙ ap (λ n. cond (n && true) 3 0) c.if-needed.true)

pub returns-then-is_between : goal.returns-then-is_between
unfolding judge_side_of is_zero_ℤ
returns-then-is_between c =
    sym
    (ap₂ (λ t n. cond t (cond (n && is_zero_ℤ c.args.value) 3 0) 2) (sym (test (goal.at.returns-then-is_between c).After-is_between) ∙ c.if-is_between.true)
    c.if-needed.false)

pub returns : goal.returns
unfolding judge_side_of
returns c =
    let a = c.args in
    sym (ap (λ t. cond t (cond (a.needed && is_zero_ℤ a.value) 3 0) 2) (sym (test (goal.at.returns c).After-is_between) ∙ c.if-is_between.false))
