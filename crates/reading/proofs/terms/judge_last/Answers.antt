-- `reading::terms::judge_last` meets its contract. The tests are those of the definition.
-- Assumes nothing.
use mathlib.Core.Path.{sym, ap, ap₂, ◌∙◌}
use mathlib.Core.Bool.{cond}
use mir.Facts.{to_z-of_z}
use borrow.Author.Tests.{eq-eqb, ne_eqb}
use Rattle.algebra.specs.Polynomials.{is_zero_ℤ}
use Rattle.integers.specs.Ranges.{of_z-zero}
use Rattle.rules.specs.Limits.{small}
use Rattle.rules.specs.Sheets.{judge_last_of}
use mir.Syntax.{w64}
use Rattle.reading.proofs.terms.judge_last.Goals as goal

pub within_bound-requires : goal.within_bound-requires
within_bound-requires c = tt

pub returns-then-value-eq0 : goal.returns-then-value-eq0
unfolding judge_last_of is_zero_ℤ
returns-then-value-eq0 c =
    let f = c.ranges.value in
    let test = c.within_bound.ensures ∙ ap small (to_z-of_z {w = w64} f) in
    sym (ap₂ (λ t z. cond t (cond z 3 0) 5) (sym test ∙ c.if-within_bound.true) (sym (of_z-zero _ f) ∙ eq-eqb _ 0 c.if-value-eq0.true))

pub returns-then-within_bound : goal.returns-then-within_bound
unfolding judge_last_of is_zero_ℤ
returns-then-within_bound c =
    let f = c.ranges.value in
    let test = c.within_bound.ensures ∙ ap small (to_z-of_z {w = w64} f) in
    sym (ap₂ (λ t z. cond t (cond z 3 0) 5) (sym test ∙ c.if-within_bound.true) (sym (of_z-zero _ f) ∙ ne_eqb _ 0 c.if-value-eq0.false))

pub returns : goal.returns
unfolding judge_last_of
returns c =
    let test = c.within_bound.ensures ∙ ap small (to_z-of_z {w = w64} c.ranges.value) in
    sym (ap (λ t. cond t (cond (is_zero_ℤ c.args.value) 3 0) 5) (sym test ∙ c.if-within_bound.false))
