-- `differential::terms::judge_factor` meets its contract. The tests are those of the definition.
-- Assumes nothing.
use mathlib.Core.Path.{sym, ap, ap₂, ◌∙◌}
use mathlib.Core.Bool.{cond}
use lib.Dec.{leb}
use lib.IntN.{nat_abs}
use mir.Facts.{to_z-of_z}
use borrow.Author.Tests.{eq-eqb, ne_eqb}
use Rattle.algebra.specs.Polynomials.{is_zero_ℤ}
use Rattle.integers.specs.Ranges.{of_z-zero}
use Rattle.differential.specs.Differential.{factor_bound}
use Rattle.differential.specs.Grammar.{judge_factor_of}
use mir.Syntax.{w64}
use Rattle.differential.proofs.terms.judge_factor.Goals as goal

pub returns-then-not-factor_small : goal.returns-then-not-factor_small
unfolding judge_factor_of
returns-then-not-factor_small c =
    let test = c.factor_small.ensures ∙ ap (λ v. leb (nat_abs v) factor_bound) (to_z-of_z {w = w64} c.ranges.value) in
    sym (ap (λ t. cond t (cond (is_zero_ℤ c.args.value) 3 0) 5) (sym test ∙ c.if-not-factor_small.true))

pub returns-then-value-eq0 : goal.returns-then-value-eq0
unfolding judge_factor_of is_zero_ℤ
returns-then-value-eq0 c =
    let f = c.ranges.value in
    let test = c.factor_small.ensures ∙ ap (λ v. leb (nat_abs v) factor_bound) (to_z-of_z {w = w64} f) in
    sym (ap₂ (λ t z. cond t (cond z 3 0) 5) (sym test ∙ c.if-not-factor_small.false) (sym (of_z-zero _ f) ∙ eq-eqb _ 0 c.if-value-eq0.true))

pub returns : goal.returns
unfolding judge_factor_of is_zero_ℤ
returns c =
    let f = c.ranges.value in
    let test = c.factor_small.ensures ∙ ap (λ v. leb (nat_abs v) factor_bound) (to_z-of_z {w = w64} f) in
    sym (ap₂ (λ t z. cond t (cond z 3 0) 5) (sym test ∙ c.if-not-factor_small.false) (sym (of_z-zero _ f) ∙ ne_eqb _ 0 c.if-value-eq0.false))
