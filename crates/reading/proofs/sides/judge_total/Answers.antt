-- `reading::sides::judge_total` meets its contract. The tests are those of the definition.
-- Assumes nothing.
use mathlib.Core.Path.{◌≡◌, refl, sym, ap, ◌∙◌}
use mathlib.Core.Bool.{cond}
use Prim.Native.Nat.{ℕ, zero, suc}
use native.Mathlib.Omega.{arith}
use lib.IntN.{ℤ, pos}
use mir.Facts.{to_z-of_z, to_z_pos}
use mir.Syntax.{w64}
use mir.Val.{to_z}
use borrow.Author.Tests.{eq-eqb, ne_eqb}
use Rattle.algebra.specs.Polynomials.{is_zero_ℤ}
use Rattle.integers.specs.Ranges.{of_z-zero}
use Rattle.rules.specs.Numbers.{between}
use Rattle.rules.specs.Sheets.{judge_side_count}
use Rattle.reading.proofs.sides.judge_total.Goals as goal

pub returns-then-value-eq0 : goal.returns-then-value-eq0
unfolding judge_side_count is_zero_ℤ
returns-then-value-eq0 c =
    sym
    (ap (λ k. judge_side_count k c.args.value) c.if-total-eq0.true
    ∙ ap (λ t. cond t 3 2) (sym (of_z-zero _ c.ranges.value) ∙ eq-eqb _ 0 c.if-value-eq0.true))

pub returns-then-total-eq0 : goal.returns-then-total-eq0
unfolding judge_side_count is_zero_ℤ
returns-then-total-eq0 c =
    sym
    (ap (λ k. judge_side_count k c.args.value) c.if-total-eq0.true
    ∙ ap (λ t. cond t 3 2) (sym (of_z-zero _ c.ranges.value) ∙ ne_eqb _ 0 c.if-value-eq0.false))

pub overflow_cast-total : goal.overflow_cast-total
overflow_cast-total c = omega (arith, c.requires)

pub overflow_cast-total-2 : goal.overflow_cast-total-2
overflow_cast-total-2 c = omega (arith, c.requires)

pub judge_between-requires : goal.judge_between-requires
judge_between-requires c = tt

some : (k : ℕ) (v : ℤ) → (k ≡ 0 → ⊥) → between (pos k) (pos k) v ≡ judge_side_count k v
unfolding judge_side_count
some zero v h = absurd (h refl)
some (suc k) v h = refl

pub returns : goal.returns
returns c =
    let n : to_z w64 c.args.total ≡ pos c.args.total = to_z_pos w64 (omega (arith, c.requires)) in
    simp (n, to_z-of_z {w = w64} c.ranges.value) at c.judge_between.ensures ∙ some c.args.total c.args.value c.if-total-eq0.false
