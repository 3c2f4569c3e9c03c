-- `reading::sizes::judge_lowest` meets its contract. The tests are those of the definition; -64 ≤ t ≤ l ≤ 64 where l - t is taken.
-- Assumes nothing.
use mathlib.Core.Path.{◌≡◌, sym, ap, ap₂, ◌∙◌}
use mathlib.Core.Bool.{◌&&◌, true, cond}
use Prim.Native.Nat.{◌≤◌}
use native.Mathlib.Omega.{arith}
use lib.Dec.{lit<}
use lib.IntN.{ℤ, pos, neg_ℤ, nat_abs, ◌-ℤ◌}
use lib.Signed.{le_z}
use mir.Syntax.{w64}
use mir.Val.{SFits, to_z, of_z}
use mir.Facts.{to_z-of_z}
use Rattle.algebra.specs.Integers.{nat_abs-+ℤ, nat_abs-neg_ℤ}
use Rattle.integers.specs.Ranges.{sfits-size}
use Rattle.rules.specs.Limits.{most_span}
use Rattle.rules.specs.Sheets.{judge_lowest_of}
use Rattle.tokens.specs.Fields.{size-between}
use Rattle.reading.proofs.sizes.judge_lowest.Goals as goal
use Rattle.reading.proofs.sizes.judge_lowest.Goals.{After-is_between, Then-is_between}

pub is_between-requires : goal.is_between-requires
is_between-requires c = tt

difference-fits : (l t : ℤ) → nat_abs l ≤ 64 → (le_z (neg_ℤ (pos 64)) t && le_z t l) ≡ true → SFits w64 (l -ℤ t)
difference-fits l t h e =
    sfits-size (l -ℤ t) {k = 128} (omega (arith, nat_abs-+ℤ l (neg_ℤ t), nat_abs-neg_ℤ t, size-between l t 64 h e)) (lit< tt)

module _ (c : After-is_between) where
  test : c.is_between.result ≡ (le_z (neg_ℤ (pos 64)) c.args.t && le_z c.args.t c.args.l)
  test = simp (to_z-of_z {w = w64} c.ranges.l, to_z-of_z {w = w64} c.ranges.t) at c.is_between.ensures

module _ (c : Then-is_between) where
  between : (le_z (neg_ℤ (pos 64)) c.args.t && le_z c.args.t c.args.l) ≡ true
  between = sym (test (goal.at.Then-is_between c).After-is_between) ∙ c.if-is_between.true

  fits : SFits w64 (c.args.l -ℤ c.args.t)
  fits = difference-fits c.args.l c.args.t c.requires between

  -- The difference as the machine reads its operands back.
  difference : to_z w64 (of_z w64 (to_z w64 (of_z w64 c.args.l) -ℤ to_z w64 (of_z w64 c.args.t)))
      ≡ c.args.l -ℤ c.args.t
  difference = simp (to_z-of_z {w = w64} c.ranges.l, to_z-of_z {w = w64} c.ranges.t, to_z-of_z {w = w64} fits)

pub overflow_sub-l : goal.overflow_sub-l
overflow_sub-l c = simp (to_z-of_z {w = w64} c.ranges.l, to_z-of_z {w = w64} c.ranges.t) (fits c)

pub returns-then-l-t-le4 : goal.returns-then-l-t-le4
unfolding judge_lowest_of
returns-then-l-t-le4 c =
    sym (ap₂ (λ t u. cond (t && u) 0 2) (between (goal.at.returns-then-l-t-le4 c).Then-is_between)
    (sym (ap (λ d. le_z d (pos most_span)) (difference (goal.at.returns-then-l-t-le4 c).Then-is_between)) ∙ c.if-l-t-le4.true))

pub returns-else-l-t-le4 : goal.returns-else-l-t-le4
unfolding judge_lowest_of
returns-else-l-t-le4 c =
    sym (ap₂ (λ t u. cond (t && u) 0 2) (between (goal.at.returns-else-l-t-le4 c).Then-is_between)
    (sym (ap (λ d. le_z d (pos most_span)) (difference (goal.at.returns-else-l-t-le4 c).Then-is_between)) ∙ c.if-l-t-le4.false))

pub returns-else-is_between : goal.returns-else-is_between
unfolding judge_lowest_of
returns-else-is_between c =
    let a = c.args in
    sym (ap (λ t. cond (t && le_z (a.l -ℤ a.t) (pos most_span)) 0 2) (sym (test (goal.at.returns-else-is_between c).After-is_between) ∙ c.if-is_between.false))
