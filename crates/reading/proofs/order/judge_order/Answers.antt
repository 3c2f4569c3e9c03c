-- `reading::order::judge_order` meets its contract. The tests are those of the definition; a column from 1 on is its own size.
-- Assumes nothing.
use mathlib.Core.Path.{◌≡◌, sym, ap, ap₂, ◌∙◌}
use mathlib.Core.Bool.{◌&&◌, not, cond}
use Prim.Native.Nat.{ℕ, ◌≤◌}
use native.Mathlib.Omega.{arith}
use lib.IntN.{pos, nat_abs}
use lib.Signed.{le_z}
use mir.Syntax.{w64}
use mir.Val.{to_z}
use mir.Facts.{to_z-of_z, to_z_pos, Fits-nat_abs}
use Rattle.rules.specs.Sheets.{contains, judge_order_of}
use Rattle.tokens.specs.Fields.{between-size}
use Rattle.reading.specs.OrderLine.{taken_of}
use Rattle.reading.proofs.order.judge_order.Goals as goal
use Rattle.reading.proofs.order.judge_order.Goals.{After-is_between, After-is_taken}

pub overflow_cast-m : goal.overflow_cast-m
overflow_cast-m c = omega arith

pub is_between-requires : goal.is_between-requires
is_between-requires c = tt

small_is : (n : ℕ) → n ≤ 4 → to_z w64 n ≡ pos n
small_is n h = to_z_pos w64 (omega arith)

module _ (c : After-is_between) where
  test : c.is_between.result
      ≡ (le_z (pos 1) c.args.value && le_z c.args.value (pos c.args.m))
  test = simp (small_is c.args.m c.requires.0, to_z-of_z {w = w64} c.ranges.value) at
      c.is_between.ensures

module _ (c : After-is_taken) where
  found : c.is_taken.result
      ≡ contains (nat_abs c.args.value)
      (taken_of c.args.order.now c.args.taken)
  found = rw (to_z-of_z {w = w64} c.ranges.value) at c.is_taken.ensures

pub overflow_cast-value : goal.overflow_cast-value
overflow_cast-value c =
    rw (to_z-of_z {w = w64} c.ranges.value)
    ((between-size 1 c.args.m c.args.value (sym (test (goal.at.overflow_cast-value c).After-is_between) ∙ c.if-is_between.true)).0, Fits-nat_abs tt c.ranges.value)

pub is_taken-requires : goal.is_taken-requires
is_taken-requires c = c.requires.1

pub returns-then-is_taken : goal.returns-then-is_taken
unfolding judge_order_of
returns-then-is_taken c = sym
    (ap₂ (λ t u. cond (t && not u) 0 2) (sym (test (goal.at.returns-then-is_taken c).After-is_between) ∙ c.if-is_between.true)
    (sym (found (goal.at.returns-then-is_taken c).After-is_taken) ∙ c.if-is_taken.true))

pub returns-then-is_between : goal.returns-then-is_between
unfolding judge_order_of
returns-then-is_between c = sym
    (ap₂ (λ t u. cond (t && not u) 0 2) (sym (test (goal.at.returns-then-is_between c).After-is_between) ∙ c.if-is_between.true)
    (sym (found (goal.at.returns-then-is_between c).After-is_taken) ∙ c.if-is_taken.false))

pub returns : goal.returns
unfolding judge_order_of
returns c =
    let a = c.args in
    sym (ap (λ t. cond (t && not (contains (nat_abs a.value) (taken_of a.order.now a.taken))) 0 2)
    (sym (test (goal.at.returns c).After-is_between) ∙ c.if-is_between.false))
