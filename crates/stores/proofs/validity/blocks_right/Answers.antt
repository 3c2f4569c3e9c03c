-- `stores::validity::blocks_right` meets its contract. The first three tests bound both numbers, so their difference is an i64.
-- Assumes nothing.
use mathlib.Core.Path.{◌≡◌, sym, ◌∙◌}
use mathlib.Core.Bool.{Bool, true, ◌&&◌}
use lib.IntN.{ℤ, pos, neg_ℤ, ◌-ℤ◌}
use lib.Signed.{le_z, le_z_yes}
use mir.Syntax.{w64}
use mir.Val.{SFits}
use mir.Facts.{to_z-of_z}
use Rattle.lists.specs.Tests.{T-&&, and_second, and_first, true-T}
use Rattle.stores.specs.Validity.{difference-fits}
use Rattle.stores.proofs.validity.blocks_right.Goals as goal
use Rattle.stores.proofs.validity.blocks_right.Goals.{Joined-t-geminus64, Joined-t-l, then-t-geminus64, else-t-geminus64, then-t-l, else-t-l}

-- the tests of both numbers, before the subtraction
module _ (l t : ℤ) where
  abbrev ordered : Bool
  ordered = le_z (neg_ℤ (pos 64)) t && le_z t l

  abbrev bounded : Bool
  bounded = ordered && le_z l (pos 64)

  fits-difference : bounded ≡ true → SFits w64 (l -ℤ t)
  fits-difference e =
      let h = simp T-&& at (true-T bounded e) in
      difference-fits {l = l} {t = t} (le_z_yes h.0.0) (le_z_yes h.0.1) (le_z_yes h.1)

tested-order : (c : Joined-t-geminus64) → c.if-t-geminus64.value ≡ ordered c.args.l c.args.t
tested-order c =
    let l = c.args.l in
    let t = c.args.t in
    let back_l = to_z-of_z c.ranges.l in
    let back-t = to_z-of_z c.ranges.t in
    elim c.if-t-geminus64.branch [
      | then-t-geminus64 w ↦
          rw (back_l, back-t) at w.value-is ∙ and_second (le_z (neg_ℤ (pos 64)) t) (le_z t l) (rw back-t at w.if-t-geminus64.true)
      | else-t-geminus64 w ↦
          rw back-t at w.value-is ∙ and_first (le_z (neg_ℤ (pos 64)) t) (le_z t l) (rw back-t at w.if-t-geminus64.false)
    ]

tested : (c : Joined-t-l) → c.if-t-l.value ≡ bounded c.args.l c.args.t
tested c =
    let back_l = to_z-of_z c.ranges.l in
    elim c.if-t-l.branch [
      | then-t-l w ↦ rw back_l at w.value-is ∙ and_second _ _ (sym (tested-order c.before) ∙ w.if-t-l.true)
      | else-t-l w ↦
          w.value-is ∙ tested-order c.before ∙ and_first (ordered c.args.l c.args.t) (le_z c.args.l (pos 64)) (sym (tested-order c.before) ∙ w.if-t-l.false)
    ]

pub overflow_sub-result : goal.overflow_sub-result
overflow_sub-result c =
    simp (to_z-of_z c.ranges.l, to_z-of_z c.ranges.t)
    (fits-difference c.args.l c.args.t (sym (tested c.before) ∙ c.if-l-le64.true))

pub returns-then-l-le64 : goal.returns-then-l-le64
returns-then-l-le64 c =
    let passed : bounded c.args.l c.args.t ≡ true = sym (tested c.before) ∙ c.if-l-le64.true in
    simp (to_z-of_z c.ranges.l, to_z-of_z c.ranges.t, to_z-of_z (fits-difference c.args.l c.args.t passed))
    (and_second (bounded c.args.l c.args.t) _ passed)

pub returns-else-l-le64 : goal.returns-else-l-le64
returns-else-l-le64 c =
    tested c.before ∙ and_first (bounded c.args.l c.args.t) _ (sym (tested c.before) ∙ c.if-l-le64.false)
