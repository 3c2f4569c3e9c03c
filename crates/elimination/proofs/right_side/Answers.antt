-- `elimination::right_side` meets its contract. Where the check is 0, the sixteen numbers behind the row's entries lie in the store.
-- Assumes nothing.
use mathlib.Core.Path.{◌≡◌, refl, sym, ◌∙◌, ap, ap₂}
use mathlib.Core.List.{List, []}
use Prim.Native.Nat.{ℕ, zero, suc, pred, ◌+◌, ◌-◌, ◌*◌, ◌≤◌}
use native.Mathlib.Omega.{arith}
use lib.IntN.{ℤ}
use lib.ListN.{length, take, drop}
use Rattle.rules.specs.Limits.{coefficient_count, entries_length, row_length}
use Rattle.rules.specs.Stores.{Sizes, row_need}
use Rattle.rules.specs.Calls.{part_at, right_side_check, right_side_part}
use Rattle.rules.specs.Layout.{right_side_check-zero, size-bounds}
use Rattle.stores.specs.Validity.{the_sizes_of}
use Rattle.elimination.proofs.right_side.Goals as goal
use Rattle.elimination.proofs.right_side.Goals.{After-side_of-place, Else-check_right_side-ne0}

module _ (l : List ℤ) (z : Sizes) (row : ℕ) where
  abbrev place : ℕ
  place = pred row * row_length + entries_length

  part_none : (right_side_check l z row ≡ 0 → ⊥) → [] ≡ right_side_part l z row
  unfolding right_side_part part_at
  part_none h = none (right_side_check l z row) h
    where
      none : (n : ℕ) → (n ≡ 0 → ⊥) → [] ≡ part_at l place n
      none zero h = absurd (h refl)
      none (suc n) h = refl

  part-some : right_side_check l z row ≡ 0 → take coefficient_count (drop place l) ≡ right_side_part l z row
  unfolding right_side_part part_at
  part-some e = sym (ap (part_at l place) e)

  -- The sixteen numbers lie inside the store.
  place_inside : right_side_check l z row ≡ 0 → place + coefficient_count ≤ length l
  unfolding row_need
  place_inside e =
      let passed = (right_side_check-zero l z row).0 e in
      omega (arith, passed.2, passed.1.0, passed.1.1, (size-bounds z passed.0).few-equations)

-- the check has given 0
passed : (c : Else-check_right_side-ne0)
    → let args = c.args in right_side_check args.rows.now (the_sizes_of args.sizes) args.row ≡ 0
passed c = sym c.check_right_side.ensures ∙ c.if-check_right_side-ne0.false

inside : (c : After-side_of-place) → c.side_of-place.result + coefficient_count ≤ length c.args.rows.now
inside c =
    let args = c.args in
    rw c.side_of-place.ensures (place_inside args.rows.now (the_sizes_of args.sizes) args.row (passed (goal.at.After-side_of-place c).Else-check_right_side-ne0))

pub returns-then-check_right_side-ne0 : goal.returns-then-check_right_side-ne0
returns-then-check_right_side-ne0 c =
    let args = c.args in
    part_none args.rows.now (the_sizes_of args.sizes) args.row
    (λ e. c.if-check_right_side-ne0.true (c.check_right_side.ensures ∙ e))

pub side_of-place-requires : goal.side_of-place-requires
side_of-place-requires c =
    let args = c.args in
    let z = the_sizes_of args.sizes in
    let right = (right_side_check-zero args.rows.now z args.row).0 (passed c) in
    (right.1.0, omega (arith, right.1.1, (size-bounds z right.0).few-equations))

pub overflow_add-result : goal.overflow_add-result
overflow_add-result c = omega (arith, inside c)

pub offset_bounds-rows-place : goal.offset_bounds-rows-place
offset_bounds-rows-place c = omega (arith, inside c)

pub slice_bounds-result-end-2 : goal.slice_bounds-result-end-2
slice_bounds-result-end-2 c = omega (arith, inside c)

pub returns : goal.returns
returns c =
    let args = c.args in
    let place = c.side_of-place.result in
    let size : place + coefficient_count - place ≡ coefficient_count = omega arith in
    ap₂ (λ n p. take n (drop p args.rows.now)) size c.side_of-place.ensures
    ∙ part-some args.rows.now (the_sizes_of args.sizes) args.row (passed (goal.at.returns c).Else-check_right_side-ne0)
