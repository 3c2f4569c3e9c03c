-- `elimination::polynomial` meets its contract. Where the check is 0, the place and the sixteen numbers from it on lie in the store.
-- Assumes nothing.
use mathlib.Core.Path.{◌≡◌, refl, sym, ◌∙◌, ap, ap₂}
use mathlib.Core.List.{List, []}
use Prim.Native.Nat.{ℕ, zero, suc, ◌+◌, ◌-◌, ◌≤◌}
use native.Mathlib.Omega.{arith}
use mir.Facts.{to_z-of_z}
use lib.IntN.{ℤ}
use lib.ListN.{length, take, drop}
use Rattle.rules.specs.Stores.{Sizes, row_need}
use Rattle.rules.specs.Calls.{polynomial_check, polynomial_place, part_at, polynomial_part}
use Rattle.rules.specs.Layout.{polynomial_check-zero, size-bounds, place-bounds, block-place}
use Rattle.stores.specs.Validity.{the_sizes_of}
use mir.Syntax.{w64}
use Rattle.elimination.proofs.polynomial.Goals as goal
use Rattle.elimination.proofs.polynomial.Goals.{After-check_polynomial, After-place_of-place, Else-check_polynomial-ne0}

module _ (l : List ℤ) (z : Sizes) (row : ℕ) (block : ℤ) (column : ℕ) where
  part_none : (polynomial_check l z row block column ≡ 0 → ⊥) → [] ≡ polynomial_part l z row block column
  unfolding polynomial_part part_at
  part_none h = none (polynomial_place z row block column) (polynomial_check l z row block column) h
    where
      none : (place n : ℕ) → (n ≡ 0 → ⊥) → [] ≡ part_at l place n
      none place zero h = absurd (h refl)
      none place (suc n) h = refl

  part-some : polynomial_check l z row block column ≡ 0
      → take 16 (drop (polynomial_place z row block column) l) ≡ polynomial_part l z row block column
  unfolding polynomial_part part_at
  part-some e = sym (ap (part_at l (polynomial_place z row block column)) e)

  -- The sixteen numbers lie inside the store.
  place_inside : polynomial_check l z row block column ≡ 0 → polynomial_place z row block column + 16 ≤ length l
  unfolding polynomial_place row_need
  place_inside e =
      let passed = (polynomial_check-zero l z row block column).0 e in
      let sizes = size-bounds z passed.0 in
      let place = place-bounds z row block column passed.1 in
      let near = block-place z block sizes place.block-low place.block-high in
      omega (arith, passed.2, near, sizes.few, place.row_low, place.row-high, place.column-low, place.column-high)

checked : (c : After-check_polynomial)
    → let args = c.args in
    c.check_polynomial.result ≡ polynomial_check args.rows.now (the_sizes_of args.sizes) args.row args.block args.column
checked c = rw (to_z-of_z {w = w64} c.ranges.block) at c.check_polynomial.ensures

placed : (c : After-place_of-place)
    → let args = c.args in
    c.place_of-place.result ≡ polynomial_place (the_sizes_of args.sizes) args.row args.block args.column
placed c = rw (to_z-of_z {w = w64} c.ranges.block) at c.place_of-place.ensures

-- the check has given 0
passed : (c : Else-check_polynomial-ne0)
    → let args = c.args in
    polynomial_check args.rows.now (the_sizes_of args.sizes) args.row args.block args.column ≡ 0
passed c = sym (checked (goal.at.Else-check_polynomial-ne0 c).After-check_polynomial) ∙ c.if-check_polynomial-ne0.false

inside : (c : After-place_of-place) → c.place_of-place.result + 16 ≤ length c.args.rows.now
inside c =
    let args = c.args in
    rw (placed c)
    (place_inside args.rows.now (the_sizes_of args.sizes) args.row args.block args.column (passed (goal.at.After-place_of-place c).Else-check_polynomial-ne0))

pub returns-then-check_polynomial-ne0 : goal.returns-then-check_polynomial-ne0
returns-then-check_polynomial-ne0 c =
    let args = c.args in
    part_none args.rows.now (the_sizes_of args.sizes) args.row args.block args.column
    (λ e. c.if-check_polynomial-ne0.true (checked (goal.at.returns-then-check_polynomial-ne0 c).After-check_polynomial ∙ e))

pub place_of-place-requires : goal.place_of-place-requires
place_of-place-requires c =
    let args = c.args in
    let right = (polynomial_check-zero args.rows.now (the_sizes_of args.sizes) args.row args.block args.column).0 (passed c) in
    rw (to_z-of_z {w = w64} c.ranges.block) (right.0, right.1)

pub overflow_add-result : goal.overflow_add-result
overflow_add-result c = omega (arith, inside c)

pub offset_bounds-rows-place : goal.offset_bounds-rows-place
offset_bounds-rows-place c = omega (arith, inside c)

pub slice_bounds-result-end-2 : goal.slice_bounds-result-end-2
slice_bounds-result-end-2 c = omega (arith, inside c)

pub returns : goal.returns
returns c =
    let args = c.args in
    let place = c.place_of-place.result in
    let size : place + 16 - place ≡ 16 = omega arith in
    ap₂ (λ n p. take n (drop p args.rows.now)) size (placed (goal.at.returns c).After-place_of-place)
    ∙ part-some args.rows.now (the_sizes_of args.sizes) args.row args.block args.column (passed (goal.at.returns c).Else-check_polynomial-ne0)
