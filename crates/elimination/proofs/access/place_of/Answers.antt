-- `elimination::access::place_of` meets its contract. The row is 1 to 6, the column 1 to 4, and at most four blocks stand above.
-- Assumes nothing.
use mathlib.Core.Path.{◌≡◌}
use Prim.Native.Nat.{◌≤◌, ◌<◌}
use native.Mathlib.Omega.{arith}
use lib.Dec.{lit<}
use lib.IntN.{ℤ, nat_abs, ◌-ℤ◌}
use mir.Syntax.{w64}
use mir.Val.{SFits, of_z, to_z}
use mir.Facts.{to_z-of_z, Fits-nat_abs}
use borrow.Author.Rules.{sfits_of}
use Rattle.integers.specs.Ranges.{sfits-size}
use Rattle.rules.specs.Layout.{SizeBounds, size-bounds, PlaceBounds, place-bounds, block-place}
use Rattle.rules.specs.Calls.{polynomial_place}
use Rattle.stores.specs.Validity.{the_sizes_of, difference-nonneg}
use Rattle.elimination.proofs.access.place_of.Goals as goal
use Rattle.elimination.proofs.access.place_of.Goals.{After-struct_told-1}

-- the place as facts, and the number of blocks above it
module _ (c : After-struct_told-1) where
  abbrev above : ℤ
  above = c.args.sizes.l -ℤ c.args.block

  place : PlaceBounds (the_sizes_of c.args.sizes) c.args.row c.args.block c.args.column
  place =
      place-bounds (the_sizes_of c.args.sizes) c.args.row c.args.block c.args.column
      c.requires.1

  bounds : SizeBounds (the_sizes_of c.args.sizes)
  bounds = size-bounds (the_sizes_of c.args.sizes) c.requires.0

  near : nat_abs above < 5
  unfolding the_sizes_of
  near = block-place (the_sizes_of c.args.sizes) c.args.block bounds place.block-low place.block-high

  few : (c.args.row ≤ 6) × (c.args.column ≤ 4)
  unfolding the_sizes_of
  few = omega (arith, bounds.few, bounds.few-equations, place.row-high, place.column-high)

  fits : SFits w64 above
  fits = let small : nat_abs above ≤ 4 = omega (arith, near) in sfits-size above small (lit< tt)

  -- l - block, as the machine reads its operands back
  read : to_z w64 (of_z w64 c.args.sizes.l) -ℤ to_z w64 (of_z w64 c.args.block) ≡ above
  read =
      simp (
        to_z-of_z {w = w64} {z = c.args.sizes.l} (sfits_of c.struct_told-1.given.1.1.0.1),
        to_z-of_z {w = w64} c.ranges.block,
      )

pub overflow_sub-down : goal.overflow_sub-down
overflow_sub-down c = rw (read c) (fits c)

pub overflow_cast-down : goal.overflow_cast-down
unfolding the_sizes_of
overflow_cast-down c =
    rw (read c, to_z-of_z {w = w64} (fits c))
    (difference-nonneg {l = c.args.sizes.l} {t = c.args.block} (place c).block-high, Fits-nat_abs tt (fits c))

pub overflow_sub-result : goal.overflow_sub-result
overflow_sub-result c = omega (arith, few c, (place c).row_low, (place c).column-low)

pub overflow_mul-result : goal.overflow_mul-result
overflow_mul-result c = omega (arith, few c, (place c).row_low, (place c).column-low)

pub overflow_mul-result-2 : goal.overflow_mul-result-2
overflow_mul-result-2 c = rw (read c, to_z-of_z {w = w64} (fits c)) (omega (arith, near c, few c))

pub overflow_add-result : goal.overflow_add-result
overflow_add-result c = rw (read c, to_z-of_z {w = w64} (fits c)) (omega (arith, near c, few c))

pub overflow_sub-result-2 : goal.overflow_sub-result-2
overflow_sub-result-2 c = omega (arith, few c, (place c).row_low, (place c).column-low)

pub overflow_mul-result-3 : goal.overflow_mul-result-3
overflow_mul-result-3 c = omega (arith, few c, (place c).row_low, (place c).column-low)

pub overflow_add-result-2 : goal.overflow_add-result-2
overflow_add-result-2 c = rw (read c, to_z-of_z {w = w64} (fits c)) (omega (arith, near c, few c))

pub returns : goal.returns
unfolding polynomial_place the_sizes_of
returns c = rw (read c, to_z-of_z {w = w64} (fits c)) (omega arith)
