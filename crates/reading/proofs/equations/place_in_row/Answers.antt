-- `reading::equations::place_in_row` meets its contract. The difference of the blocks is from 0 to 4.
-- Assumes nothing.
use mathlib.Core.Path.{◌≡◌}
use native.Mathlib.Numerals.{sub-one}
use native.Mathlib.Omega.{arith}
use lib.Dec.{lit<}
use lib.IntN.{◌-ℤ◌}
use lib.Signed.{yes_non_neg}
use mir.Syntax.{w64}
use mir.Val.{SFits, to_z, of_z}
use mir.Facts.{to_z-of_z, Fits-nat_abs}
use Rattle.algebra.specs.Order.{≤ℤ-difference}
use Rattle.integers.specs.Ranges.{sfits-size}
use Rattle.reading.specs.Terms.{place_in_row_of}
use Rattle.reading.proofs.equations.place_in_row.Goals as goal
use Rattle.reading.proofs.equations.place_in_row.Goals.{Start}

module _ (c : Start) where
  fits : SFits w64 (c.args.l -ℤ c.args.block)
  fits = sfits-size (c.args.l -ℤ c.args.block) c.requires.block_bound.0 (lit< tt)

  -- The difference as the machine reads its operands back.
  difference : to_z w64 (of_z w64 (to_z w64 (of_z w64 c.args.l) -ℤ to_z w64 (of_z w64 c.args.block))) ≡ c.args.l -ℤ c.args.block
  difference = simp (to_z-of_z {w = w64} c.ranges.l, to_z-of_z {w = w64} c.ranges.block, to_z-of_z {w = w64} fits)

pub overflow_sub-result : goal.overflow_sub-result
overflow_sub-result c = simp (to_z-of_z {w = w64} c.ranges.l, to_z-of_z {w = w64} c.ranges.block) (fits c)

pub overflow_cast-result : goal.overflow_cast-result
overflow_cast-result c = rw (difference c) (yes_non_neg (≤ℤ-difference.0 c.requires.block_bound.1), Fits-nat_abs tt (fits c))

pub overflow_mul-result : goal.overflow_mul-result
overflow_mul-result c = rw (difference c) (omega arith)

pub overflow_sub-result-2 : goal.overflow_sub-result-2
overflow_sub-result-2 c = omega arith

pub overflow_mul-result-2 : goal.overflow_mul-result-2
overflow_mul-result-2 c = omega arith

pub overflow_add-result : goal.overflow_add-result
overflow_add-result c = rw (difference c) (omega arith)

pub returns : goal.returns
unfolding place_in_row_of
returns c = rw (difference c, sub-one)
