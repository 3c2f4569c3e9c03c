-- `records::sums::plus` meets its contract. The sum stays far within the range of an i64.
-- Assumes nothing.
use Prim.Native.Nat.{◌*◌, ◌≤◌}
use native.Mathlib.Nat.{mul-le-mul}
use native.Mathlib.Omega.{arith}
use lib.Dec.{lit<}
use lib.IntN.{nat_abs, ◌+ℤ◌, ◌*ℤ◌}
use mir.Syntax.{w64}
use mir.Val.{SFits}
use mir.Facts.{to_z-of_z}
use Rattle.algebra.specs.Integers.{nat_abs-*ℤ, nat_abs-+ℤ}
use Rattle.integers.specs.Ranges.{sfits-size}
use Rattle.evaluation.specs.Evaluated.{value_limit}
use Rattle.records.specs.Records.{value_bound}
use Rattle.records.proofs.sums.plus.Goals as goal
use Rattle.records.proofs.sums.plus.Goals.{Start}

module _ (c : Start) where
  product-size : nat_abs (c.args.value *ℤ c.args.number) ≤ value_limit * value_bound
  product-size = rw (nat_abs-*ℤ c.args.value c.args.number) (mul-le-mul c.requires.1 c.requires.2)

  product-fits : SFits w64 (c.args.value *ℤ c.args.number)
  product-fits = sfits-size (c.args.value *ℤ c.args.number) product-size (lit< tt)

  sum_fits : SFits w64 (c.args.sum +ℤ c.args.value *ℤ c.args.number)
  sum_fits =
      sfits-size (c.args.sum +ℤ c.args.value *ℤ c.args.number) {k = 24 * (value_limit * value_bound)}
      (omega (arith, nat_abs-+ℤ c.args.sum (c.args.value *ℤ c.args.number), product-size, c.requires.0)) (lit< tt)

pub overflow_mul-result : goal.overflow_mul-result
overflow_mul-result c = simp (to_z-of_z c.ranges.value, to_z-of_z c.ranges.number) (product-fits (goal.at.overflow_mul-result c).Start)

pub overflow_add-result : goal.overflow_add-result
overflow_add-result c =
    let start = (goal.at.overflow_add-result c).Start in
    simp (to_z-of_z c.ranges.sum, to_z-of_z c.ranges.value, to_z-of_z c.ranges.number, to_z-of_z {w = w64} (product-fits c))
    (sum_fits start)

pub returns : goal.returns
returns c =
    simp (
      to_z-of_z c.ranges.sum,
      to_z-of_z c.ranges.value,
      to_z-of_z c.ranges.number,
      to_z-of_z {w = w64} (product-fits c),
      to_z-of_z {w = w64} (sum_fits c),
    )
