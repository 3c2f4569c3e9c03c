-- `differential::rows::plus` meets its contract. The sum stays far within the range of an i64.
-- Assumes nothing.
use Prim.Native.Nat.{◌≤◌}
use native.Mathlib.Nat.{mul-le-mul}
use native.Mathlib.Omega.{arith}
use lib.Dec.{lit<}
use lib.IntN.{nat_abs, ◌+ℤ◌, ◌*ℤ◌}
use mir.Syntax.{w64}
use mir.Val.{SFits}
use mir.Facts.{to_z-of_z}
use Rattle.algebra.specs.Integers.{nat_abs-*ℤ, nat_abs-+ℤ}
use Rattle.integers.specs.Ranges.{sfits-size}
use Rattle.differential.specs.ValidRecurrence.{term_bound}
use Rattle.differential.proofs.rows.plus.Goals as goal
use Rattle.differential.proofs.rows.plus.Goals.{Start}

module _ (c : Start) where
  product_small : nat_abs (c.args.factor *ℤ c.args.coefficient) ≤ term_bound
  product_small = rw (nat_abs-*ℤ c.args.factor c.args.coefficient) (omega (arith, mul-le-mul c.requires.1.0 c.requires.1.1))

  product-fits : SFits w64 (c.args.factor *ℤ c.args.coefficient)
  product-fits = sfits-size (c.args.factor *ℤ c.args.coefficient) product_small (lit< tt)

  sum_fits : SFits w64 (c.args.number +ℤ c.args.factor *ℤ c.args.coefficient)
  sum_fits =
      sfits-size (c.args.number +ℤ c.args.factor *ℤ c.args.coefficient) {k = 300000000}
      (omega (arith, nat_abs-+ℤ c.args.number (c.args.factor *ℤ c.args.coefficient), product_small, c.requires.0)) (lit< tt)

pub overflow_mul-result : goal.overflow_mul-result
overflow_mul-result c = simp (to_z-of_z {w = w64} c.ranges.factor, to_z-of_z {w = w64} c.ranges.coefficient) (product-fits c)

pub overflow_add-result : goal.overflow_add-result
overflow_add-result c =
    simp (
      to_z-of_z {w = w64} c.ranges.number,
      to_z-of_z {w = w64} c.ranges.factor,
      to_z-of_z {w = w64} c.ranges.coefficient,
      to_z-of_z {w = w64} (product-fits c),
    ) (sum_fits c)

pub returns : goal.returns
returns c =
    simp (
      to_z-of_z {w = w64} c.ranges.number,
      to_z-of_z {w = w64} c.ranges.factor,
      to_z-of_z {w = w64} c.ranges.coefficient,
      to_z-of_z {w = w64} (product-fits c),
      to_z-of_z {w = w64} (sum_fits c),
    )
