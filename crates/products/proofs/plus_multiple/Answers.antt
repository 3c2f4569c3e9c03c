-- `products::plus_multiple` meets its contract.
-- Assumes nothing.
use mathlib.Core.Path.{◌≡◌, refl, ap₂}
use Prim.Native.Nat.{◌*◌, ◌≤◌}
use native.Mathlib.Nat.{mul-le-mul}
use native.Mathlib.Omega.{arith}
use lib.Dec.{lit<, leb→le}
use lib.IntN.{ℤ, nat_abs, ◌+ℤ◌, ◌*ℤ◌}
use mir.Syntax.{w64}
use mir.Val.{SFits, of_z, to_z}
use mir.Facts.{to_z-of_z}
use Rattle.algebra.specs.Integers.{nat_abs-+ℤ, nat_abs-*ℤ}
use Rattle.integers.specs.Ranges.{sfits-size}
use Rattle.rules.specs.Limits.{bound, small}
use Rattle.products.proofs.plus_multiple.Goals as goal
use Rattle.products.proofs.plus_multiple.Goals.{Start}

module _ (c : Start) where
  abbrev x : ℤ
  x = c.args.x

  abbrev multiple : ℤ
  multiple = c.args.a *ℤ c.args.b

  multiple-size : nat_abs multiple ≤ bound * bound
  unfolding small
  multiple-size =
      rw (nat_abs-*ℤ c.args.a c.args.b)
      (mul-le-mul (leb→le (nat_abs c.args.a) bound c.requires.1) (leb→le (nat_abs c.args.b) bound c.requires.2))

  multiple-fits : SFits w64 multiple
  multiple-fits = sfits-size multiple multiple-size (lit< tt)

  product_is : to_z w64 (of_z w64 c.args.a) *ℤ to_z w64 (of_z w64 c.args.b) ≡ multiple
  product_is = ap₂ ◌*ℤ◌ (to_z-of_z c.ranges.a) (to_z-of_z c.ranges.b)

  sum_fits : SFits w64 (x +ℤ multiple)
  sum_fits =
      sfits-size (x +ℤ multiple) {k = 33 * (bound * bound)} (omega (arith, nat_abs-+ℤ x multiple, c.requires.0, multiple-size)) (lit< tt)

  sum_is : to_z w64 (of_z w64 x) +ℤ to_z w64 (of_z w64 (to_z w64 (of_z w64 c.args.a) *ℤ to_z w64 (of_z w64 c.args.b))) ≡ x +ℤ multiple
  sum_is = rw (product_is, to_z-of_z c.ranges.x, to_z-of_z multiple-fits) refl

pub overflow_mul-result : goal.overflow_mul-result
overflow_mul-result c = rw (product_is c) (multiple-fits c)

pub overflow_add-result : goal.overflow_add-result
overflow_add-result c = rw (sum_is c) (sum_fits c)

pub returns : goal.returns
returns c = rw (sum_is c) (to_z-of_z (sum_fits c))
