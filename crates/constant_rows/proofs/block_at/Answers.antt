-- `constant_rows::block_at` meets its contract. Assumes nothing.
use mathlib.Core.Path.{◌≡◌, refl}
use Prim.Native.Nat.{ℕ}
use native.Mathlib.Omega.{arith}
use lib.Dec.{lit<}
use lib.IntN.{ℤ, pos, neg_ℤ, ◌+ℤ◌, ◌-ℤ◌}
use mir.Syntax.{w64}
use mir.Val.{SFits, to_z}
use mir.Facts.{to_z-of_z, to_z_pos}
use Rattle.algebra.specs.Integers.{nat_abs-+ℤ, nat_abs-neg_ℤ}
use Rattle.integers.specs.Ranges.{sfits-size}
use Rattle.constant_rows.proofs.block_at.Goals as goal
use Rattle.constant_rows.proofs.block_at.Goals.{Start}

module _ (s : Start) where
  abbrev n : ℤ
  n = s.args.n

  abbrev l : ℤ
  l = s.args.l

  abbrev i : ℕ
  i = s.args.index

  i-is : to_z w64 i ≡ pos i
  i-is = to_z_pos w64 (omega (arith, s.requires.2))

  sum_fits : SFits w64 (l +ℤ n)
  sum_fits = sfits-size (l +ℤ n) {k = 300000000} (omega (arith, nat_abs-+ℤ l n, s.requires.0, s.requires.1)) (lit< tt)

  block-fits : SFits w64 ((l +ℤ n) -ℤ pos i)
  block-fits =
      sfits-size ((l +ℤ n) -ℤ pos i) {k = 400000000}
      (omega (arith, nat_abs-+ℤ (l +ℤ n) (neg_ℤ (pos i)), nat_abs-neg_ℤ (pos i), nat_abs-+ℤ l n, s.requires.0, s.requires.1, s.requires.2)) (lit< tt)

pub overflow_add-result : goal.overflow_add-result
overflow_add-result c = simp (to_z-of_z {w = w64} c.ranges.l, to_z-of_z {w = w64} c.ranges.n) (sum_fits (goal.at.overflow_add-result c).Start)

pub overflow_sub-result : goal.overflow_sub-result
overflow_sub-result c = simp (to_z-of_z {w = w64} c.ranges.l, to_z-of_z {w = w64} c.ranges.n, to_z-of_z {w = w64} (sum_fits (goal.at.overflow_sub-result c).Start), i-is (goal.at.overflow_sub-result c).Start) (block-fits (goal.at.overflow_sub-result c).Start)

pub returns : goal.returns
returns c = simp (to_z-of_z {w = w64} c.ranges.l, to_z-of_z {w = w64} c.ranges.n, to_z-of_z {w = w64} (sum_fits (goal.at.returns c).Start), i-is (goal.at.returns c).Start, to_z-of_z {w = w64} (block-fits (goal.at.returns c).Start)) refl
