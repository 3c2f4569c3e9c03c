-- `reading::equations::most_terms` meets its contract. D is from 0 to 4, and m at most 4.
-- Assumes nothing.
use mathlib.Core.Path.{◌≡◌, ap, ◌∙◌}
use Prim.Native.Nat.{◌+◌, ◌*◌, ◌≤◌}
use native.Mathlib.Nat.{mul-le-mul, le_of_suc-le-suc}
use native.Mathlib.Numerals.{add-one}
use native.Mathlib.Omega.{arith}
use borrow.Author.Rules.{sfits_of}
use lib.Dec.{lit<}
use lib.IntN.{ℤ, pos, nat_abs, ◌-ℤ◌}
use lib.Signed.{yes_non_neg, ≤ℤ_refl}
use mir.Syntax.{w64}
use mir.Val.{SFits, to_z, of_z}
use mir.Facts.{to_z-of_z, to_z_pos, Fits-nat_abs}
use Rattle.algebra.specs.Order.{≤ℤ-difference}
use Rattle.integers.specs.Ranges.{sfits-size}
use Rattle.rules.specs.Limits.{most_span, block_count, polynomial_count}
use Rattle.rules.specs.Stores.{span}
use Rattle.rules.specs.Layout.{SizeBounds, size-bounds, block-place}
use Rattle.stores.specs.Validity.{the_sizes_of}
use Rattle.reading.proofs.equations.most_terms.Goals as goal
use Rattle.reading.proofs.equations.most_terms.Goals.{After-struct_told-1}

module _ (c : After-struct_told-1) where
  abbrev l : ℤ
  l = c.args.z.l

  abbrev t : ℤ
  t = c.args.z.t

  bounds : SizeBounds (the_sizes_of c.args.z)
  bounds = size-bounds _ c.requires

  narrow : nat_abs (l -ℤ t) ≤ most_span
  unfolding the_sizes_of
  narrow = le_of_suc-le-suc (block-place _ t bounds (≤ℤ_refl t) bounds.ordered)

  few : c.args.z.m ≤ 4
  unfolding the_sizes_of
  few = bounds.few

  fits : SFits w64 (l -ℤ t)
  fits = sfits-size (l -ℤ t) narrow (lit< tt)

  -- The difference as the machine reads its operands back.
  difference : to_z w64 (of_z w64 (to_z w64 (of_z w64 l) -ℤ to_z w64 (of_z w64 t))) ≡ l -ℤ t
  difference =
      let fl : SFits w64 l = sfits_of c.struct_told-1.given.1.1.0.1 in
      let ft : SFits w64 t = sfits_of c.struct_told-1.given.1.1.1.0.1 in
      simp (to_z-of_z {w = w64} fl, to_z-of_z {w = w64} ft, to_z-of_z {w = w64} fits)

  most : c.args.z.m * (nat_abs (l -ℤ t) + 1) ≤ polynomial_count
  most =
      let wide : nat_abs (l -ℤ t) + 1 ≤ block_count = omega (arith, narrow) in
      mul-le-mul few wide

pub overflow_sub-result : goal.overflow_sub-result
overflow_sub-result c =
    let fl : SFits w64 (l c) = sfits_of c.struct_told-1.given.1.1.0.1 in
    let ft : SFits w64 (t c) = sfits_of c.struct_told-1.given.1.1.1.0.1 in
    simp (to_z-of_z {w = w64} fl, to_z-of_z {w = w64} ft) (fits c)

pub overflow_cast-result : goal.overflow_cast-result
unfolding the_sizes_of
overflow_cast-result c = rw (difference c) (yes_non_neg (≤ℤ-difference.0 (bounds c).ordered), Fits-nat_abs tt (fits c))

pub overflow_add-result : goal.overflow_add-result
overflow_add-result c = rw (difference c) (omega (arith, narrow c))

pub overflow_mul-result : goal.overflow_mul-result
overflow_mul-result c = rw (difference (goal.at.overflow_mul-result c).After-struct_told-1) (omega (arith, most (goal.at.overflow_mul-result c).After-struct_told-1))

pub overflow_cast-result-2 : goal.overflow_cast-result-2
overflow_cast-result-2 c = rw (difference (goal.at.overflow_cast-result-2 c).After-struct_told-1) (omega (arith, most (goal.at.overflow_cast-result-2 c).After-struct_told-1))

pub returns : goal.returns
unfolding span the_sizes_of
returns c = rw (difference (goal.at.returns c).After-struct_told-1)
    (to_z_pos w64 (omega (arith, most (goal.at.returns c).After-struct_told-1))
    ∙ ap (λ k. pos (c.args.z.m * k)) (add-one (nat_abs (l (goal.at.returns c).After-struct_told-1 -ℤ t (goal.at.returns c).After-struct_told-1))))
