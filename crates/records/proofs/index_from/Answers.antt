-- `records::index_from` meets its contract. Right sizes and a right record keep n small.
-- Assumes nothing.
use mathlib.Core.Path.{◌≡◌, refl}
use Prim.Native.Nat.{◌+◌, ◌≤◌}
use native.Mathlib.Omega.{arith}
use lib.Dec.{lit<}
use lib.IntN.{ℤ, pos, neg_ℤ, nat_abs, ◌+ℤ◌, ◌-ℤ◌}
use mir.Syntax.{w64}
use mir.Val.{SFits, of_z, to_z}
use mir.Facts.{to_z-of_z, to_z_pos}
use Rattle.algebra.specs.Integers.{nat_abs-+ℤ, nat_abs-neg_ℤ}
use Rattle.integers.specs.Ranges.{sfits-size}
use Rattle.rules.specs.Layout.{SizeBounds, size-bounds}
use Rattle.stores.specs.declared.validity.Sizes.{Sizes}
use Rattle.stores.specs.Validity.{the_sizes_of}
use Rattle.evaluation.specs.Evaluated.{farthest}
use Rattle.records.specs.Records.{index_from_of, most_vectors}
use Rattle.records.specs.RecordAnswers.{t-near, index-size}
use Rattle.records.proofs.index_from.Goals as goal
use Rattle.records.proofs.index_from.Goals.{After-struct_told-1, Start}

module _ (c : After-struct_told-1) where
  abbrev s : Start
  s = (goal.at.After-struct_told-1 c).Start

  abbrev sizes : Sizes
  sizes = s.args.sizes

  abbrev first : ℤ
  first = s.args.first

  bounds : SizeBounds (the_sizes_of sizes)
  bounds = size-bounds (the_sizes_of sizes) s.requires.0

  t-small : nat_abs sizes.t ≤ 64
  unfolding the_sizes_of
  t-small = t-near (the_sizes_of sizes) bounds

  t-back : to_z w64 (of_z w64 sizes.t) ≡ sizes.t
  t-back = to_z-of_z {w = w64} {z = sizes.t} (sfits-size sizes.t t-small (lit< tt))

  j-is : to_z w64 s.args.j ≡ pos s.args.j
  j-is = to_z_pos w64 (omega (arith, s.requires.2))

  low_fits : SFits w64 (first -ℤ sizes.t)
  low_fits =
      sfits-size (first -ℤ sizes.t) {k = farthest}
      (omega (arith, nat_abs-+ℤ first (neg_ℤ sizes.t), nat_abs-neg_ℤ sizes.t, t-small, s.requires.1)) (lit< tt)

  index-small : nat_abs ((first -ℤ sizes.t) +ℤ pos s.args.j) + most_vectors ≤ farthest
  unfolding index_from_of the_sizes_of
  index-small = index-size (the_sizes_of sizes) first s.args.j bounds s.requires.1 s.requires.2

  index-fits : SFits w64 ((first -ℤ sizes.t) +ℤ pos s.args.j)
  index-fits = sfits-size ((first -ℤ sizes.t) +ℤ pos s.args.j) {k = farthest} (omega (arith, index-small)) (lit< tt)

pub overflow_sub-result : goal.overflow_sub-result
overflow_sub-result c = simp (to_z-of_z {w = w64} (s c).ranges.first, t-back c) (low_fits c)

pub overflow_add-result : goal.overflow_add-result
overflow_add-result c = simp (to_z-of_z {w = w64} (s c).ranges.first, t-back c, to_z-of_z {w = w64} (low_fits c), j-is c) (index-fits c)

pub returns : goal.returns
unfolding index_from_of the_sizes_of
returns c =
    simp (to_z-of_z {w = w64} (s c).ranges.first, t-back c, to_z-of_z {w = w64} (low_fits c), j-is c, to_z-of_z {w = w64} (index-fits c))
    record {
      value = refl;
      result_bound = index-small c;
    }
