-- `products::add_scaled` meets its contract. The loop's invariant: the first k numbers are the sums and the others are as they
-- were.
-- Assumes nothing.
use mathlib.Core.Path.{◌≡◌, refl, ◌∙◌}
use mathlib.Core.List.{List}
use Prim.Native.Nat.{ℕ, ◌<◌}
use native.Mathlib.Omega.{arith}
use lib.IntN.{ℤ, pos}
use lib.ListN.{length}
use mir.Syntax.{w64}
use mir.Val.{of_z, to_z}
use mir.Facts.{to_z-of_z}
use Rattle.algebra.specs.Polynomials.{add, scale, length-add, length-scale}
use Rattle.polynomials.specs.Content.{read_back}
use Rattle.products.specs.Product.{multiple-fits, multiple-is}
use Rattle.lists.specs.Taken.{overwritten-next, overwritten-all, suffix-next}
use Rattle.products.proofs.add_scaled.Goals as goal
use Rattle.products.proofs.add_scaled.Goals.{At-loop-k, In-loop-k, Start}

-- the numbers of this turn
module _ (c : In-loop-k) where
  abbrev at : At-loop-k
  at = c.before

  abbrev start : Start
  start = at.before

  abbrev place : List ℤ
  place = start.args.place.now

  abbrev p : List ℤ
  p = start.args.p.now

  abbrev a : ℤ
  a = to_z w64 (of_z w64 start.args.a)

  abbrev k : ℕ
  k = at.loop-k.k

  inside : k < length at.loop-k.place
  inside = omega (arith, at.loop-k.invariant.0.long, c.loop-k-test.true, start.requires.0)

-- as many sums as numbers
sums-long : (z : ℤ) (place p : List ℤ) → length place ≡ length p → length (add place (scale z p)) ≡ length place
sums-long z place p e = rw (length-add, length-scale) (omega arith)

pub loop-k-init : goal.loop-k-init
loop-k-init c = (record { within = omega arith; long = refl; front = refl }, refl)

pub slice_copy_out-plus_multiple : goal.slice_copy_out-plus_multiple
slice_copy_out-plus_multiple c = inside c

pub plus_multiple-requires : goal.plus_multiple-requires
plus_multiple-requires c =
    let d = c.before.before in
    multiple-fits (place d) (at d).loop-k.place (p d) (start d).args.a (k d) (at d).loop-k.invariant.1
    (read_back _ c.plus_multiple-arg-1.given) (to_z-of_z (start d).ranges.a) (read_back _ c.plus_multiple-arg-in-loop-k-1.given)
    (start d).requires.1 (start d).requires.2 (start d).requires.3

pub bounds-place-k : goal.bounds-place-k
bounds-place-k c = inside c.before.before.before

pub loop-k-preserved : goal.loop-k-preserved
loop-k-preserved c =
    let d = c.before.before.before in (
      overwritten-next (at d).loop-k.invariant.0 (sums-long (a d) (place d) (p d) (start d).requires.0) (pos 0)
          (omega (arith, (start d).requires.0, d.loop-k-test.true))
          (read_back _ c.plus_multiple.type_inv
          ∙ multiple-is (place d) (at d).loop-k.place (p d) (a d) (k d) (at d).loop-k.invariant.1
          (read_back _ c.plus_multiple-arg-1.given) refl (read_back _ c.plus_multiple-arg-in-loop-k-1.given)
          c.plus_multiple.ensures),
      suffix-next (at d).loop-k.place (place d) (k d) _ (at d).loop-k.invariant.1,
    )

pub shape_of-place : goal.shape_of-place
shape_of-place c = c.loop-k.invariant.0.long

pub returns : goal.returns
returns c =
    overwritten-all (rw (to_z-of_z c.ranges.a) at c.loop-k.invariant.0)
    (sums-long c.args.a c.args.place.now c.args.p.now c.requires.0)
    (omega (arith, c.requires.0, c.loop-k-test.false))
