-- `combinations::divide_parts` meets its contract. The loop's invariant: the first e polynomials are divided, the others are as they were.
-- Assumes nothing.
use mathlib.Core.Path.{◌≡◌, refl, sym, ◌∙◌, ap, ap₂, subst}
use mathlib.Core.List.{List}
use Prim.Native.Nat.{ℕ, ◌+◌, ◌*◌, ◌^◌, ◌-◌, ◌≤◌}
use native.Mathlib.Omega.{arith}
use borrow.Rule.Slice.PartMut.{put_mid, same_len_mid}
use lib.Dec.{T}
use lib.IntN.{ℤ, pos, nat_abs}
use lib.ListN.{length, take, drop, length-take, length-drop}
use lib.Signed.{lt_z}
use mir.Syntax.{w64}
use mir.Val.{to_z, of_z}
use mir.Facts.{to_z-of_z}
use Rattle.algebra.specs.Gcd.{divide_by}
use Rattle.algebra.specs.Polynomials.{is_zero_of}
use Rattle.polynomials.specs.Content.{Below}
use Rattle.products.specs.Product.{below-part}
use Rattle.rules.specs.Limits.{coefficient_count}
use Rattle.combinations.specs.Primitive.{divided_to, divided-rest, divided-next, divided-front}
use Rattle.combinations.proofs.divide_parts.Goals as goal
use Rattle.combinations.proofs.divide_parts.Goals.{At-loop-e, In-loop-e, Start}

-- polynomial e
module _ (c : In-loop-e) where
  abbrev at : At-loop-e
  at = (goal.at.In-loop-e c).At-loop-e

  abbrev start : Start
  start = (goal.at.At-loop-e at).Start

  abbrev l : List ℤ
  l = start.args.numbers.now

  abbrev d : ℕ
  d = nat_abs (to_z w64 (of_z w64 start.args.d))

  abbrev k : ℕ
  k = at.loop-e.e * coefficient_count

  abbrev width : ℕ
  width = k + coefficient_count - k

  room : k + coefficient_count ≤ length l
  room = omega (arith, start.requires.count_le_polynomial_count.1, c.loop-e-test.true)

  divisor : to_z w64 (of_z w64 start.args.d) ≡ start.args.d
  divisor = to_z-of_z {w = w64} start.ranges.d

  -- it is as it was
  part-is : take width (drop k at.loop-e.numbers) ≡ take width (drop k l)
  part-is =
      ap (λ r. take width (drop k r)) at.loop-e.invariant.1 ∙ ap (take width) (divided-rest d l k width (omega (arith, room)))

pub loop-e-init : goal.loop-e-init
unfolding divide_by
loop-e-init c =
    (refl, refl)

pub divide_part-requires : goal.divide_part-requires
divide_part-requires c =
    let w = (goal.at.divide_part-requires c).In-loop-e in
    let s = start w in (
      rw (part-is w, length-take, length-drop) (omega (arith, room w)),
      subst (Below (2 ^ 63)) (sym (part-is w)) (below-part (2 ^ 63) (k w) (width w) (l w) s.requires.below.0),
      subst (λ z. T (lt_z (pos 0) z)) (sym (divisor w)) s.requires.below.1,
    )

pub loop-e-preserved : goal.loop-e-preserved
loop-e-preserved c =
    let w = (goal.at.loop-e-preserved c).In-loop-e in
    let next : k w + width w ≡ ((at w).loop-e.e + 1) * coefficient_count = omega arith in
    let part = c.divide_part.ensures ∙ ap (divide_by (d w)) (part-is w) in (
      same_len_mid (k w) (width w) (at w).loop-e.numbers c.divide_part.new.p c.divide_part.auto.p ∙ (at w).loop-e.invariant.0,
      ap₂ (put_mid (k w) (width w)) (at w).loop-e.invariant.1 part ∙ divided-next (d w) (l w) (k w) (width w) (omega (arith, room w))
          ∙ ap (divided_to (d w) (l w)) next,
    )

pub shape_of-numbers : goal.shape_of-numbers
shape_of-numbers c = c.loop-e.invariant.0

pub returns : goal.returns
returns c =
    let loop = c.loop-e in
    let all : loop.e ≡ c.args.count = omega (arith, c.loop-e-test.false) in
    loop.invariant.1 ∙ divided-front (nat_abs (to_z w64 (of_z w64 c.args.d))) c.args.numbers.now (loop.e * coefficient_count)
    (subst (λ n. T (is_zero_of (drop (n * coefficient_count) c.args.numbers.now))) (sym all) c.requires.count_le_polynomial_count.2)
    ∙ ap (λ z. divide_by (nat_abs z) c.args.numbers.now) (to_z-of_z {w = w64} c.ranges.d)
