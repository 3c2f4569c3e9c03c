-- `products::add_product` meets its contract. The loop's invariant: what is left of the product, added behind the first i numbers,
-- makes the sum; and the numbers have grown by C² at most a turn.
-- Assumes nothing.
use mathlib.Core.Path.{◌≡◌, refl, sym, ◌∙◌, ap, ap₂, subst}
use mathlib.Core.List.{List, ◌++◌, append_assoc}
use Prim.Native.Nat.{ℕ, ◌+◌, ◌-◌, ◌*◌, ◌≤◌, ◌<◌}
use native.Mathlib.Omega.{arith}
use borrow.Rule.Slice.PartMut.{put_mid, same_len_mid}
use lib.IntN.{ℤ, pos, nat_abs}
use lib.ListN.{length, get_or, take, drop, length-drop, drop_of_length-le, take-append-drop}
use lib.Seq.{take-add, drop-drop, take_at, drop_at, length-take-le}
use Rattle.lists.specs.Tests.{every-get_or}
use Rattle.lists.specs.Taken.{drop-next}
use Rattle.algebra.specs.Polynomials.{Polynomial, add, scale, mul, add-nil}
use Rattle.rules.specs.Limits.{bound, small}
use Rattle.polynomials.specs.Content.{read_back}
use Rattle.products.specs.Product.{product-next, added-part, below-part, below_next}
use Rattle.products.proofs.add_product.Goals as goal
use Rattle.products.proofs.add_product.Goals.{At-loop-i, In-loop-i, Start}

-- the place of this turn
module _ (c : In-loop-i) where
  abbrev at : At-loop-i
  at = c.before

  abbrev start : Start
  start = at.before

  abbrev g : Polynomial
  g = start.args.g.now

  abbrev p : Polynomial
  p = start.args.p.now

  abbrev place : List ℤ
  place = at.loop-i.place

  abbrev i : ℕ
  i = at.loop-i.i

  abbrev width : ℕ
  width = i + length p - i

  wide : width ≡ length p
  wide = omega arith

  room : i + length p ≤ length place
  room = omega (arith, at.loop-i.invariant.1, start.requires.p_nonzero.1, c.loop-i-test.true)

  -- the numbers from i on, with the multiple
  abbrev added : ℤ → List ℤ
  added a = add (drop i place) (scale a p)

  put : (a : ℤ) (r : List ℤ) → r ≡ add (take width (drop i place)) (scale a p) → put_mid i width place r ≡ take i place ++ added a
  put a r e =
      ap (λ s. take i place ++ (s ++ drop width (drop i place))) e
      ∙ ap (λ s. take i place ++ s)
      (added-part (drop i place) p a width (omega (arith, wide)) (rw length-drop (omega (arith, wide, room))))

  some_left : 0 < length (drop i place)
  some_left = rw length-drop (omega (arith, room, start.requires.p_nonzero.0))

  first-long : length (take i place) ≡ i
  first-long = length-take-le i place (omega (arith, room))

  next : add start.args.place.now (mul g p)
      ≡ take (i + 1) (take i place ++ added (get_or g i (pos 0)))
      ++ add (drop (i + 1) (take i place ++ added (get_or g i (pos 0)))) (mul (drop (i + 1) g) p)
  next =
      let a = get_or g i (pos 0) in
      let rest = mul (drop (i + 1) g) p in
      let whole = take i place ++ added a in
      let front = take_at (take i place) (added a) i first-long in
      let behind = drop_at (take i place) (added a) i first-long in
      at.loop-i.invariant.2
      ∙ ap (λ r. take i place ++ add (drop i place) (mul r p)) (drop-next g i (pos 0) c.loop-i-test.true)
      ∙ ap (λ r. take i place ++ r) (product-next (drop i place) a (drop (i + 1) g) p some_left)
      ∙ sym (append_assoc (take i place) (take 1 (added a)) (add (drop 1 (added a)) rest))
      ∙ sym (ap₂ ◌++◌
      (take-add i 1 whole ∙ ap₂ ◌++◌ front (ap (take 1) behind))
      (ap (λ r. add r rest) (sym (drop-drop 1 i whole) ∙ ap (drop 1) behind)))

pub loop-i-init : goal.loop-i-init
loop-i-init c = (omega arith, refl, refl, c.requires.p_nonzero.2)

pub overflow_add-i : goal.overflow_add-i
overflow_add-i c = omega (arith, room c, (at c).loop-i.invariant.1)

pub slice_bounds-add_multiple-end : goal.slice_bounds-add_multiple-end
slice_bounds-add_multiple-end c = room c

pub add_multiple-requires : goal.add_multiple-requires
unfolding small
add_multiple-requires c =
    let d = c.before.before in
    let few : i d < 16 = omega (arith, (start d).requires.g_len_bound.0, d.loop-i-test.true) in (
      length-take-le (width d) (drop (i d) (place d)) (rw length-drop (omega (arith, wide d, room d))) ∙ wide d,
      below-part (32 * (bound * bound)) (i d) (width d) (place d) (λ k. omega (arith, (at d).loop-i.invariant.3 k, few)),
      rw (read_back (get_or (g d) (i d) (pos 0)) c.add_multiple-arg-in-loop-i-1.given) (every-get_or small (g d) (pos 0) tt (start d).requires.g_len_bound.1 (i d)),
      (start d).requires.g_len_bound.2,
    )

pub loop-i-preserved : goal.loop-i-preserved
unfolding small
loop-i-preserved c =
    let d = c.before.before.before.before in
    let a = get_or (g d) (i d) (pos 0) in
    let back = read_back a c.add_multiple-arg-in-loop-i-1.given in
    let whole = put d a c.add_multiple.new.place
    (c.add_multiple.ensures ∙ ap (λ z. add (take (width d) (drop (i d) (place d))) (scale z (p d))) back) in (
      omega (arith, d.loop-i-test.true),
      same_len_mid (i d) (width d) (place d) c.add_multiple.new.place c.add_multiple.auto.place ∙ (at d).loop-i.invariant.1,
      next d ∙ ap (λ l. take (i d + 1) l ++ add (drop (i d + 1) l) (mul (drop (i d + 1) (g d)) (p d))) (sym whole),
      λ k. subst (λ l. nat_abs (get_or l k (pos 0)) < (16 + (i d + 1)) * (bound * bound) + 1) (sym whole)
          (omega (
            arith,
            below_next ((16 + i d) * (bound * bound) + 1) (i d) (place d) (p d) a (at d).loop-i.invariant.3
                (every-get_or small (g d) (pos 0) tt (start d).requires.g_len_bound.1 (i d)) (start d).requires.g_len_bound.2 k,
          )),
    )

pub shape_of-place : goal.shape_of-place
shape_of-place c = c.loop-i.invariant.1

pub returns : goal.returns
unfolding mul
returns c =
    let loop = c.loop-i in
    let g = c.args.g.now in
    let p = c.args.p.now in
    sym (loop.invariant.2
    ∙ ap (λ r. take loop.i loop.place ++ add (drop loop.i loop.place) (mul r p)) (drop_of_length-le g c.loop-i-test.false)
    ∙ ap (λ r. take loop.i loop.place ++ r) (add-nil (drop loop.i loop.place))
    ∙ take-append-drop loop.i loop.place)
