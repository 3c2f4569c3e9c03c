-- `combinations::divide_part` meets its contract. Behind the degree there are only zeros.
-- Assumes nothing.
use mathlib.Core.Path.{◌≡◌, sym, ◌∙◌, ap, subst}
use mathlib.Core.List.{◌++◌}
use Prim.Native.Nat.{ℕ, ◌+◌, ◌^◌, ◌≤◌}
use native.Mathlib.Omega.{arith}
use lib.Dec.{T}
use lib.IntN.{pos, nat_abs}
use lib.ListN.{length, take, drop}
use lib.Seq.{length-take-le}
use lib.Signed.{lt_z}
use mir.Syntax.{w64}
use mir.Val.{to_z, of_z}
use mir.Facts.{to_z-of_z}
use Rattle.algebra.specs.Coefficients.{coeff-drop, coeff-past-degree}
use Rattle.algebra.specs.Gcd.{divide_by}
use Rattle.algebra.specs.Polynomials.{Polynomial, is_zero_of, coeff-is_zero}
use Rattle.polynomials.specs.Content.{degree-below}
use Rattle.products.specs.Product.{below-part}
use Rattle.combinations.specs.Primitive.{divided-zeros, divided-front}
use Rattle.combinations.proofs.divide_part.Goals as goal
use Rattle.combinations.proofs.divide_part.Goals.{After-degree-n, Start}

-- the front that is divided
module _ (c : After-degree-n) where
  abbrev start : Start
  start = (goal.at.After-degree-n c).Start

  abbrev p : Polynomial
  p = start.args.p.now

  abbrev n : ℕ
  n = c.degree-n.result + 1

  inside : n ≤ length p
  inside = omega (arith, c.degree-n.ensures, degree-below p start.requires.0)

  front_long : length (take n p) ≡ n
  front_long = length-take-le n p inside

  behind : T (is_zero_of (drop n p))
  behind =
      coeff-is_zero (drop n p) (λ k. coeff-drop n p k ∙ coeff-past-degree p (n + k) (omega (arith, c.degree-n.ensures)))

  divisor : to_z w64 (of_z w64 start.args.d) ≡ start.args.d
  divisor = to_z-of_z {w = w64} start.ranges.d

pub returns-then-zero_throughout : goal.returns-then-zero_throughout
returns-then-zero_throughout c =
    let zeros = subst T (sym (sym c.zero_throughout.ensures ∙ c.if-zero_throughout.true)) tt in
    sym (divided-zeros (nat_abs c.args.d) c.args.p.now zeros)

pub overflow_add-n : goal.overflow_add-n
overflow_add-n c = omega (arith, inside c)

pub slice_bounds-divide_in_place-end : goal.slice_bounds-divide_in_place-end
slice_bounds-divide_in_place-end c = inside c

pub slice_bounds-divide_in_place-end-2 : goal.slice_bounds-divide_in_place-end-2
slice_bounds-divide_in_place-end-2 c = sym (front_long (goal.at.slice_bounds-divide_in_place-end-2 c).After-degree-n)

pub divide_in_place-requires : goal.divide_in_place-requires
divide_in_place-requires c =
    let e = (goal.at.divide_in_place-requires c).After-degree-n in
    let s = start e in
    (below-part (2 ^ 63) 0 (n e) (p e) s.requires.1, subst (λ z. T (lt_z (pos 0) z)) (sym (divisor e)) s.requires.2)

pub returns : goal.returns
returns c =
    let e = (goal.at.returns c).After-degree-n in
    ap (λ l. l ++ drop (n e) (p e))
    (c.divide_in_place.ensures ∙ ap (λ z. divide_by (nat_abs z) (take (n e) (p e))) (divisor e))
    ∙ divided-front (nat_abs (start e).args.d) (p e) (n e) (behind e)
