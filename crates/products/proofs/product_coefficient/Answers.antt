-- `products::product_coefficient` meets its contract. The loop's invariant: sum is the sum of the terms below i, and i lies
-- where p still has coefficient k - i. The terms before the first i and from end on are zero.
-- Assumes nothing.
use mathlib.Core.Path.{◌≡◌, sym, ◌∙◌, ap, ap₂}
use mathlib.Core.List.{List}
use Prim.Native.Nat.{ℕ, ◌+◌, ◌-◌, min}
use native.Mathlib.Numerals.{add-one}
use native.Mathlib.Omega.{arith}
use lib.Dec.{lit<}
use lib.IntN.{ℤ, pos, ◌*ℤ◌, ◌+ℤ◌}
use lib.ListN.{length, get_or}
use mir.Syntax.{w64}
use mir.Val.{SFits, of_z, to_z}
use mir.Facts.{to_z-of_z}
use Rattle.algebra.specs.Sums.{sum_below, sum_below-last}
use Rattle.algebra.specs.Polynomials.{coeff}
use Rattle.integers.specs.Ranges.{sfits-size}
use Rattle.rules.specs.Limits.{coefficient_count}
use Rattle.polynomials.specs.Content.{read_back}
use Rattle.products.specs.Product.{term, sum-none, sum-all, term-size, sum-size, product-size}
use Rattle.products.proofs.product_coefficient.Goals as goal
use Rattle.products.proofs.product_coefficient.Goals.{After-sum-in-loop-i-1, Start, else-k-g, else-k-p, then-k-g, then-k-p}

-- the term of this turn, and the sum with it
module _ (c : After-sum-in-loop-i-1) where
  abbrev start : Start
  start = c.before.before.before.before.before.before.before

  abbrev g : List ℤ
  g = start.args.g.now

  abbrev p : List ℤ
  p = start.args.p.now

  abbrev k : ℕ
  k = start.args.k

  abbrev i : ℕ
  i = c.loop-i.i

  abbrev product : ℤ
  product = to_z w64 (of_z w64 (get_or g i (pos 0))) *ℤ to_z w64 (of_z w64 (get_or p (k - i) (pos 0)))

  product_is : product ≡ term g p k i
  unfolding coeff
  product_is = ap₂ ◌*ℤ◌ (read_back (coeff g i) c.sum-1.given) (read_back (coeff p (k - i)) c.sum-in-loop-i-1.given)

  product-fits : SFits w64 product
  product-fits = rw product_is (sfits-size (term g p k i) (term-size g p start.requires.1 start.requires.2 k i) (lit< tt))

  next-is : to_z w64 c.loop-i.sum-bits +ℤ to_z w64 (of_z w64 product) ≡ sum_below (i + 1) (term g p k)
  next-is =
      ap₂ ◌+ℤ◌ c.loop-i.invariant.3 (to_z-of_z product-fits ∙ product_is)
      ∙ rw add-one (sym (sum_below-last i (term g p k)))

  next_fits : SFits w64 (sum_below (i + 1) (term g p k))
  next_fits =
      sfits-size (sum_below (i + 1) (term g p k)) (sum-size g p start.requires.1 start.requires.2 k coefficient_count (i + 1) start.requires.0)
      (lit< tt)

pub loop-i-init : goal.loop-i-init
loop-i-init c =
    let args = c.args in
    let last : c.if-k-g.end ≡ min (args.k + 1) (length args.g.now)
    = elim c.if-k-g.branch [ then-k-g w ↦ omega arith | else-k-g w ↦ omega arith ] in
    let first : c.if-k-p.first ≡ args.k + 1 - length args.p.now = elim c.if-k-p.branch [ then-k-p w ↦ omega arith | else-k-p w ↦ omega arith ] in
    (omega arith, omega arith, last, sym (sum-none args.g.now args.p.now args.k c.if-k-p.first first))

pub overflow_mul-sum : goal.overflow_mul-sum
overflow_mul-sum c = product-fits c

pub overflow_add-sum : goal.overflow_add-sum
overflow_add-sum c = rw (next-is c) (next_fits c)

pub loop-i-preserved : goal.loop-i-preserved
loop-i-preserved c = (
  omega arith,
  omega arith,
  c.loop-i.invariant.2,
  ap (λ z. to_z w64 (of_z w64 z)) (next-is c) ∙ to_z-of_z (next_fits c),
)

pub returns : goal.returns
returns c =
    let loop = c.loop-i in
    let g = c.args.g.now in
    let p = c.args.p.now in
    let is = loop.invariant.3 ∙ sum-all g p c.args.k loop.i (omega arith) loop.invariant.0 in
    record { value = is; result_bound = rw is (product-size g p c.requires.1 c.requires.2 c.args.k coefficient_count c.requires.0) }
