-- `roots::vanishes` meets its contract. The invariant: the value is that of the coefficients from i on, and not large. The measure is i.
-- Assumes nothing.
use mathlib.Core.Path.{◌≡◌, sym, ◌∙◌, ap, subst}
use mathlib.Core.List.{List}
use Prim.Native.Nat.{ℕ, ◌+◌, ◌*◌, ◌-◌, ◌≤◌, ◌<◌}
use native.Mathlib.Nat.{le_trans, le_of_eq, mul-le-mul}
use native.Mathlib.Omega.{arith}
use lib.Dec.{eqb}
use lib.IntN.{ℤ, pos, nat_abs, ◌+ℤ◌, ◌*ℤ◌}
use lib.ListN.{drop, get_or}
use mir.Syntax.{w64}
use mir.Val.{SFits, of_z, to_z}
use mir.Facts.{to_z-of_z, of_z-to_z, sfits_to_z}
use Rattle.integers.specs.Ranges.{sfits-size, of_z-zero}
use Rattle.algebra.specs.Integers.{nat_abs-+ℤ, nat_abs-*ℤ}
use Rattle.algebra.specs.Polynomials.{eval, is_zero_ℤ}
use Rattle.algebra.specs.Vanishing.{is_zero_ℤ-sound}
use Rattle.lists.specs.Tests.{false_of}
use Rattle.rules.specs.Limits.{bound}
use Rattle.polynomials.specs.Content.{small_at}
use Rattle.roots.specs.Bound.{horner-next, never_back}
use Rattle.roots.specs.RootSearch.{fits-small}
use Rattle.roots.proofs.vanishes.Goals as goal
use Rattle.roots.proofs.vanishes.Goals.{After-magnitude, At-loop-i}

-- A turn: coefficient i, one before the loop's place, is joined.
module _ (c : At-loop-i) where
  abbrev p : List ℤ
  p = c.args.p.now

  abbrev r : ℤ
  r = c.args.r

  abbrev i : ℕ
  i = c.loop-i.i - 1

  abbrev value : ℤ
  value = to_z w64 c.loop-i.value-bits

  abbrev next : ℤ
  next = value *ℤ r +ℤ get_or p i (pos 0)

  fits-r : SFits w64 r
  fits-r = c.ranges.r

  value-is : eval (drop c.loop-i.i p) r ≡ value
  value-is = rw (to_z-of_z fits-r) at c.loop-i.invariant.2

  product_is : value *ℤ to_z w64 (of_z w64 r) ≡ value *ℤ r
  product_is = ap (λ x. value *ℤ x) (to_z-of_z fits-r)

  product-size : nat_abs (value *ℤ r) ≤ 4294967296 * bound
  product-size = le_trans (le_of_eq (nat_abs-*ℤ value r)) (mul-le-mul c.loop-i.invariant.1 c.requires.3)

  product-fits : SFits w64 (value *ℤ r)
  product-fits = sfits-size (value *ℤ r) product-size (omega arith)

  next-size : nat_abs next ≤ 4294967297 * bound
  next-size = omega (arith, nat_abs-+ℤ (value *ℤ r) (get_or p i (pos 0)), product-size, small_at p c.requires.1 i)

  next_fits : SFits w64 next
  next_fits = sfits-size next next-size (omega arith)

  next-is : to_z w64 (of_z w64 (value *ℤ to_z w64 (of_z w64 r))) +ℤ to_z w64 (of_z w64 (get_or p i (pos 0))) ≡ next
  next-is = simp (to_z-of_z fits-r, to_z-of_z product-fits, to_z-of_z (fits-small p i c.requires.1))

  next-value : 0 < c.loop-i.i → eval (drop i p) r ≡ next
  next-value h =
      let e : c.loop-i.i ≡ i + 1 = omega arith in
      horner-next p r value i (omega (arith, c.loop-i.invariant.0)) (subst (λ k. eval (drop k p) r ≡ value) e value-is)

size_is : (c : After-magnitude) → c.magnitude.result ≡ nat_abs (next c.before.before.before)
size_is c = simp (next-is c.before.before.before, to_z-of_z (next_fits c.before.before.before)) at c.magnitude.ensures

pub bounds-p-top : goal.bounds-p-top
bounds-p-top c = c.requires.2.0

pub loop-i-init : goal.loop-i-init
loop-i-init c =
    let fits = fits-small c.args.p.now c.args.top c.requires.1 in (
      c.requires.2.0,
      rw (to_z-of_z fits) (omega (arith, small_at c.args.p.now c.requires.1 c.args.top)),
      simp (to_z-of_z fits, to_z-of_z c.ranges.r) (c.requires.2.1 c.args.r),
    )

pub overflow_mul-value : goal.overflow_mul-value
overflow_mul-value c = rw (product_is c.before) (product-fits c.before)

pub overflow_add-value : goal.overflow_add-value
overflow_add-value c = rw (next-is c.before.before) (next_fits c.before.before)

pub returns-then-magnitude-gt-LARGE : goal.returns-then-magnitude-gt-LARGE
returns-then-magnitude-gt-LARGE c =
    let head = c.before.before.before.before in
    let here = next-value head c.loop-i-test.true in
    let past : 16 * bound < nat_abs (eval (drop (i head) (p head)) (r head)) = rw here (omega (arith, size_is c.before, c.if-magnitude-gt-LARGE.true)) in
    sym (false_of (is_zero_ℤ (eval (p head) (r head)))
    (λ t. never_back (p head) (r head) (i head) head.requires.1 head.requires.0 past (is_zero_ℤ-sound (eval (p head) (r head)) t)))

pub loop-i-preserved : goal.loop-i-preserved
loop-i-preserved c =
    let head = c.before.before.before.before in
    let fits = next_fits head in
    let here = next-value head c.loop-i-test.true in
    simp (next-is head) (
      omega (arith, head.loop-i.invariant.0),
      rw (to_z-of_z fits) (omega (arith, size_is c.before, c.if-magnitude-gt-LARGE.false)),
      simp (to_z-of_z (fits-r head), to_z-of_z fits) here,
    )

pub returns : goal.returns
unfolding is_zero_ℤ
returns c =
    let head = c.before in
    let fits = head.loop-i.auto.value-fits in
    let e : head.loop-i.i ≡ 0 = omega arith in
    let whole = subst (λ k. eval (drop k (p head)) (r head) ≡ value head) e (value-is head) in
    ap (λ n. eqb n 0) (sym (of_z-to_z fits)) ∙ of_z-zero _ (sfits_to_z fits) ∙ sym (ap is_zero_ℤ whole)
