-- `multiplicities::divided` meets its contract. The invariant, `Dividing`: q holds the coefficients of the quotient from i on, and the
-- value is the next, within the limit.
-- Assumes nothing.
use mathlib.Core.Path.{◌≡◌, sym, ◌∙◌, ap, subst}
use mathlib.Core.Bool.{cond}
use mathlib.Core.List.{List}
use Prim.Native.Nat.{ℕ, ◌+◌, ◌*◌, ◌-◌, ◌≤◌, ◌<◌}
use native.Mathlib.Nat.{le_trans, le_of_eq, le_refl, mul-le-mul}
use native.Mathlib.Omega.{arith}
use lib.IntN.{ℤ, pos, nat_abs, ◌+ℤ◌, ◌*ℤ◌}
use lib.ListN.{get_or, length}
use mir.Syntax.{w64}
use mir.Val.{SFits, of_z, to_z}
use mir.Facts.{to_z-of_z}
use Rattle.integers.specs.Ranges.{sfits-size}
use Rattle.polynomials.specs.Content.{zero_bits, nonzero-bits}
use Rattle.algebra.specs.Vanishing.{is_zero_ℤ-sound}
use Rattle.lists.specs.Tests.{false_of}
use Rattle.algebra.specs.Integers.{nat_abs-+ℤ, nat_abs-*ℤ}
use Rattle.algebra.specs.Polynomials.{is_zero_ℤ, quotient}
use Rattle.rules.specs.Limits.{bound, coefficient_count}
use Rattle.std.specs.Prelude.{None, Some}
use Rattle.multiplicities.specs.Divisions.{largest, divides, Dividing, dividing-start, dividing-next, dividing-past, dividing-end}
use Rattle.multiplicities.proofs.divided.Goals as goal
use Rattle.multiplicities.proofs.divided.Goals.{After-magnitude, At-loop-i}

-- The state at the loop's head, and the value that coefficient k is joined to.
module _ (c : At-loop-i) where
  abbrev p : List ℤ
  p = c.args.p.now

  abbrev r : ℤ
  r = c.args.r

  abbrev limit : ℕ
  limit = c.args.limit

  abbrev value : ℤ
  value = to_z w64 c.loop-i.value-bits

  abbrev place : ℕ
  place = c.loop-i.i - 1

  long : length p ≡ coefficient_count
  long = c.requires.long

  fits-r : SFits w64 r
  fits-r = c.ranges.r

  state : Dividing limit r p c.loop-i.q value place
  state = rw (to_z-of_z fits-r) at c.loop-i.invariant.1

  product-size : nat_abs (value *ℤ r) ≤ bound * bound
  product-size = le_trans (le_of_eq (nat_abs-*ℤ value r)) (le_trans (mul-le-mul state.size (le_refl (nat_abs r))) c.requires.product)

  product-fits : SFits w64 (value *ℤ r)
  product-fits = sfits-size (value *ℤ r) product-size (omega arith)

  coefficient-fits : (k : ℕ) → SFits w64 (get_or p k (pos 0))
  coefficient-fits k = sfits-size (get_or p k (pos 0)) (c.requires.coefficients k) (omega arith)

  abbrev joined : ℕ → ℤ
  joined k = value *ℤ r +ℤ get_or p k (pos 0)

  joined-fits : (k : ℕ) → SFits w64 (joined k)
  joined-fits k =
      let size : nat_abs (joined k) ≤ bound * bound + largest =
      omega (arith, nat_abs-+ℤ (value *ℤ r) (get_or p k (pos 0)), product-size, c.requires.coefficients k) in
      sfits-size (joined k) size (omega arith)

  joined_is : (k : ℕ) → to_z w64 (of_z w64 (value *ℤ to_z w64 (of_z w64 r))) +ℤ to_z w64 (of_z w64 (get_or p k (pos 0))) ≡ joined k
  joined_is k = simp (to_z-of_z fits-r, to_z-of_z product-fits, to_z-of_z (coefficient-fits k))

size_is : (c : After-magnitude) → let head = c.before.before.before in
    c.magnitude.result ≡ nat_abs (joined head (place head))
size_is c =
    let head = c.before.before.before in
    simp (joined_is head (place head), to_z-of_z (joined-fits head (place head))) at c.magnitude.ensures

pub loop-i-init : goal.loop-i-init
loop-i-init c = (omega arith, rw (to_z-of_z c.ranges.r) (dividing-start c.args.limit c.args.r c.args.p.now c.requires.long))

pub overflow_mul-value : goal.overflow_mul-value
overflow_mul-value c = rw (to_z-of_z (fits-r c.before)) (product-fits c.before)

pub overflow_add-value : goal.overflow_add-value
overflow_add-value c = let head = c.before.before in rw (joined_is head (place head)) (joined-fits head (place head))

pub returns-then-limit-magnitude : goal.returns-then-limit-magnitude
returns-then-limit-magnitude c =
    let head = c.before.before.before.before in
    let past : limit head < nat_abs (joined head (place head)) = omega (arith, size_is c.before, c.if-limit-magnitude.true) in
    let more : 0 < place head = omega (arith, c.loop-i-test.true) in
    sym (ap (λ t. cond t (Some (quotient (r head) (p head))) None)
    (dividing-past (limit head) (r head) (p head) (long head) (state head) more past))

pub loop-i-preserved : goal.loop-i-preserved
loop-i-preserved c =
    let head = c.before.before.before.before in
    let more : 0 < place head = omega (arith, c.loop-i-test.true) in
    let fits = joined-fits head (place head) in
    let here : nat_abs (joined head (place head)) ≤ limit head = omega (arith, size_is c.before, c.if-limit-magnitude.false) in
    simp (joined_is head (place head))
    (simp (to_z-of_z (fits-r head), to_z-of_z fits)
    (omega arith, dividing-next (limit head) (r head) (p head) (long head) (state head) more here))

-- The end: coefficient 0 is joined.
end_is : (c : At-loop-i) → c.loop-i.i ≤ 1
    → (c.loop-i.q ≡ quotient (r c) (p c)) × (is_zero_ℤ (joined c 0) ≡ divides (limit c) (r c) (p c))
end_is c h =
    let last : place c ≡ 0 = omega (arith, h) in
    dividing-end (limit c) (r c) (p c) (long c) (subst (Dividing (limit c) (r c) (p c) c.loop-i.q (value c)) last (state c))

pub overflow_mul-rest : goal.overflow_mul-rest
overflow_mul-rest c = rw (to_z-of_z (fits-r c.before)) (product-fits c.before)

pub overflow_add-rest : goal.overflow_add-rest
overflow_add-rest c = let head = c.before.before in rw (joined_is head 0) (joined-fits head 0)

pub returns-then-rest-eq0 : goal.returns-then-rest-eq0
unfolding is_zero_ℤ
returns-then-rest-eq0 c =
    let head = c.before.before.before in
    let (whole, decides) = end_is head c.loop-i-test.false in
    let zero = zero_bits (joined-fits head 0) (ap (of_z w64) (sym (joined_is head 0)) ∙ c.if-rest-eq0.true) in
    let yes = sym decides ∙ ap is_zero_ℤ zero in
    ap Some whole ∙ sym (ap (λ t. cond t (Some (quotient (r head) (p head))) None) yes)

pub returns-else-rest-eq0 : goal.returns-else-rest-eq0
returns-else-rest-eq0 c =
    let head = c.before.before.before in
    let decides = (end_is head c.loop-i-test.false).1 in
    let no = sym decides ∙ false_of (is_zero_ℤ (joined head 0))
    (λ t. nonzero-bits c.if-rest-eq0.false (joined_is head 0 ∙ is_zero_ℤ-sound (joined head 0) t)) in
    sym (ap (λ t. cond t (Some (quotient (r head) (p head))) None) no)
