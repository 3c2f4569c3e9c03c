-- `evaluation::evaluate` meets its contract. The invariant: what is left is a front of p, and the value is that of the coefficients behind it.
-- Assumes nothing.
use Rattle.std.specs.Prelude.{◌≡◌, ◌≤◌, ◌<◌, ◌+◌, ◌*◌, List, ℤ, pos, nat_abs, ◌+ℤ◌, ◌*ℤ◌, length, drop, get_or}
use Rattle.std.proofs.Common.{sym, ◌∙◌, ap, subst, arith, le_trans, le_of_eq, mul-le-mul, SFits, of_z, to_z, to_z-of_z}
use Rattle.std.proofs.Math.Option.{some}
use Rattle.std.specs.Int.{w64}
use lib.Dec.{lit<}
use Rattle.integers.specs.Ranges.{sfits-size}
use Rattle.algebra.specs.Integers.{nat_abs-+ℤ, nat_abs-*ℤ}
use Rattle.rules.specs.Limits.{bound}
use Rattle.lists.specs.Taken.{length_none}
use Rattle.polynomials.specs.Content.{small_at}
use Rattle.evaluation.specs.Evaluated.{Front, front-less, front-whole, value_limit, within, farthest, horner, horner-next, horner-last, horner-past, within-yes, within-no}
use Rattle.evaluation.proofs.evaluate.Goals as goal
use Rattle.evaluation.proofs.evaluate.Goals.{In-Some-a}

-- A turn: the highest coefficient that is left is joined.
module _ (c : In-Some-a) where
  abbrev p : List ℤ
  p = c.args.p.now

  abbrev n : ℤ
  n = c.args.n

  abbrev a : ℤ
  a = c.in-Some-a.a.now

  abbrev left : List ℤ
  left = c.next.new.self.iter.rest.now

  abbrev value : ℤ
  value = to_z w64 c.loop-a.value-bits

  abbrev next : ℤ
  next = a +ℤ n *ℤ value

  step : Front p left × (length c.loop-a.a-iterator.iter.rest.now ≡ length left + 1) × (length left < length p) × (a ≡ get_or p (length left) (pos 0))
  step = front-less p c.loop-a.a-iterator.iter.rest.now left a c.loop-a.invariant.0 c.in-Some-a.ensures.steps

  small-a : nat_abs a ≤ bound
  small-a = rw step.3 (small_at p c.requires.0 (length left))

  product-size : nat_abs (n *ℤ value) ≤ farthest * value_limit
  product-size = le_trans (le_of_eq (nat_abs-*ℤ n value)) (mul-le-mul c.requires.1 c.loop-a.invariant.1)

  product-fits : SFits w64 (n *ℤ value)
  product-fits = sfits-size (n *ℤ value) product-size (lit< tt)

  next_fits : SFits w64 next
  next_fits =
      sfits-size next {k = farthest * value_limit + bound} (omega (arith, nat_abs-+ℤ a (n *ℤ value), product-size, small-a)) (lit< tt)

  next-is : to_z w64 (of_z w64 a) +ℤ to_z w64 (of_z w64 (to_z w64 (of_z w64 n) *ℤ value)) ≡ next
  next-is = simp (to_z-of_z c.ranges.n, to_z-of_z product-fits, to_z-of_z (sfits-size a small-a (lit< tt)))

  next-value : horner n (drop (length left) p) ≡ within next
  next-value =
      let value-is = rw (to_z-of_z c.ranges.n) at c.loop-a.invariant.2 in
      horner-next n p (length left) value step.2 (subst (λ k. horner n (drop k p) ≡ some value) step.1 value-is)
      ∙ ap (λ x. within (x +ℤ n *ℤ value)) (sym step.3)

-- There is no coefficient.
pub returns-in_default : goal.returns-in_default
unfolding horner
returns-in_default c = sym (ap (horner c.args.n) (length_none c.args.p.now c.in_default.ensures.cases))

-- The highest coefficient is the value to begin with.
pub loop-a-init : goal.loop-a-init
loop-a-init c =
    let p = c.args.p.now in
    let lower = c.in-Some.lower.now in
    let step = front-less p p lower c.in-Some.top.now (front-whole p) c.in-Some.ensures.cases.0 in
    let size : nat_abs c.in-Some.top.now ≤ bound = rw step.3 (small_at p c.requires.0 (length lower)) in
    let fits : SFits w64 c.in-Some.top.now = sfits-size c.in-Some.top.now size (lit< tt) in
    let same : c.into_iter-a-iterator.result.iter.rest.now ≡ lower = cc in
    let last = horner-last (to_z w64 (of_z w64 c.args.n)) p (length lower) (sym step.1) (rw (← step.3) (omega (arith, size))) in
    rw (to_z-of_z fits, same) (step.0, omega (arith, size), last ∙ ap some (sym step.3))

pub overflow_add-value : goal.overflow_add-value
overflow_add-value c = let d = (goal.at.overflow_add-value c).In-Some-a in rw (next-is d) (next_fits d)

pub returns-then-magnitude-gt-LIMIT : goal.returns-then-magnitude-gt-LIMIT
returns-then-magnitude-gt-LIMIT c =
    let d = (goal.at.returns-then-magnitude-gt-LIMIT c).In-Some-a in
    let size = simp (next-is d, to_z-of_z (next_fits d)) at c.magnitude.ensures in
    let past : value_limit < nat_abs (next d) = omega (arith, size, c.if-magnitude-gt-LIMIT.true) in
    sym (horner-past (n d) (p d) (length (left d)) (next-value d ∙ within-no (next d) past))

pub loop-a-preserved : goal.loop-a-preserved
loop-a-preserved c =
    let d = (goal.at.loop-a-preserved c).In-Some-a in
    let fits = next_fits d in
    let size = simp (next-is d, to_z-of_z fits) at c.magnitude.ensures in
    let near : nat_abs (next d) ≤ value_limit = omega (arith, size, c.if-magnitude-gt-LIMIT.false) in
    simp (next-is d) (
      (step d).0,
      rw (to_z-of_z fits) near,
      simp (to_z-of_z c.ranges.n, to_z-of_z fits) (next-value d ∙ within-yes (next d) near),
    )
