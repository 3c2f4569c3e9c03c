-- `multiplicities::multiplicity` meets its contract. The invariant: the divisions made and those that are left, of what is left, are those
-- of p. The measure is the number left.
-- Assumes nothing.
use mathlib.Core.Path.{◌≡◌, sym, ◌∙◌, ap, subst}
use mathlib.Core.List.{List}
use Prim.Native.Nat.{ℕ, suc, ◌+◌, ◌-◌}
use native.Mathlib.Nat.{zero-add}
use native.Mathlib.Omega.{arith}
use lib.IntN.{ℤ}
use lib.ListN.{length}
use mir.Facts.{to_z-of_z}
use Rattle.algebra.specs.Multiplicity.{divisions, multiplicity}
use Rattle.algebra.specs.Polynomials.{eval, is_zero_ℤ, quotient}
use Rattle.algebra.specs.Vanishing.{quotient-length, is_zero_ℤ-sound}
use Rattle.lists.specs.Tests.{true-T}
use Rattle.rules.specs.Limits.{coefficient_count}
use Rattle.multiplicities.specs.Divisions.{Sized, Limited, divides, divided-some, divided-none, sized-divides, sized-divisible, sized-small, sized-quotient, divisions-none, divisions-more}
use Rattle.multiplicities.proofs.multiplicity.Goals as goal
use Rattle.multiplicities.proofs.multiplicity.Goals.{After-rest-1, At-loop-times, Start}

-- The state at the loop's head.
module _ (c : At-loop-times) where
  abbrev start : Start
  start = c.before.before.before

  abbrev p : List ℤ
  p = start.args.p.now

  abbrev r : ℤ
  r = start.args.r

  abbrev rest : List ℤ
  rest = c.loop-times.rest

  abbrev times : ℕ
  times = c.loop-times.times

  sized : Sized r rest
  sized = rw (to_z-of_z start.ranges.r) at c.loop-times.invariant.1

  counted : times + divisions (coefficient_count - times) rest r ≡ divisions coefficient_count c.copied-rest.result r
  counted = rw (to_z-of_z start.ranges.r) at c.loop-times.invariant.2

  whole : divisions coefficient_count c.copied-rest.result r ≡ multiplicity p r
  unfolding multiplicity
  whole = ap (λ q. divisions coefficient_count q r) c.copied-rest.ensures ∙ ap (λ n. divisions n p r) (sym start.requires.0)

  -- Where no division is left or the next has a rest.
  stop : divisions (coefficient_count - times) rest r ≡ 0 → times ≡ multiplicity p r
  stop e = omega (arith, e, counted, whole)

pub loop-times-init : goal.loop-times-init
loop-times-init c =
    simp (to_z-of_z c.ranges.r) (
      ap length c.copied-rest.ensures ∙ c.requires.0,
      subst (Sized c.args.r) (sym c.copied-rest.ensures) (sized-small c.args.r c.args.p.now c.requires.1),
      zero-add _,
    )

-- What a division is asked, and what it says.
module _ (c : After-rest-1) where
  abbrev head : At-loop-times
  head = c.before.before

  limited : Limited (r head) c.limit_at-limit.result
  limited = rw (to_z-of_z c.ranges.r) at c.limit_at-limit.ensures

  divides-is : divides c.limit_at-limit.result (r head) (rest head) ≡ is_zero_ℤ (eval (rest head) (r head))
  divides-is = sized-divides (r head) (rest head) c.limit_at-limit.result head.loop-times.invariant.0 (sized head) limited

pub divided-requires : goal.divided-requires
divided-requires c =
    rw (to_z-of_z c.ranges.r)
    (sized-divisible (r (head c)) (rest (head c)) c.limit_at-limit.result c.loop-times.invariant.0 (sized (head c)) (limited c) c.requires.2)

pub returns-in_default : goal.returns-in_default
returns-in_default c =
    let at = (goal.at.returns-in_default c).After-rest-1 in
    let none = divided-none c.limit_at-limit.result (r (head at)) (rest (head at)) (rw (to_z-of_z c.ranges.r) at c.in_default.ensures) in
    stop (head at) (divisions-none (coefficient_count - c.loop-times.times) (rest (head at)) (r (head at)) (sym (divides-is at) ∙ none))

pub loop-times-preserved : goal.loop-times-preserved
loop-times-preserved c =
    let at = (goal.at.loop-times-preserved c).After-rest-1 in
    let h = head at in
    let (divides, same) = divided-some c.limit_at-limit.result (r h) (rest h) (rw (to_z-of_z c.ranges.r) at c.in-Some.ensures) in
    let yes = sym (divides-is at) ∙ divides in
    let root = is_zero_ℤ-sound (eval (rest h) (r h)) (true-T _ yes) in
    let less : coefficient_count - times h - 1 ≡ coefficient_count - (times h + 1) = omega arith in
    let one = divisions-more (coefficient_count - times h) (rest h) (r h) (omega (arith, c.loop-times-test.true)) yes
    ∙ ap (λ k. suc (divisions k (quotient (r h) (rest h)) (r h))) less in
    simp (same, to_z-of_z c.ranges.r) (
      quotient-length (r h) (rest h) ∙ h.loop-times.invariant.0,
      sized-quotient (r h) (rest h) (sized h) root,
      omega (arith, one, counted h),
    )

pub returns : goal.returns
unfolding divisions
returns c =
    let head = c.before in
    let none : coefficient_count - times head ≡ 0 = omega (arith, c.loop-times-test.false) in
    let all : times head ≡ 16 = omega (arith, c.loop-times-test.false) in
    sym all ∙ stop head (ap (λ k. divisions k (rest head) (r head)) none)
