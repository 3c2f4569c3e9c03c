-- `common_roots::divided_at` meets its contract. The invariant: as many divisions as are left give, from both polynomials as they are, what
-- all of them give from the first, and those made and those to come are as many as there are.
-- Assumes nothing.
use mathlib.Core.Path.{◌≡◌, sym, ◌∙◌, ap}
use mathlib.Core.Bool.{false, ◌&&◌, and-false}
use mathlib.Core.List.{List}
use Prim.Native.Nat.{ℕ, suc, ◌+◌, ◌-◌, ◌<◌}
use native.Mathlib.Nat.{zero-add}
use native.Mathlib.Omega.{arith}
use lib.IntN.{ℤ}
use mir.Facts.{to_z-of_z}
use Rattle.rules.specs.Limits.{bound}
use Rattle.rules.specs.CommonRoots.{Entries, divide_at}
use Rattle.algebra.specs.Polynomials.{quotient}
use Rattle.multiplicities.specs.Divisions.{divided-some, divided-none}
use Rattle.common_roots.specs.Divisions.{Fits, entries_of, divides, divides-within, divide_at-none, divide_at-both, sixteen-divisible, quotient-sixteen}
use Rattle.common_roots.specs.DividedTimes.{made_at, made_at-none, made_at-both}
use Rattle.common_roots.proofs.divided_at.Goals as goal
use Rattle.common_roots.proofs.divided_at.Goals.{At-loop-made}

-- Both polynomials at the loop's head.
module _ (c : At-loop-made) where
  abbrev r : ℤ
  r = c.args.r

  abbrev a : List ℤ
  a = c.loop-made.left.pivot

  abbrev b : List ℤ
  b = c.loop-made.left.target

  abbrev now : Entries
  now = entries_of c.loop-made.left

  abbrev given : Entries
  given = entries_of c.args.entries

  abbrev left : ℕ
  left = c.args.times - c.loop-made.made

  rest : divide_at left r now ≡ divide_at c.args.times r given
  rest = rw (to_z-of_z c.ranges.r) at c.loop-made.invariant.1

  counted : c.loop-made.made + made_at left r now ≡ made_at c.args.times r given
  counted = rw (to_z-of_z c.ranges.r) at c.loop-made.invariant.2

  Ended : Type 0
  Ended = (Fits c.loop-made.left × (now ≡ divide_at c.args.times r given)) × (c.loop-made.made ≡ made_at c.args.times r given)

  -- Where no more divisions are made, this is the end.
  ended : divide_at left r now ≡ now → made_at left r now ≡ 0 → Ended
  unfolding Ended
  ended same none = ((c.loop-made.invariant.0, sym same ∙ rest), omega (arith, counted, none))

  -- One of both does not divide.
  stop : (divides r a && divides r b) ≡ false → Ended
  stop t = ended (divide_at-none left r now t) (made_at-none left r now t)

pub loop-made-init : goal.loop-made-init
loop-made-init c =
    let all : c.args.times - 0 ≡ c.args.times = omega arith in
    let given = entries_of c.args.entries in
    simp (to_z-of_z c.ranges.r) (
      c.requires.0,
      ap (λ k. divide_at k c.args.r given) all,
      zero-add (made_at (c.args.times - 0) c.args.r given) ∙ ap (λ k. made_at k c.args.r given) all,
    )

-- What the two divisions are asked.
pub divided-requires : goal.divided-requires
divided-requires c = rw (to_z-of_z c.ranges.r) (sixteen-divisible c.args.r c.loop-made.left.pivot c.loop-made.invariant.0.0 c.requires.1)

pub divided-requires-in-loop-made : goal.divided-requires-in-loop-made
divided-requires-in-loop-made c =
    rw (to_z-of_z c.ranges.r) (sixteen-divisible c.args.r c.loop-made.left.target c.loop-made.invariant.0.1 c.requires.1)

pub returns-in_default : goal.returns-in_default
unfolding Ended
returns-in_default c =
    let head = (goal.at.returns-in_default c).At-loop-made in
    let none = divides-within (r head) (a head) ∙ divided-none bound (r head) (a head) (rw (to_z-of_z c.ranges.r) at (c.in_default.ensures)) in
    let end = stop head (ap (λ t. t && divides (r head) (b head)) none) in
    record { fits = end.0; made_value = end.1 }

pub returns-in_default-divided : goal.returns-in_default-divided
unfolding Ended
returns-in_default-divided c =
    let head = (goal.at.returns-in_default-divided c).At-loop-made in
    let none = divides-within (r head) (b head) ∙ divided-none bound (r head) (b head) (rw (to_z-of_z c.ranges.r) at (c.in_default-divided.ensures)) in
    let end = stop head (ap (λ t. divides (r head) (a head) && t) none ∙ and-false (divides (r head) (a head))) in
    record { fits = end.0; made_value = end.1 }

pub loop-made-preserved : goal.loop-made-preserved
loop-made-preserved c =
    let head = (goal.at.loop-made-preserved c).At-loop-made in
    let (yes-a, same-a) = divided-some bound (r head) (a head) (rw (to_z-of_z c.ranges.r) at (c.in-Some.ensures)) in
    let (yes-b, same-b) = divided-some bound (r head) (b head) (rw (to_z-of_z c.ranges.r) at (c.in-Some-divided.ensures)) in
    let in-a = divides-within (r head) (a head) ∙ yes-a in
    let in_b = divides-within (r head) (b head) ∙ yes-b in
    let some : 0 < left head = omega (arith, c.loop-made-test.true) in
    let less : left head - 1 ≡ c.args.times - (c.loop-made.made + 1) = omega (arith, c.loop-made-test.true) in
    let divided : Entries = record { pivot = quotient (r head) (a head); target = quotient (r head) (b head) } in
    let one = made_at-both (left head) (r head) (now head) some in-a in_b ∙ ap (λ k. suc (made_at k (r head) divided)) less in
    rw (same-a, same-b, to_z-of_z c.ranges.r) (
      (quotient-sixteen (r head) (a head) c.loop-made.invariant.0.0.0 in-a, quotient-sixteen (r head) (b head) c.loop-made.invariant.0.1.0 in_b),
      sym (divide_at-both (left head) (r head) (now head) some in-a in_b ∙ ap (λ k. divide_at k (r head) divided) less) ∙ rest head,
      omega (arith, counted head, one),
    )

pub returns : goal.returns
unfolding Ended divide_at made_at
returns c =
    let head = (goal.at.returns c).At-loop-made in
    let none : left head ≡ 0 = omega (arith, c.loop-made-test.false) in
    let all : c.args.times ≡ c.loop-made.made = omega (arith, c.loop-made-test.false) in
    let end = ended head (ap (λ k. divide_at k (r head) (now head)) none) (ap (λ k. made_at k (r head) (now head)) none) in
    record { fits = end.0; made_value = all ∙ end.1 }
