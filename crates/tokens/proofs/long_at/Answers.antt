-- `tokens::long_at` meets its contract. The tests of the code are those of the definition, in their order; behind eight digits come at
-- most two.
-- Assumes nothing.
use Rattle.std.proofs.Common.{◌≡◌, ℕ, ◌+◌, ◌-◌, ◌<◌, ◌≤◌, true, false, cond, ltb, leb, List, length, get_or, pos, neg_ℤ, sym, refl, ap, ◌∙◌, arith, to_z-of_z, eq-eqb, ne_eqb, le-leb}
use borrow.Author.Rules.{sfits_of}
use borrow.Author.Tests.{not-false, not-true, lt-leb}
use lib.Seq.{slice}
use Rattle.rules.specs.Numbers.{is_separator_of, value_from}
use Rattle.tokens.specs.Tokens.{digits-size}
use Rattle.tokens.specs.Straight.{eight_digits_of, is_long_at, digits_end, long-none, long-found, front-short, front-end, stop-two}
use mir.Syntax.{w64}
use Rattle.tokens.proofs.long_at.Goals as goal
use Rattle.tokens.proofs.long_at.Goals.{After-after_sign-from, After-with_digit-d, After-with_digit-nine, Else-bytes-from-eq48, Else-not-eight_digits}

pub returns-then-bytes-at-lt-LONGEST : goal.returns-then-bytes-at-lt-LONGEST
unfolding is_long_at
returns-then-bytes-at-lt-LONGEST c = long-none _ _ refl (rw (lt-leb _ _ c.if-bytes-at-lt-LONGEST.true))

module _ (a : After-after_sign-from) where
  abbrev bytes : List ℕ
  bytes = a.args.bytes.now

  abbrev at : ℕ
  at = a.args.at

  abbrev from : ℕ
  from = a.after_sign-from.result

  room : from + 10 < length bytes
  room = omega arith

  left : leb 12 (length bytes - at) ≡ true
  left = le-leb _ _ a.if-bytes-at-lt-LONGEST.false

pub eight_digits-requires : goal.eight_digits-requires
eight_digits-requires c = omega (arith, room c)

pub returns-then-not-eight_digits : goal.returns-then-not-eight_digits
unfolding is_long_at
returns-then-not-eight_digits c =
    let a = (goal.at.returns-then-not-eight_digits c).After-after_sign-from in
    let none : eight_digits_of (bytes a) (from a) ≡ false = sym c.eight_digits.ensures ∙ not-true _ c.if-not-eight_digits.true-raw in
    long-none _ _ a.after_sign-from.ensures.0 (rw (left a, none))

pub bounds-bytes-from : goal.bounds-bytes-from
bounds-bytes-from c = omega (arith, room (goal.at.bounds-bytes-from c).After-after_sign-from)

-- There are eight digits.
module _ (e : Else-not-eight_digits) where
  abbrev sign : After-after_sign-from
  sign = (goal.at.Else-not-eight_digits e).After-after_sign-from

  eight : eight_digits_of (bytes sign) (from sign) ≡ true
  eight = sym e.eight_digits.ensures ∙ not-false _ e.if-not-eight_digits.false-raw

pub returns-then-bytes-from-eq48 : goal.returns-then-bytes-from-eq48
unfolding is_long_at
returns-then-bytes-from-eq48 c =
    let e = (goal.at.returns-then-bytes-from-eq48 c).Else-not-eight_digits in
    long-none _ _ (sign e).after_sign-from.ensures.0 (rw (left (sign e), eight e, eq-eqb _ _ c.if-bytes-from-eq48.true))

pub eight_value-requires : goal.eight_value-requires
eight_value-requires c =
    let e = (goal.at.eight_value-requires c).Else-not-eight_digits in
    (omega (arith, room (sign e)), eight e)

pub with_digit-nine-requires : goal.with_digit-nine-requires
with_digit-nine-requires c = (c.eight_value.ensures, omega arith, omega (arith, room (goal.at.with_digit-nine-requires c).After-after_sign-from))

pub with_digit-d-requires : goal.with_digit-d-requires
with_digit-d-requires c =
    let a = (goal.at.with_digit-d-requires c).After-after_sign-from in
    let short = front-short (bytes a) 1 (from a + 8) in
    (c.with_digit-nine.ensures.digits_to, omega arith, omega (arith, room a))

-- The digits end behind the eighth and before the separator.
module _ (d : After-with_digit-d) where
  abbrev nine : After-with_digit-nine
  nine = (goal.at.After-with_digit-d d).After-with_digit-nine

  abbrev other : Else-bytes-from-eq48
  other = (goal.at.After-with_digit-nine nine).Else-bytes-from-eq48

  abbrev begun : After-after_sign-from
  begun = sign (goal.at.Else-bytes-from-eq48 other).Else-not-eight_digits

  abbrev end : ℕ
  end = d.with_digit-d.result.end

  short : (end ≤ from begun + 10) × (from begun ≤ end)
  short =
      let one = front-short (bytes begun) 1 (from begun + 8) in
      let two = front-short (bytes begun) 1 nine.with_digit-nine.result.end in
      (omega arith, omega arith)

  ends : end ≡ digits_end (bytes begun) (from begun) 10
  ends =
      front-end (bytes begun) 10 (from begun) end short.1 (omega (arith, short.0, room begun)) d.with_digit-d.ensures.digits_to.all_digits
      short.0
      (λ h. stop-two (bytes begun) (from begun + 8) nine.with_digit-nine.ensures.end_value d.with_digit-d.ensures.end_value (omega (arith, h)))

pub bounds-bytes-end : goal.bounds-bytes-end
bounds-bytes-end c = omega (arith, short (goal.at.bounds-bytes-end c).After-with_digit-d, room (begun (goal.at.bounds-bytes-end c).After-with_digit-d))

pub returns-then-not-is_separator : goal.returns-then-not-is_separator
unfolding is_long_at
returns-then-not-is_separator c =
    let d = (goal.at.returns-then-not-is_separator c).After-with_digit-d in
    let a = begun d in
    let none : is_separator_of (get_or (bytes a) (digits_end (bytes a) (from a) 10) 0) ≡ false =
    ap (λ k. is_separator_of (get_or (bytes a) k 0)) (sym (ends d)) ∙ sym c.is_separator.ensures ∙ not-true _ c.if-not-is_separator.true-raw in
    long-none _ _ a.after_sign-from.ensures.0 (rw (left a, eight (goal.at.Else-bytes-from-eq48 (other d)).Else-not-eight_digits, ne_eqb _ _ (other d).if-bytes-from-eq48.false, none))

pub signed_value-requires : goal.signed_value-requires
signed_value-requires c = digits-size _ _ _ _ c.with_digit-d.ensures.digits_to

pub returns : goal.returns
unfolding is_long_at
returns c =
    let d = (goal.at.returns c).After-with_digit-d in
    let a = begun d in
    let mark : is_separator_of (get_or (bytes a) (digits_end (bytes a) (from a) 10) 0) ≡ true =
    ap (λ k. is_separator_of (get_or (bytes a) k 0)) (sym (ends d)) ∙ sym c.is_separator.ensures
    ∙ not-false _ c.if-not-is_separator.false-raw in
    long-found _ _ a.after_sign-from.ensures.0
    (rw (left a, eight (goal.at.Else-bytes-from-eq48 (other d)).Else-not-eight_digits, ne_eqb _ _ (other d).if-bytes-from-eq48.false, mark))
    (to_z-of_z {w = w64} (sfits_of c.signed_value.type_inv) ∙ c.signed_value.ensures
    ∙ ap (λ v. cond (ltb (at a) (from a)) (neg_ℤ (pos v)) (pos v))
    (sym d.with_digit-d.ensures.digits_to.value ∙ ap (λ k. value_from 0 (slice (from a) k (bytes a))) (ends d)))
    (ends d)
