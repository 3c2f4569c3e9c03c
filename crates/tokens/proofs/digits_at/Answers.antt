-- `tokens::digits_at` meets its contract. The tests of the code are those of the definition, in their order; the digits are those in front.
-- Assumes nothing.
use Rattle.std.proofs.Common.{◌≡◌, ℕ, ◌+◌, ◌-◌, ◌<◌, true, false, cond, eqb, ltb, leb, List, length, get_or, pos, neg_ℤ, sym, refl, ap, ◌∙◌, arith, to_z-of_z, eq-eqb, ne_eqb, le-leb}
use borrow.Author.Rules.{sfits_of}
use borrow.Author.Tests.{not-false, not-true, lt-leb}
use lib.Bits.{bit_xor}
use lib.Seq.{slice}
use Rattle.rules.specs.Numbers.{is_separator_of, is_digit_of, value_from}
use Rattle.tokens.specs.Tokens.{digits-size}
use Rattle.tokens.specs.Words.{begins}
use Rattle.tokens.specs.Straight.{are_digits_at, digits_end, digits-none, digits-found, front-short}
use mir.Syntax.{w64}
use Rattle.tokens.proofs.digits_at.Goals as goal
use Rattle.tokens.proofs.digits_at.Goals.{After-after_sign-from, After-front_digits-d, Else-first-eq48, Else-not-is_digit, Start}

pub returns-then-bytes-at-lt-LONGEST : goal.returns-then-bytes-at-lt-LONGEST
unfolding are_digits_at
returns-then-bytes-at-lt-LONGEST c = digits-none _ _ refl _ (rw (lt-leb _ _ c.if-bytes-at-lt-LONGEST.true))

pub returns-then-not-is_separator : goal.returns-then-not-is_separator
unfolding are_digits_at
returns-then-not-is_separator c =
    let none : is_separator_of c.args.separator ≡ false =
    sym c.is_separator.ensures ∙ not-true _ c.if-not-is_separator.true-raw in
    digits-none _ _ refl _ (rw (le-leb _ _ c.if-bytes-at-lt-LONGEST.false, none))

-- There is room, and the separator is one.
module _ (a : After-after_sign-from) where
  abbrev start : Start
  start = (goal.at.After-after_sign-from a).Start

  abbrev bytes : List ℕ
  bytes = start.args.bytes.now

  abbrev at : ℕ
  at = start.args.at

  abbrev separator : ℕ
  separator = start.args.separator

  abbrev from : ℕ
  from = a.after_sign-from.result

  room : leb 12 (length bytes - at) ≡ true
  room = le-leb _ _ a.if-bytes-at-lt-LONGEST.false

  is_one : is_separator_of separator ≡ true
  is_one = sym a.is_separator.ensures ∙ not-false _ a.if-not-is_separator.false-raw

pub returns-then-first-eq48 : goal.returns-then-first-eq48
unfolding are_digits_at
returns-then-first-eq48 c =
    let a = (goal.at.returns-then-first-eq48 c).After-after_sign-from in
    digits-none _ _ a.after_sign-from.ensures.0 _ (rw (room a, is_one a, eq-eqb _ _ c.if-first-eq48.true))

-- The first byte is no 0.
module _ (o : Else-first-eq48) where
  abbrev sign : After-after_sign-from
  sign = (goal.at.Else-first-eq48 o).After-after_sign-from

  other : eqb (get_or (bytes sign) (from sign) 0) 48 ≡ false
  other = ne_eqb _ _ o.if-first-eq48.false

pub returns-then-not-is_digit : goal.returns-then-not-is_digit
unfolding are_digits_at
returns-then-not-is_digit c =
    let o = (goal.at.returns-then-not-is_digit c).Else-first-eq48 in
    let a = sign o in
    let none : is_digit_of (get_or (bytes a) (from a) 0) ≡ false = sym c.is_digit.ensures ∙ not-true _ c.if-not-is_digit.true-raw in
    digits-none _ _ a.after_sign-from.ensures.0 _ (rw (room a, is_one a, other o, none))

-- What is known of the first digit.
module _ (e : Else-not-is_digit) where
  abbrev begun : After-after_sign-from
  begun = sign (goal.at.Else-not-is_digit e).Else-first-eq48

  digit : is_digit_of (get_or (bytes begun) (from begun) 0) ≡ true
  digit = sym e.is_digit.ensures ∙ not-false _ e.if-not-is_digit.false-raw

pub front_digits-d-requires : goal.front_digits-d-requires
front_digits-d-requires c =
    let e = (goal.at.front_digits-d-requires c).Else-not-is_digit in
    let a = begun e in
    record {
      at_in_bounds = (omega arith, begins _ _ a.after_sign-from.ensures.0 (digit e), digit e);
      x_value = (ap (λ w. bit_xor w 0x3030303030303030) c.eight_word-x.ensures, c.stops-s.ensures, c.front_count-n.ensures);
    }

-- Where the digits end.
module _ (d : After-front_digits-d) where
  abbrev first : Else-not-is_digit
  first = (goal.at.After-front_digits-d d).Else-not-is_digit

  abbrev last : ℕ
  last = digits_end (bytes (begun first)) (from (begun first)) (at (begun first) + 10 - from (begun first))

  ends : d.front_digits-d.result.end ≡ last
  ends = d.front_digits-d.ensures.end_value

  inside : d.front_digits-d.result.end + 1 < length (bytes (begun first))
  inside = omega (arith, ends, front-short (bytes (begun first)) (at (begun first) + 10 - from (begun first)) (from (begun first)))

pub bounds-bytes-end : goal.bounds-bytes-end
bounds-bytes-end c = omega (arith, inside (goal.at.bounds-bytes-end c).After-front_digits-d)

pub returns-then-bytes-end : goal.returns-then-bytes-end
unfolding are_digits_at
returns-then-bytes-end c =
    let d = (goal.at.returns-then-bytes-end c).After-front_digits-d in
    let e = first d in
    let a = begun e in
    let none : eqb (get_or (bytes a) (last d) 0) (separator a) ≡ false =
    ap (λ k. eqb (get_or (bytes a) k 0) (separator a)) (sym (ends d)) ∙ ne_eqb _ _ c.if-bytes-end.true in
    digits-none _ _ a.after_sign-from.ensures.0 _ (rw (room a, is_one a, other (goal.at.Else-not-is_digit e).Else-first-eq48, digit e, none))

pub signed_value-requires : goal.signed_value-requires
signed_value-requires c = digits-size _ _ _ _ c.front_digits-d.ensures.digits_to

pub overflow_add-result : goal.overflow_add-result
overflow_add-result c = omega (arith, inside (goal.at.overflow_add-result c).After-front_digits-d)

pub returns : goal.returns
unfolding are_digits_at
returns c =
    let d = (goal.at.returns c).After-front_digits-d in
    let e = first d in
    let a = begun e in
    let mark : eqb (get_or (bytes a) (last d) 0) (separator a) ≡ true =
    ap (λ k. eqb (get_or (bytes a) k 0) (separator a)) (sym (ends d)) ∙ eq-eqb _ _ c.if-bytes-end.false in
    digits-found _ _ a.after_sign-from.ensures.0 _
    (rw (room a, is_one a, other (goal.at.Else-not-is_digit e).Else-first-eq48, digit e, mark))
    (to_z-of_z {w = w64} (sfits_of c.signed_value.type_inv) ∙ c.signed_value.ensures
    ∙ ap (λ v. cond (ltb (at a) (from a)) (neg_ℤ (pos v)) (pos v))
    (sym d.front_digits-d.ensures.digits_to.value ∙ ap (λ k. value_from 0 (slice (from a) k (bytes a))) (ends d)))
    (ap (λ k. k + 1) (ends d))
