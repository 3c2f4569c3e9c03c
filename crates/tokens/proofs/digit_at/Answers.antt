-- `tokens::digit_at` meets its contract. The tests of the code are those of the definition, in their order.
-- Assumes nothing.
use Rattle.std.proofs.Common.{◌≡◌, ℕ, ◌+◌, ◌-◌, ◌≤◌, true, false, cond, eqb, ltb, leb, List, length, get_or, pos, neg_ℤ, sym, refl, ap, ◌∙◌, arith, to_z-of_z, eq-eqb, ne_eqb, le-leb}
use borrow.Author.Rules.{sfits_of}
use borrow.Author.Tests.{not-false, not-true, lt-leb}
use Rattle.rules.specs.Numbers.{is_separator_of, is_digit_of}
use Rattle.tokens.specs.Tokens.{digit-bounds}
use Rattle.tokens.specs.Straight.{is_digit_at, digit-none, digit-found}
use mir.Syntax.{w64}
use Rattle.tokens.proofs.digit_at.Goals as goal
use Rattle.tokens.proofs.digit_at.Goals.{After-after_sign-from, Else-after-separator, Else-not-is_digit, Else-not-is_separator}

pub returns-then-bytes-at-lt3 : goal.returns-then-bytes-at-lt3
unfolding is_digit_at
returns-then-bytes-at-lt3 c = digit-none _ _ refl _ (rw (lt-leb _ _ c.if-bytes-at-lt3.true))

module _ (a : After-after_sign-from) where
  abbrev bytes : List ℕ
  bytes = a.args.bytes.now

  abbrev at : ℕ
  at = a.args.at

  abbrev separator : ℕ
  separator = a.args.separator

  abbrev from : ℕ
  from = a.after_sign-from.result

  room : leb 3 (length bytes - at) ≡ true
  room = le-leb _ _ a.if-bytes-at-lt3.false

pub returns-then-after-separator : goal.returns-then-after-separator
unfolding is_digit_at
returns-then-after-separator c =
    let a = (goal.at.returns-then-after-separator c).After-after_sign-from in
    digit-none _ _ a.after_sign-from.ensures.0 _ (rw (room a, ne_eqb _ _ c.if-after-separator.true))

-- The separator that was asked for stands there.
module _ (m : Else-after-separator) where
  abbrev sign : After-after_sign-from
  sign = (goal.at.Else-after-separator m).After-after_sign-from

  mark : eqb (get_or (bytes sign) (from sign + 1) 0) (separator sign) ≡ true
  mark = eq-eqb _ _ m.if-after-separator.false

pub returns-then-not-is_separator : goal.returns-then-not-is_separator
unfolding is_digit_at
returns-then-not-is_separator c =
    let m = (goal.at.returns-then-not-is_separator c).Else-after-separator in
    let none : is_separator_of (separator (sign m)) ≡ false =
    ap is_separator_of (sym m.if-after-separator.false) ∙ sym c.is_separator.ensures ∙ not-true _ c.if-not-is_separator.true-raw in
    digit-none _ _ (sign m).after_sign-from.ensures.0 _ (rw (room (sign m), mark m, none))

module _ (s : Else-not-is_separator) where
  abbrev asked : Else-after-separator
  asked = (goal.at.Else-not-is_separator s).Else-after-separator

  is_one : is_separator_of (separator (sign asked)) ≡ true
  is_one = ap is_separator_of (sym asked.if-after-separator.false) ∙ sym s.is_separator.ensures ∙ not-false _ s.if-not-is_separator.false-raw

pub returns-then-not-is_digit : goal.returns-then-not-is_digit
unfolding is_digit_at
returns-then-not-is_digit c =
    let s = (goal.at.returns-then-not-is_digit c).Else-not-is_separator in
    let m = asked s in
    let none : is_digit_of (get_or (bytes (sign m)) (from (sign m)) 0) ≡ false =
    sym c.is_digit.ensures ∙ not-true _ c.if-not-is_digit.true-raw in
    digit-none _ _ (sign m).after_sign-from.ensures.0 _ (rw (room (sign m), mark m, is_one s, none))

-- What is known of a byte that is a digit, behind which the separator stands.
module _ (e : Else-not-is_digit) where
  abbrev behind : Else-not-is_separator
  behind = (goal.at.Else-not-is_digit e).Else-not-is_separator

  abbrev begun : After-after_sign-from
  begun = sign (asked behind)

  digit : is_digit_of (get_or (bytes begun) (from begun) 0) ≡ true
  digit = sym e.is_digit.ensures ∙ not-false _ e.if-not-is_digit.false-raw

  bounds : (48 ≤ get_or (bytes begun) (from begun) 0) × (get_or (bytes begun) (from begun) 0 ≤ 57)
  bounds = digit-bounds _ digit

pub overflow_sub-b : goal.overflow_sub-b
overflow_sub-b c = (bounds c).0

pub returns-then-size-from : goal.returns-then-size-from
unfolding is_digit_at
returns-then-size-from c =
    let e = (goal.at.returns-then-size-from c).Else-not-is_digit in
    let a = begun e in
    let none : leb (from a - at a) (get_or (bytes a) (from a) 0 - 48) ≡ false =
    lt-leb (from a - at a) (get_or (bytes a) (from a) 0 - 48) (omega (arith, c.wide-size.ensures.0, c.if-size-from.true)) in
    digit-none _ _ a.after_sign-from.ensures.0 _
    (rw (room a, mark (asked (behind e)), is_one (behind e), digit e, none))

pub returns : goal.returns
unfolding is_digit_at
returns c =
    let e = (goal.at.returns c).Else-not-is_digit in
    let a = begun e in
    let right : leb (from a - at a) (get_or (bytes a) (from a) 0 - 48) ≡ true =
    le-leb (from a - at a) (get_or (bytes a) (from a) 0 - 48) (omega (arith, c.wide-size.ensures.0, c.if-size-from.false)) in
    digit-found _ _ a.after_sign-from.ensures.0 _
    (rw (room a, mark (asked (behind e)), is_one (behind e), digit e, right))
    (to_z-of_z {w = w64} (sfits_of c.signed_value.type_inv) ∙ c.signed_value.ensures
    ∙ ap (λ v. cond (ltb (at a) (from a)) (neg_ℤ (pos v)) (pos v)) c.wide-size.ensures.0) refl
