-- `tokens::with_digit` meets its contract. What was read goes on at a digit.
-- Assumes nothing.
use Rattle.std.proofs.Common.{◌≡◌, ◌+◌, ◌-◌, ◌*◌, ◌≤◌, true, get_or, sym, ◌∙◌, arith}
use borrow.Author.Tests.{not-false, not-true}
use Rattle.rules.specs.Numbers.{is_digit_of}
use Rattle.tokens.specs.Tokens.{DigitsTo, digits-size, digits-go-on, digit-bounds}
use Rattle.tokens.specs.Straight.{front-short, front-digit, front-none}
use Rattle.tokens.proofs.with_digit.Goals as goal
use Rattle.tokens.proofs.with_digit.Goals.{Else-not-is_digit, Start}

pub returns-then-not-is_digit : goal.returns-then-not-is_digit
returns-then-not-is_digit c =
    let none = sym c.is_digit.ensures ∙ not-true _ c.if-not-is_digit.true-raw in
    record { digits_to = c.requires.0; end_value = omega (arith, front-none c.args.bytes.now 0 c.args.d.end none) }

-- What is known of a byte that is a digit, and of the digits with it.
module _ (c : Else-not-is_digit) where
  abbrev s : Start
  s = (goal.at.Else-not-is_digit c).Start

  digit : is_digit_of (get_or s.args.bytes.now s.args.d.end 0) ≡ true
  digit = sym c.is_digit.ensures ∙ not-false _ c.if-not-is_digit.false-raw

  bounds : (48 ≤ get_or s.args.bytes.now s.args.d.end 0) × (get_or s.args.bytes.now s.args.d.end 0 ≤ 57)
  bounds = digit-bounds _ digit

  goes_on : DigitsTo s.args.bytes.now s.args.from (s.args.d.end + 1)
      (10 * s.args.d.value + (get_or s.args.bytes.now s.args.d.end 0 - 48))
  goes_on = digits-go-on _ _ _ _ s.requires.0 s.requires.2 s.requires.1 digit

pub overflow_mul-result : goal.overflow_mul-result
overflow_mul-result c = omega (arith, digits-size _ _ _ _ (s (goal.at.overflow_mul-result c).Else-not-is_digit).requires.0)

pub overflow_sub-b : goal.overflow_sub-b
overflow_sub-b c = (bounds (goal.at.overflow_sub-b c).Else-not-is_digit).0

pub overflow_add-result-2 : goal.overflow_add-result-2
overflow_add-result-2 c = omega (arith, digits-size _ _ _ _ (goes_on (goal.at.overflow_add-result-2 c).Else-not-is_digit), c.wide.ensures.0)

pub returns : goal.returns
returns c =
    let e = (goal.at.returns c).Else-not-is_digit in
    let bytes = (s e).args.bytes.now in
    let end = (s e).args.d.end in
    record {
      digits_to = rw c.wide.ensures.0 (goes_on e);
      end_value = omega (arith, front-digit bytes 0 end (digit e), front-short bytes 0 (end + 1));
    }
