-- `tokens::digits_from` meets its contract. A digit goes on with those before it.
-- Assumes nothing.
use Rattle.std.proofs.Common.{◌≡◌, ◌+◌, ◌-◌, ◌*◌, ◌≤◌, true, get_or, sym, ◌∙◌, inl, arith}
use borrow.Author.Tests.{not-true, not-false}
use Rattle.rules.specs.Numbers.{is_digit_of}
use Rattle.tokens.specs.Tokens.{DigitsTo, digits-begin, digits-size, digits-go-on, digit-bounds}
use Rattle.tokens.proofs.digits_from.Goals as goal
use Rattle.tokens.proofs.digits_from.Goals.{At-loop-end, Else-not-is_digit, Start}

pub loop-end-init : goal.loop-end-init
loop-end-init c = digits-begin _ _ c.requires

-- What a turn knows of the byte that it reads, and of the digits after it.
module _ (c : Else-not-is_digit) where
  abbrev s : Start
  s = (goal.at.Else-not-is_digit c).Start

  abbrev l : At-loop-end
  l = (goal.at.Else-not-is_digit c).At-loop-end

  digit : is_digit_of (get_or s.args.bytes.now l.loop-end.end 0) ≡ true
  digit = sym c.is_digit.ensures ∙ not-false _ c.if-not-is_digit.false-raw

  bounds : (48 ≤ get_or s.args.bytes.now l.loop-end.end 0) × (get_or s.args.bytes.now l.loop-end.end 0 ≤ 57)
  bounds = digit-bounds _ digit

  goes_on : DigitsTo s.args.bytes.now s.args.from (l.loop-end.end + 1)
      (10 * l.loop-end.value + (get_or s.args.bytes.now l.loop-end.end 0 - 48))
  goes_on = digits-go-on _ _ _ _ l.loop-end.invariant (omega arith) (omega arith) digit

pub overflow_mul-value : goal.overflow_mul-value
overflow_mul-value c = omega (arith, digits-size _ _ _ _ (l c).loop-end.invariant)

pub overflow_sub-value : goal.overflow_sub-value
overflow_sub-value c = (bounds c).0

pub overflow_cast-value : goal.overflow_cast-value
overflow_cast-value c = omega (arith, bounds c)

pub overflow_add-value : goal.overflow_add-value
overflow_add-value c = omega (arith, digits-size _ _ _ _ (goes_on c))

pub loop-end-preserved : goal.loop-end-preserved
loop-end-preserved c = goes_on c

pub returns-then-not-is_digit : goal.returns-then-not-is_digit
returns-then-not-is_digit c = (c.loop-end.invariant, λ h. inl (sym c.is_digit.ensures ∙ not-true _ c.if-not-is_digit.true-raw))
