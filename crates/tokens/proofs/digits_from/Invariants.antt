-- `tokens::digits_from` meets its contract. The loop's invariant: the bytes from `from` up to `end` are digits with the value
-- `value`.
-- Assumes nothing.
use Rattle.tokens.specs.Tokens.{DigitsTo}
use Rattle.tokens.proofs.digits_from.Given as goal

abbrev pub invariant-loop-end : goal.invariant-loop-end
invariant-loop-end l = DigitsTo l.bytes l.from l.end l.value
