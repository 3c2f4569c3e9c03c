-- `number_texts::digit_count` meets its contract. The loop's invariant: the digits of the rest are still to be counted, all but one.
-- Assumes nothing.
use mathlib.Core.Path.{◌≡◌}
use Prim.Native.Nat.{◌+◌, ◌≤◌}
use lib.ListN.{length}
use Rattle.number_texts.specs.Texts.{digits_of}
use Rattle.number_texts.proofs.digit_count.Given as goal

abbrev pub invariant-loop-rest : goal.invariant-loop-rest
invariant-loop-rest l = (l.rest ≤ l.n) × (l.count + length (digits_of l.rest) ≡ length (digits_of l.n))

abbrev pub decreases-loop-rest : goal.decreases-loop-rest
decreases-loop-rest l = l.rest
