-- `number_texts::put_digits_back` meets its contract. The loop's invariant: the digits of the rest are still to be stored.
-- Assumes nothing.
use mathlib.Core.Path.{◌≡◌}
use Prim.Native.Nat.{◌+◌, ◌≤◌}
use lib.ListN.{length}
use lib.Seq.{sets}
use Rattle.number_texts.specs.Texts.{digits_of}
use Rattle.number_texts.proofs.put_digits_back.Given as goal

abbrev pub invariant-loop-rest : goal.invariant-loop-rest
invariant-loop-rest l =
    (l.i ≤ l.end)
    × (l.i ≡ l.at + length (digits_of l.rest))
    × (sets l.bytes l.at (digits_of l.rest) ≡ sets l.initial.bytes l.at (digits_of l.n))
    × (length l.bytes ≡ length l.initial.bytes)

abbrev pub decreases-loop-rest : goal.decreases-loop-rest
decreases-loop-rest l = l.rest
