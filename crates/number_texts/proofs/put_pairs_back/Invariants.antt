-- `number_texts::put_pairs_back` meets its contract. The loop's invariant: the digits of the rest are still to be stored.
-- Assumes nothing.
use mathlib.Core.Path.{◌≡◌}
use mathlib.Core.List.{List, ◌++◌}
use Prim.Native.Nat.{ℕ, ◌+◌, ◌≤◌}
use lib.ListN.{length}
use lib.Seq.{sets}
use Rattle.number_texts.specs.Texts.{digits_of}
use Rattle.number_texts.proofs.put_pairs_back.Given as goal

abbrev pub invariant-loop-rest : goal.invariant-loop-rest
invariant-loop-rest l =
    (l.i + length (digits_of l.n) ≡ l.end + length (digits_of l.rest))
    × (length (digits_of l.rest) ≤ length (digits_of l.n))
    × (length l.bytes ≡ length l.initial.bytes)
    × ((at : ℕ) (front : List ℕ) → at + (length front + length (digits_of l.n)) ≡ l.end
    → sets l.bytes at (front ++ digits_of l.rest) ≡ sets l.initial.bytes at (front ++ digits_of l.n))

abbrev pub decreases-loop-rest : goal.decreases-loop-rest
decreases-loop-rest l = l.rest
