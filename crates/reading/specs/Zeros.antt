-- Stores of zeros.
--
-- Main statements
--   length-zeros, take-zeros, drop-zeros   their numbers and their parts
--   zero-again           a store that is zero past a place, cleared up to it
use Rattle.std.specs.Prelude.{ℕ, ◌+◌, ◌-◌, ◌≤◌, ◌≡◌, List, ◌++◌, length, take, drop, replicate, ℤ, pos}
use Rattle.std.proofs.Common.{le_of_eq, zero-add, arith, sym, ap, ap₂, ◌∙◌, take-append-drop, take_all, take_at, drop_at}
use Rattle.std.proofs.lemmas.List.{length-replicate, replicate-append-replicate}
use Rattle.std.proofs.Math.Seq.{paste}
use Rattle.rules.specs.Calls.{zeros}

pub length-zeros : (n : ℕ) → length (zeros n) ≡ n
unfolding zeros
length-zeros n = length-replicate n (pos 0)

zeros-parts : (n k : ℕ) → n ≤ k → zeros k ≡ zeros n ++ zeros (k - n)
unfolding zeros
zeros-parts n k h =
    let e : k ≡ n + (k - n) = omega arith in
    ap zeros e ∙ sym (replicate-append-replicate n (k - n) (pos 0))

pub take-zeros : (n k : ℕ) → n ≤ k → take n (zeros k) ≡ zeros n
take-zeros n k h = ap (take n) (zeros-parts n k h) ∙ take_at (zeros n) (zeros (k - n)) n (length-zeros n)

pub drop-zeros : (n k : ℕ) → n ≤ k → drop n (zeros k) ≡ zeros (k - n)
drop-zeros n k h = ap (drop n) (zeros-parts n k h) ∙ drop_at (zeros n) (zeros (k - n)) n (length-zeros n)

pub zero-again : (n k : ℕ) (store : List ℤ) → n ≤ k → drop n store ≡ drop n (zeros k) → paste store 0 (replicate n (pos 0)) n ≡ zeros k
unfolding zeros
zero-again n k store h e =
    ap₂ ◌++◌ (take_all n (zeros n) (le_of_eq (length-zeros n)) ∙ sym (take-zeros n k h)) (ap (λ j. drop j store) (zero-add n) ∙ e)
    ∙ take-append-drop n (zeros k)
