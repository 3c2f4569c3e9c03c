-- The total of a list of numbers.
--
-- Main definitions
--   total l         the sum of the numbers of a list
--
-- Main statements
--   total-one-more, total_at_most   the total where one number is raised by 1
--   get_or-total      no number is above the total
--   total-next, total-front         the total of the first numbers, one by one
use Rattle.std.specs.Prelude.{ℕ, zero, suc, ◌+◌, ◌≤◌, ◌<◌, ◌≡◌, List, [], ◌∷◌, length, take, get_or, set}
use Rattle.std.proofs.Common.{zero-le, arith}

unfoldable pub total : List ℕ → ℕ
total [] = 0
total (n ∷ l) = n + total l

pub total-one-more : (l : List ℕ) (i : ℕ) → i < length l → total (set l i (suc (get_or l i 0))) ≡ suc (total l)
unfolding total
total-one-more [] i h = absurd (omega arith)
total-one-more (n ∷ l) zero h = let e : suc n + total l ≡ suc (n + total l) = omega arith in e
total-one-more (n ∷ l) (suc i) h =
    let e : n + total (set l i (suc (get_or l i 0))) ≡ suc (n + total l) = omega (arith, total-one-more l i (omega arith)) in e

pub total_at_most : (l : List ℕ) (i : ℕ) → total (set l i (suc (get_or l i 0))) ≤ suc (total l)
unfolding total
total_at_most [] i = zero-le
total_at_most (n ∷ l) zero = let h : suc n + total l ≤ suc (n + total l) = omega arith in h
total_at_most (n ∷ l) (suc i) =
    let h : n + total (set l i (suc (get_or l i 0))) ≤ suc (n + total l) = omega (arith, total_at_most l i) in h

pub get_or-total : (l : List ℕ) (i : ℕ) → get_or l i 0 ≤ total l
unfolding total
get_or-total [] i = zero-le
get_or-total (n ∷ l) zero = let h : n ≤ n + total l = omega arith in h
get_or-total (n ∷ l) (suc i) = let h : get_or l i 0 ≤ n + total l = omega (arith, get_or-total l i) in h

pub total-next : (l : List ℕ) (i : ℕ) → i < length l → total (take (suc i) l) ≡ total (take i l) + get_or l i 0
unfolding total
total-next [] i h = absurd (omega arith)
total-next (n ∷ l) zero h = let e : n + 0 ≡ 0 + n = omega arith in e
total-next (n ∷ l) (suc i) h =
    let e : n + total (take (suc i) l) ≡ n + total (take i l) + get_or l i 0 = omega (arith, total-next l i (omega arith)) in e

pub total-front : (l : List ℕ) (i : ℕ) → total (take i l) ≤ total l
unfolding total
total-front l zero = zero-le
total-front [] (suc i) = zero-le
total-front (n ∷ l) (suc i) = let h : n + total (take i l) ≤ n + total l = omega (arith, total-front l i) in h
