-- Lists as the loops over a row write them: part by part over zeros.
--
-- Main definitions
--   front l n      the first n members of l, and zeros in place of the others
--
-- Main statements
--   front-none, front-put, front-skip, front-all, front-whole   none written, one part of 16 more, one that is zero, all
--   front-over, front_rest   the first members written over zeros, and what is not written yet
use Rattle.std.specs.Prelude.{◌≡◌, ℕ, ◌+◌, ◌*◌, ◌-◌, ◌≤◌, T, ℤ, pos, length}
use Rattle.std.proofs.Math.Path.{sym, ap, ap₂}
use Rattle.std.proofs.Common.{◌∙◌, length-append, take-append-drop, take-add, take_at}
use mathlib.Core.List.{List, ◌++◌, append_assoc}
use Rattle.std.proofs.Math.Nat.{sub-zero}
use native.Mathlib.Omega.{arith}
use Rattle.std.proofs.Math.ListN.{take, drop, replicate, length-drop}
use Rattle.std.proofs.lemmas.List.{length-replicate, replicate-append-replicate}
use Rattle.std.proofs.Math.Seq.{drop-length, drop_at, length-take-le}
use Rattle.algebra.specs.Polynomials.{is_zero_of, zero-list}
use Rattle.rules.specs.Limits.{coefficient_count}

-- ---- a list written part by part over zeros

unfoldable pub front : List ℤ → ℕ → List ℤ
front l n = take n l ++ replicate (length l - n) (pos 0)

pub length_front : (l : List ℤ) (n : ℕ) → n ≤ length l → length (front l n) ≡ length l
unfolding front
length_front l n h = simp (length-append, length-replicate, length-take-le n l h) (omega arith)

pub front-none : (l : List ℤ) → front l 0 ≡ replicate (length l) (pos 0)
unfolding front
front-none l = ap (λ n. replicate n (pos 0)) (sub-zero (length l))

pub front-all : (l : List ℤ) (n : ℕ) → T (is_zero_of (drop n l)) → front l n ≡ l
unfolding front
front-all l n h =
    ap (λ m. take n l ++ replicate m (pos 0)) (sym (length-drop n l)) ∙ ap (λ r. take n l ++ r) (sym (zero-list (drop n l) h))
    ∙ take-append-drop n l

pub front-whole : (l : List ℤ) → front l (length l) ≡ l
unfolding is_zero_of
front-whole l = front-all l (length l) (rw drop-length tt)

-- Zeros under which the first n members are overwritten.
pub front-over : (l z : List ℤ) (n : ℕ) → z ≡ replicate (length l) (pos 0) → n ≤ length l → take n l ++ drop n z ≡ front l n
unfolding front
front-over l z n e h =
    let count : length l ≡ n + (length l - n) = omega arith in
    ap (λ r. take n l ++ r)
    (ap (drop n) (e ∙ ap (λ m. replicate m (pos 0)) count ∙ sym (replicate-append-replicate n (length l - n) (pos 0)))
    ∙ drop_at (replicate n (pos 0)) (replicate (length l - n) (pos 0)) n (length-replicate n (pos 0)))

-- What is not written yet holds 0.
pub front_rest : (l : List ℤ) (n k : ℕ) → n + k ≤ length l → take k (drop n (front l n)) ≡ replicate k (pos 0)
unfolding front
front_rest l n k h =
    let count : length l - n ≡ k + (length l - n - k) = omega arith in
    ap (take k) (drop_at (take n l) (replicate (length l - n) (pos 0)) n (length-take-le n l (omega arith))
    ∙ ap (λ m. replicate m (pos 0)) count ∙ sym (replicate-append-replicate k (length l - n - k) (pos 0)))
    ∙ take_at (replicate k (pos 0)) (replicate (length l - n - k) (pos 0)) k (length-replicate k (pos 0))

-- The polynomials of a row stand in parts of 16 numbers.
module _ (l : List ℤ) (e : ℕ) (h : e * coefficient_count + coefficient_count ≤ length l) where
  abbrev n : ℕ
  n = e * coefficient_count

  abbrev next : ℕ
  next = (e + 1) * coefficient_count

  rest-zeros : replicate (length l - n) (pos 0) ≡ replicate coefficient_count (pos 0) ++ replicate (length l - next) (pos 0)
  rest-zeros =
      let count : length l - n ≡ coefficient_count + (length l - next) = omega arith in
      rw (replicate-append-replicate coefficient_count (length l - next) (pos 0), count)

  front-split : front l next ≡ take n l ++ (take coefficient_count (drop n l) ++ replicate (length l - next) (pos 0))
  unfolding front
  front-split =
      let zeros = replicate (length l - next) (pos 0) in
      let sum : next ≡ n + coefficient_count = omega arith in
      ap (λ m. take m l ++ zeros) sum ∙ ap (λ r. r ++ zeros) (take-add n coefficient_count l)
      ∙ append_assoc (take n l) (take coefficient_count (drop n l)) zeros

  -- The next part in its place.
  pub front-put : (k : ℕ) → k ≡ coefficient_count
      → take n (front l n) ++ (take coefficient_count (drop n l) ++ drop k (drop n (front l n))) ≡ front l next
  unfolding front
  front-put k w =
      let zeros = replicate (length l - n) (pos 0) in
      let long = length-take-le n l (omega arith) in
      ap₂ (λ a b. a ++ (take coefficient_count (drop n l) ++ drop k b)) (take_at (take n l) zeros n long) (drop_at (take n l) zeros n long)
      ∙ ap (λ b. take n l ++ (take coefficient_count (drop n l) ++ b))
      (ap₂ drop w rest-zeros ∙ drop_at (replicate coefficient_count (pos 0)) _ coefficient_count (length-replicate coefficient_count (pos 0)))
      ∙ sym front-split

  -- A part of zeros is there already.
  pub front-skip : T (is_zero_of (take coefficient_count (drop n l))) → front l n ≡ front l next
  unfolding front
  front-skip z =
      ap (λ r. take n l ++ r) (rest-zeros ∙ ap (λ r. r ++ replicate (length l - next) (pos 0)) (sym part-zeros)) ∙ sym front-split
    where
      part-zeros : take coefficient_count (drop n l) ≡ replicate coefficient_count (pos 0)
      part-zeros =
          zero-list (take coefficient_count (drop n l)) z
          ∙ ap (λ m. replicate m (pos 0)) (length-take-le coefficient_count (drop n l) (rw length-drop (omega arith)))
