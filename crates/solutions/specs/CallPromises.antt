-- What a call on stores promises: its checks let valid systems through, and what it lists is the answer to the system in its stores
-- (SCOPE 14.6).
--
-- Main statements
--   checked-valid     where the checks find nothing, the stores hold a valid system whose right sides are zero
--   call-checked      then the result and the work stores are those of the answer
--   call-refused      otherwise the number of the check comes back and no store is written
--   call_none         where it says that there is none, there is none
--   call-found        where an N is found, the list store holds the list of the system in the stores
use Prim.Native.Nat.{ℕ, zero, suc}
use Rattle.std.proofs.Math.Path.{◌≡◌, refl, ap}
use Rattle.std.proofs.Math.Bool.{true, cond}
use Rattle.std.specs.Prelude.{false, ◌&&◌, List, length, ℤ}
use Rattle.std.proofs.Math.Logic.{⊎_elim}
use Rattle.std.proofs.Common.{arith}
use Rattle.std.proofs.Math.Dec.{T, leb}
use Rattle.lists.specs.Overwritten.{overwrite}
use Rattle.lists.specs.Tests.{T-&&, cond-zero}
use Rattle.rules.specs.Stores.{Sizes, equations, rows_of, relations_of, sizes_right_of, count_right, lengths_right_of, numbers_right_of, Valid}
use Rattle.rules.specs.Layout.{check_stores-zero, stores-valid}
use Rattle.solutions.specs.SolutionAnswers.{Answer, refused_with, none_listed, listed, homogeneous, answer}
use Rattle.constant_rows.specs.ListLengths.{list_need, matrix_need}
use Rattle.solutions.specs.SolutionCalls.{Work, Call, all_lengths, check_call, unlisted, result_of, list_in, work_after, after_check}
use Rattle.solutions.specs.SolutionCalls.{solutions_call}
use Rattle.back_substitution.specs.Listed.{list_store_of}
use Rattle.solutions.specs.AnswerNumbers.{Number, answer-number}

-- The answer is a list, which stands in the list store and whose N and count come back.
pub record FoundList (a : Answer) (list : List ℤ) (c : Call) : Type 0 where
  pub last : ℕ
  pub sequences : List (List ℤ)
  pub answer-is : a ≡ listed last sequences
  pub list-is : c.work.list ≡ overwrite (list_store_of sequences) list
  pub result-is : c.result ≡ result_of (listed last sequences)

module _ (z : Sizes) (count : ℕ) (row_store relation_store : List ℤ) (w : Work) where
  -- The answer to the system in the stores.
  unfoldable pub answered : Answer
  answered = answer z (rows_of (equations z) row_store) (relations_of count relation_store)

  pub checked-valid : check_call z count row_store relation_store w ≡ 0
      → Valid z (rows_of (equations z) row_store) (relations_of count relation_store)
      × T (homogeneous (rows_of (equations z) row_store) (relations_of count relation_store))
  unfolding check_call all_lengths
  checked-valid e =
      let sides : ℕ = cond (homogeneous (rows_of (equations z) row_store) (relations_of count relation_store)) 0 14 in
      let numbers : ℕ = cond (numbers_right_of z count row_store relation_store) sides 5 in
      let lengths : ℕ = cond (all_lengths z row_store relation_store w) numbers 1 in
      let (right, more) = cond-zero (sizes_right_of z && count_right count) lengths 1 e in
      let (long, rest) = cond-zero (all_lengths z row_store relation_store w) numbers 0 more in
      let (small, last) = cond-zero (numbers_right_of z count row_store relation_store) sides 4 rest in
      let (zero-sides, _) = cond-zero (homogeneous (rows_of (equations z) row_store) (relations_of count relation_store)) 0 13 last in
      let sizes = (T-&& (sizes_right_of z) (count_right count)).0 right in (
        stores-valid z count row_store relation_store ((check_stores-zero z count row_store relation_store).1
            (record { sizes = sizes.0; few = sizes.1; lengths = first long; numbers = small })),
        zero-sides,
      )
    where
      first : T (all_lengths z row_store relation_store w) → T (lengths_right_of (equations z) row_store relation_store)
      first h =
          ((T-&& (lengths_right_of (equations z) row_store relation_store) (lengths_right_of (equations z) w.rows w.relations)).0
          ((T-&& (lengths_right_of (equations z) row_store relation_store && lengths_right_of (equations z) w.rows w.relations)
          (leb matrix_need (length w.matrix))).0
          ((T-&& (lengths_right_of (equations z) row_store relation_store && lengths_right_of (equations z) w.rows w.relations
          && leb matrix_need (length w.matrix)) (leb list_need (length w.list))).0 h).0).0).0

  -- From the trailing run on (SCOPE 14.63).
  pub call-checked : check_call z count row_store relation_store w ≡ 0
      → solutions_call z count row_store relation_store w ≡ record { result = result_of answered; work = work_after z answered w }
  unfolding solutions_call after_check answered
  call-checked e = ap (after_check z count row_store relation_store w) e

  -- A refusal of the checks (SCOPE 14.62).
  pub call-refused : (n : ℕ) → check_call z count row_store relation_store w ≡ suc n
      → solutions_call z count row_store relation_store w ≡ record { result = unlisted false (suc n); work = w }
  unfolding solutions_call after_check
  call-refused n e = ap (after_check z count row_store relation_store w) e

  -- Where an N is found, the checks have found nothing, and the list is that of the system (SCOPE 14.63, 14.64).
  pub call-found : (solutions_call z count row_store relation_store w).result.found ≡ true
      → (check_call z count row_store relation_store w ≡ 0) × FoundList answered w.list (solutions_call z count row_store relation_store w)
  unfolding solutions_call after_check answered result_of work_after list_in
  call-found h = cases (check_call z count row_store relation_store w) refl h
    where
      of-answer : (a : Answer) → (result_of a).found ≡ true → FoundList a w.list (record { result = result_of a; work = work_after z a w })
      of-answer (refused_with n) e = let d : ◌≡◌ {A = ℕ} 0 1 = cc in absurd (omega arith)
      of-answer none_listed e = let d : ◌≡◌ {A = ℕ} 0 1 = cc in absurd (omega arith)
      of-answer (listed N l) e = record { last = N; sequences = l; answer-is = refl; list-is = refl; result-is = refl }

      cases : (k : ℕ) → check_call z count row_store relation_store w ≡ k → (after_check z count row_store relation_store w k).result.found ≡ true
          → (check_call z count row_store relation_store w ≡ 0) × FoundList answered w.list (after_check z count row_store relation_store w k)
      cases zero e f = (e, of-answer answered f)
      cases (suc n) e f = let d : ◌≡◌ {A = ℕ} 0 1 = cc in absurd (omega arith)

  -- No refusal and no N: the checks have found nothing, and the answer is that there is none (SCOPE 14.64).
  pub call_none : (solutions_call z count row_store relation_store w).result.refusal ≡ 0
      → (solutions_call z count row_store relation_store w).result.found ≡ false
      → (check_call z count row_store relation_store w ≡ 0) × (answered ≡ none_listed)
  unfolding solutions_call after_check answered result_of
  call_none h k = cases (check_call z count row_store relation_store w) refl h k
    where
      positive : (n : ℕ) → Number n → n ≡ 0 → ⊥
      positive n o e = ⊎_elim (λ p. omega arith)
          (λ q. ⊎_elim (λ r. ⊎_elim (λ p. omega arith) (λ t. ⊎_elim (λ p. omega arith) (λ p. omega arith) t) r)
          (λ p. omega arith) q) o

      of-answer : (a : Answer) → ((n : ℕ) → a ≡ refused_with n → Number n) → (result_of a).refusal ≡ 0 → (result_of a).found ≡ false
          → a ≡ none_listed
      of-answer (refused_with n) o e f = absurd (positive n (o n refl) e)
      of-answer none_listed o e f = refl
      of-answer (listed N l) o e f = let d : ◌≡◌ {A = ℕ} 0 1 = cc in absurd (omega arith)

      cases : (j : ℕ) → check_call z count row_store relation_store w ≡ j → (after_check z count row_store relation_store w j).result.refusal ≡ 0
          → (after_check z count row_store relation_store w j).result.found ≡ false
          → (check_call z count row_store relation_store w ≡ 0) × (answered ≡ none_listed)
      cases zero e f g = (
        e,
        of-answer answered
            (answer-number z (rows_of (equations z) row_store) (relations_of count relation_store) (checked-valid e).0) f g,
      )
      cases (suc n) e f g = absurd (omega arith)
