-- The exported call on polynomial solutions: its result as numbers of a lent store.
--
-- Main definitions
--   solution_numbers_of r      the three numbers of a result
--   check_solutions ..      the checks of the call: sizes (2), lengths (1), numbers (5), right sides (14)
--   Solved                 the refusal that the call returned, and every lent store that is not only read
--   export_solutions ..     the call
--   begun_or ..             the result store, by whether the work began
--   SmallSolutions r       N and the number of sequences are small
--
-- Main statements
--   unlisted-zeros         without a list the three numbers are zero
--   not-begun, has-begun   the result store, by whether the work began
--   solutions-short, solutions-done   the call with a result store that is too short, and with one that is long enough
--   solutions-small        the result of every call is small
use Rattle.std.specs.Prelude.{ℕ, zero, suc, ◌≤◌, ◌<◌, ◌≡◌, Bool, ◌&&◌, cond, List, [], ◌∷◌, leb, ℤ, pos, length}
use Rattle.std.proofs.Common.{zero-le, le_trans, le_of_eq, arith, sym, ◌∙◌, le-leb}
use Rattle.std.proofs.Math.Path.{refl, ap, subst}
use Rattle.std.proofs.Math.Bool.{true, false}
use Rattle.std.proofs.lemmas.Bool.{lt-leb}
use Rattle.algebra.specs.Sums.{count_from, length-count_from}
use Rattle.common_roots.specs.Kept.{length-keep}
use Rattle.lists.specs.Overwritten.{overwrite}
use Rattle.rules.specs.Calls.{zeros}
use Rattle.rules.specs.Rows.{Row, Relation}
use Rattle.rules.specs.Stores.{Sizes, Valid, equations, rows_of, relations_of, sizes_right_of, count_right, numbers_right_of, check_stores_of}
use Rattle.rules.specs.Layout.{size-bounds}
use Rattle.constant_rows.specs.Constants.{the_columns_of}
use Rattle.back_substitution.specs.Listed.{is_free_of, free_columns}
use Rattle.solutions.specs.SolutionAnswers.{Answer, refused_with, none_listed, listed, homogeneous, answer}
use Rattle.constant_rows.specs.ListLengths.{largest_index, list_columns}
use Rattle.solutions.specs.SolutionCalls.{Result, Work, Call, all_lengths, check_call, unlisted, result_of}
use Rattle.solutions.specs.SolutionCalls.{solutions_call}
use Rattle.solutions.specs.Course.{listed-course}
use Rattle.constant_rows.specs.RowCounts.{columns-bound}
use Rattle.solutions.specs.ListPromises.{pivots, listed-one-each}
use Rattle.solutions.specs.CallPromises.{answered, checked-valid, call-checked, call-refused}
use Rattle.export_results.specs.Results.{none-checked}

-- ---- the call

-- The numbers that the result has (SCOPE 3.52).
abbrev pub solution_need : ℕ
solution_need = 3

-- 1 or 0 for whether there is an N from 0 on, that N, the number of sequences (SCOPE 3.52, 14.64).
unfoldable pub solution_numbers_of : Result → List ℤ
solution_numbers_of r = pos (cond r.found 1 0) ∷ pos r.last ∷ pos r.count ∷ []

-- Sizes (2), lengths (1), numbers (5), right sides (14) in turn (SCOPE 14.62); the result store is one of the stores (SCOPE 3.53).
unfoldable pub check_solutions : Sizes → ℕ → List ℤ → List ℤ → Work → List ℤ → ℕ
unfolding sizes_right_of count_right all_lengths numbers_right_of homogeneous rows_of relations_of equations
check_solutions z count row_store relation_store w result_store =
    let sides : ℕ = cond (homogeneous (rows_of (equations z) row_store) (relations_of count relation_store)) 0 14 in
    let numbers : ℕ = cond (numbers_right_of z count row_store relation_store) sides 5 in
    let lengths : ℕ = cond (all_lengths z row_store relation_store w && leb solution_need (length result_store)) numbers 1 in
    cond (sizes_right_of z && count_right count) lengths 2

-- The system's stores are only read.
pub record Solved : Type 0 where
  pub refusal : ℕ
  pub work : Work
  pub result_store : List ℤ

-- A refusal found before the work begins leaves every store as it was (SCOPE 3.54, 14.62).
abbrev pub unsolved : ℕ → Work → List ℤ → Solved
unsolved n w result_store = record { refusal = n; work = w; result_store = result_store }

-- An acceptance, or a refusal found during the work, which makes the three numbers of the result zero (SCOPE 3.54, 14.63).
unfoldable pub solved : Call → List ℤ → Solved
unfolding overwrite solution_numbers_of
solved c result_store =
    record { refusal = c.result.refusal; work = c.work; result_store = overwrite (solution_numbers_of c.result) result_store }

unfoldable pub after_solutions_check : Sizes → ℕ → List ℤ → List ℤ → Work → List ℤ → ℕ → Solved
unfolding solved solutions_call
after_solutions_check z count row_store relation_store w result_store zero = solved (solutions_call z count row_store relation_store w) result_store
after_solutions_check z count row_store relation_store w result_store (suc n) = unsolved (suc n) w result_store

unfoldable pub export_solutions : Sizes → ℕ → List ℤ → List ℤ → Work → List ℤ → Solved
unfolding after_solutions_check check_solutions
export_solutions z count row_store relation_store w result_store =
    after_solutions_check z count row_store relation_store w result_store (check_solutions z count row_store relation_store w result_store)

pub unlisted-zeros : (b : Bool) (n : ℕ) → solution_numbers_of (unlisted b n) ≡ zeros solution_need
unfolding solution_numbers_of zeros
unlisted-zeros b n = refl

-- ---- the result store, by whether the work began

unfoldable pub begun_or : Bool → List ℤ → List ℤ → List ℤ
unfolding overwrite
begun_or b numbers result_store = cond b (overwrite numbers result_store) result_store

pub not-begun : (b : Bool) (numbers result_store : List ℤ) → b ≡ false → result_store ≡ begun_or b numbers result_store
unfolding begun_or
not-begun b numbers result_store e = sym (ap (λ t. begun_or t numbers result_store) e)

pub has-begun : (b : Bool) (numbers result_store : List ℤ) → b ≡ true → overwrite numbers result_store ≡ begun_or b numbers result_store
unfolding begun_or
has-begun b numbers result_store e = sym (ap (λ t. begun_or t numbers result_store) e)

-- The call, by what the call on stores did.
abbrev solved_after : Call → List ℤ → Solved
solved_after c result_store =
    record {
      refusal = c.result.refusal;
      work = c.work;
      result_store = begun_or c.result.begun (solution_numbers_of c.result) result_store;
    }

-- Every answer comes of work that has begun.
begun-answer : (a : Answer) → (result_of a).begun ≡ true
unfolding result_of
begun-answer (refused_with n) = refl
begun-answer none_listed = refl
begun-answer (listed N l) = refl

-- ---- the checks, by the length of the result store

abbrev checks : Bool → Bool → Bool → Bool → ℕ
checks s l n h = cond s (cond l (cond n (cond h 0 14) 5) 1) 2

long-check : (s l n h : Bool) → checks s (l && true) n h ≡ checks s l n h
long-check s true n h = refl
long-check s false n h = refl

short-check : (s l n h : Bool) → checks s (l && false) n h ≡ cond s 1 2
short-check s true n h = refl
short-check s false n h = refl

-- ---- N and the number of sequences are small

pub record SmallSolutions (r : Result) : Type 0 where
  pub small-last : r.last ≤ 64
  pub few : r.count ≤ 64

none-small : (b : Bool) (n : ℕ) → SmallSolutions (unlisted b n)
none-small b n = record { small-last = zero-le; few = zero-le }

-- N is at most 15, and there are no more sequences than columns (SCOPE 14.22, 14.51).
pub few-sequences : {z : Sizes} {rows : List Row} {relations : List Relation} → Valid z rows relations
    → (N : ℕ) (l : List (List ℤ)) → answer z rows relations ≡ listed N l → (N ≤ largest_index) × (length l ≤ list_columns)
unfolding free_columns
few-sequences {z} {rows} {relations} valid N l e =
    let small = (listed-course z rows relations N l e).small-end in
    let columns : ℕ = the_columns_of z.m N in (
      small,
      le_trans (le_of_eq (listed-one-each valid e))
          (le_trans (length-keep (is_free_of (pivots valid e)) (count_from 0 columns))
          (le_trans (le_of_eq (length-count_from 0 columns)) (columns-bound z.m N (size-bounds z valid.sizes).few small))),
    )

-- ---- the call as a whole

module _ (z : Sizes) (count : ℕ) (row_store relation_store : List ℤ) (w : Work) where
  abbrev sizes : Bool
  sizes = sizes_right_of z && count_right count

  abbrev numbers : Bool
  numbers = numbers_right_of z count row_store relation_store

  abbrev sides : Bool
  sides = homogeneous (rows_of (equations z) row_store) (relations_of count relation_store)

  pub solutions-small : {c : Call} → c ≡ solutions_call z count row_store relation_store w → SmallSolutions c.result
  unfolding result_of answered
  solutions-small same =
      subst (λ c. SmallSolutions c.result) (sym same) (by-check (check_call z count row_store relation_store w) refl)
    where
      by_answer : check_call z count row_store relation_store w ≡ 0 → (a : Answer) → answered z count row_store relation_store w ≡ a
          → SmallSolutions (result_of a)
      by_answer e (refused_with n) f = none-small true n
      by_answer e none_listed f = none-small true 0
      by_answer e (listed N l) f =
          let few = few-sequences (checked-valid z count row_store relation_store w e).0 N l f in
          record { small-last = omega (arith, few.0); few = few.1 }

      by-check : (n : ℕ) → check_call z count row_store relation_store w ≡ n
          → SmallSolutions (solutions_call z count row_store relation_store w).result
      by-check zero e =
          subst (λ c. SmallSolutions c.result) (sym (call-checked z count row_store relation_store w e)) (by_answer e _ refl)
      by-check (suc n) e =
          subst (λ c. SmallSolutions c.result) (sym (call-refused z count row_store relation_store w n e)) (none-small false (suc n))

  module _ (result_store : List ℤ) where
    abbrev checked_with : Bool → ℕ
    checked_with b = checks sizes (all_lengths z row_store relation_store w && b) numbers sides

    -- The length of the result store is checked with the other lengths, after the sizes (SCOPE 3.53).
    pub solutions-short : length result_store < solution_need
        → unsolved (check_stores_of z count [] []) w result_store ≡ export_solutions z count row_store relation_store w result_store
    unfolding export_solutions check_solutions after_solutions_check
    solutions-short h =
        ap (λ n. unsolved n w result_store) (none-checked z count) ∙ refused-short sizes
        ∙ ap (after_solutions_check z count row_store relation_store w result_store)
        (sym (ap checked_with (lt-leb solution_need (length result_store) h)
        ∙ short-check sizes (all_lengths z row_store relation_store w) numbers sides))
      where
        refused-short : (s : Bool) → unsolved (cond s 1 2) w result_store
            ≡ after_solutions_check z count row_store relation_store w result_store (cond s 1 2)
        refused-short true = refl
        refused-short false = refl

    long-checked : solution_need ≤ length result_store
        → check_solutions z count row_store relation_store w result_store ≡ check_call z count row_store relation_store w
    unfolding check_solutions check_call
    long-checked h =
        ap checked_with (le-leb solution_need (length result_store) h)
        ∙ long-check sizes (all_lengths z row_store relation_store w) numbers sides

    solutions-long : solution_need ≤ length result_store
        → solved_after (solutions_call z count row_store relation_store w) result_store
        ≡ export_solutions z count row_store relation_store w result_store
    unfolding export_solutions after_solutions_check solved
    solutions-long h =
        by-check (check_call z count row_store relation_store w) refl
        ∙ ap (after_solutions_check z count row_store relation_store w result_store) (sym (long-checked h))
      where
        begun : check_call z count row_store relation_store w ≡ 0 → (solutions_call z count row_store relation_store w).result.begun ≡ true
        begun e =
            ap (λ c. c.result.begun) (call-checked z count row_store relation_store w e)
            ∙ begun-answer (answered z count row_store relation_store w)

        as-solved : (c : Call) → c.result.begun ≡ true → solved_after c result_store ≡ solved c result_store
        as-solved c e =
            ap (λ l. record { refusal = c.result.refusal; work = c.work; result_store = l })
            (sym (has-begun c.result.begun (solution_numbers_of c.result) result_store e))

        as-unsolved : (n : ℕ)
            → solved_after (record { result = unlisted false n; work = w }) result_store ≡ unsolved n w result_store
        as-unsolved n =
            ap (λ l. record { refusal = n; work = w; result_store = l })
            (sym (not-begun false (solution_numbers_of (unlisted false n)) result_store refl))

        by-check : (n : ℕ) → check_call z count row_store relation_store w ≡ n
            → solved_after (solutions_call z count row_store relation_store w) result_store
            ≡ after_solutions_check z count row_store relation_store w result_store (check_call z count row_store relation_store w)
        by-check zero e =
            as-solved (solutions_call z count row_store relation_store w) (begun e)
            ∙ ap (after_solutions_check z count row_store relation_store w result_store) (sym e)
        by-check (suc n) e =
            ap (λ c. solved_after c result_store) (call-refused z count row_store relation_store w n e) ∙ as-unsolved (suc n)
            ∙ ap (after_solutions_check z count row_store relation_store w result_store) (sym e)

    -- The call, from what the call on stores did and the result store that was left.
    pub solutions-done : {c : Call} {left : List ℤ} → c ≡ solutions_call z count row_store relation_store w
        → left ≡ begun_or c.result.begun (solution_numbers_of c.result) result_store → solution_need ≤ length result_store
        → record { refusal = c.result.refusal; work = c.work; result_store = left }
        ≡ export_solutions z count row_store relation_store w result_store
    solutions-done {c} e f h =
        ap (λ l. record { refusal = c.result.refusal; work = c.work; result_store = l }) f
        ∙ ap (λ y. solved_after y result_store) e ∙ solutions-long h
