-- The exported call on recorded vectors: its answer as numbers of a lent store.
--
-- Main definitions
--   record_numbers_of a        the four numbers of an answer
--   record_refusal_of a        its refusal, or 0
--   export_record ..        the call
--   SmallAnswer a          the number of an answer is small
--
-- Main statements
--   fits-numbers           "fits" comes with the number tested, and no index and no sum
--   refused-zeros          the numbers of a refusal are zero
--   early-kept, limit-zeros   a refusal of the checks leaves the result store as it was; 12 makes its numbers zero
--   record-short, record-none, record-done   the call with a result store that is too short, and with one that is long enough
--   record-small           the number of every answer is small
use Prim.Native.Nat.{ℕ, zero, suc, ◌+◌, ◌*◌, ◌-◌, ◌≤◌, ◌<◌, zero-le}
use Rattle.std.proofs.Math.Nat.{le_trans}
use Rattle.std.proofs.Common.{mul-le-mul, le_of_eq, arith, ◌∙◌, le-leb}
use Rattle.std.specs.Prelude.{◌≡◌, Bool, ◌&&◌, cond, ℤ, pos, take}
use Rattle.std.proofs.Math.Path.{refl, sym, ap, subst}
use Rattle.std.proofs.Math.Bool.{true, false, and-false}
use mathlib.Core.List.{List, [], ◌∷◌, ◌++◌}
use Rattle.std.proofs.Math.Option.{Option, none, some}
use Rattle.std.proofs.lemmas.Bool.{lt-leb}
use Rattle.std.proofs.Math.Dec.{leb}
use Rattle.std.proofs.Math.ListN.{length, length-append}
use Rattle.algebra.specs.Polynomials.{is_zero_ℤ}
use Rattle.lists.specs.Everywhere.{All, all_append}
use Rattle.lists.specs.Overwritten.{overwrite}
use Rattle.rules.specs.Limits.{row_length}
use Rattle.rules.specs.Calls.{zeros}
use Rattle.rules.specs.Rows.{Row, Relation}
use Rattle.rules.specs.Stores.{Sizes, equations, span, rows_of, relations_of, row_need}
use Rattle.rules.specs.Stores.{sizes_right_of, count_right, lengths_right_of, numbers_right_of}
use Rattle.rules.specs.Layout.{size-bounds, count_right-iff, length-rows_of, length-relations_of}
use Rattle.records.specs.Records.{Which, equation, relation, Tested, Answer, fits, fails, refused, limit_passed, answer_to, tests}
use Rattle.records.specs.Records.{row_tests, equation_tests, relation_tests, inside, sum_at, index_from_of, top_at}
use Rattle.records.specs.Records.{record_right_of, values_right_of, check_record_of, after_check, record_call}
use Rattle.records.specs.RecordChecks.{RecordRight, check_record-zero}
use Rattle.records.specs.RecordAnswers.{equations-count}
use Rattle.export_results.specs.Results.{early, kept_or, kept-early}

-- ---- the call

-- The numbers that the result has (SCOPE 3.52).
abbrev pub record_need : ℕ
record_need = 4

-- 0 where all fit, 1 for an equation, 2 for a relation; the number tested, or which failed; its index and its sum (SCOPE 12.24).
unfoldable pub record_numbers_of : Answer → List ℤ
unfolding zeros
record_numbers_of (fits k) = pos 0 ∷ pos k ∷ pos 0 ∷ pos 0 ∷ []
record_numbers_of (fails (equation i) n s) = pos 1 ∷ pos i ∷ n ∷ s ∷ []
record_numbers_of (fails (relation i) n s) = pos 2 ∷ pos i ∷ n ∷ s ∷ []
record_numbers_of (refused n) = zeros record_need

unfoldable pub record_refusal_of : Answer → ℕ
record_refusal_of (fits k) = 0
record_refusal_of (fails w n s) = 0
record_refusal_of (refused n) = n

-- The refusal that the call returned, and the only store that is not only read.
pub record Recorded : Type 0 where
  pub refusal : ℕ
  pub result_store : List ℤ

-- A refusal of the checks leaves the result store as it was; 12 is found in the course of the work (SCOPE 3.54, 12.31).
unfoldable pub answered : Answer → List ℤ → Recorded
unfolding record_refusal_of record_numbers_of kept_or
answered a result_store =
    record { refusal = record_refusal_of a; result_store = kept_or (record_refusal_of a) (record_numbers_of a) result_store }

-- A result store that is too short is found with the other lengths (SCOPE 3.53): the call is then judged as with stores that hold nothing.
unfoldable pub export_record : Sizes → ℕ → ℤ → ℕ → List ℤ → List ℤ → List ℤ → List ℤ → Recorded
unfolding answered record_call
export_record z count first vectors row_store relation_store values result_store =
    let whole = record_call z count first vectors row_store relation_store values in
    answered (cond (leb record_need (length result_store)) whole (record_call z count first vectors [] [] [])) result_store

pub fits-numbers : (k : ℕ) → record_numbers_of (fits k) ≡ pos 0 ∷ pos k ∷ zeros 2
unfolding record_numbers_of zeros
fits-numbers k = refl

pub refused-zeros : (n : ℕ) → record_numbers_of (refused n) ≡ zeros record_need
unfolding record_numbers_of
refused-zeros n = refl

pub limit-zeros : (result_store : List ℤ)
    → answered (refused limit_passed) result_store ≡ record { refusal = 12; result_store = overwrite (zeros record_need) result_store }
unfolding answered record_refusal_of record_numbers_of kept_or early
limit-zeros result_store = refl

pub early-kept : (n : ℕ) (result_store : List ℤ) → early n ≡ true
    → answered (refused n) result_store ≡ record { refusal = n; result_store = result_store }
unfolding answered record_refusal_of
early-kept n result_store e =
    ap (λ l. record { refusal = n; result_store = l }) (sym (kept-early n (record_numbers_of (refused n)) result_store e))

-- ---- by the length of the result store

module _ (z : Sizes) (count : ℕ) (first : ℤ) (vectors : ℕ) where
  abbrev none_right : Bool
  none_right = (sizes_right_of z && count_right count) && record_right_of first vectors

  -- Stores that hold nothing are too short.
  none-answered : record_call z count first vectors [] [] [] ≡ refused (cond none_right 1 2)
  unfolding record_call after_check check_record_of lengths_right_of row_need
  none-answered =
      ap (λ b. after_check z count first vectors [] [] []
      (cond none_right
      (cond (b && leb (vectors * z.m) 0) (cond (numbers_right_of z count [] [] && values_right_of (take (vectors * z.m) [])) 0 5) 1) 2))
      (and-false (leb (equations z * row_length) 0))
      ∙ by-sizes none_right
    where
      by-sizes : (b : Bool) → after_check z count first vectors [] [] [] (cond b 1 2) ≡ refused (cond b 1 2)
      by-sizes true = refl
      by-sizes false = refl

  module _ (row_store relation_store values result_store : List ℤ) where
    abbrev by : Bool → Recorded
    by b =
        answered (cond b (record_call z count first vectors row_store relation_store values) (record_call z count first vectors [] [] []))
        result_store

    by_length : (b : Bool) → leb record_need (length result_store) ≡ b
        → by b ≡ export_record z count first vectors row_store relation_store values result_store
    unfolding export_record
    by_length b e = ap by (sym e)

    -- Sizes that are wrong are found first; the result store is as it was.
    pub record-short : length result_store < record_need
        → export_record z count first vectors row_store relation_store values result_store
        ≡ record { refusal = cond none_right 1 2; result_store = result_store }
    unfolding early
    record-short h =
        sym (by_length false (lt-leb record_need (length result_store) h))
        ∙ ap (λ a. answered a result_store) none-answered ∙ early-kept (cond none_right 1 2) result_store (soon none_right)
      where
        soon : (b : Bool) → early (cond b 1 2) ≡ true
        soon true = refl
        soon false = refl

    -- The refusal of the call with stores that hold nothing.
    pub record-none : {a : Answer} → a ≡ record_call z count first vectors [] [] [] → length result_store < record_need
        → record { refusal = record_refusal_of a; result_store = result_store }
        ≡ export_record z count first vectors row_store relation_store values result_store
    unfolding record_refusal_of
    record-none e h =
        ap (λ a. record { refusal = record_refusal_of a; result_store = result_store }) (e ∙ none-answered) ∙ sym (record-short h)

    -- The call, from the answer that was given and the result store that was left.
    pub record-done : {a : Answer} {left : List ℤ} → a ≡ record_call z count first vectors row_store relation_store values
        → left ≡ kept_or (record_refusal_of a) (record_numbers_of a) result_store → record_need ≤ length result_store
        → record { refusal = record_refusal_of a; result_store = left }
        ≡ export_record z count first vectors row_store relation_store values result_store
    unfolding answered
    record-done {a} e f h =
        ap (λ l. record { refusal = record_refusal_of a; result_store = l }) f ∙ ap (λ a. answered a result_store) e
        ∙ by_length true (le-leb record_need (length result_store) h)

-- ---- the number of an answer is small

-- At most 64 × 6 equations and 16 relations are tested (SCOPE 12.11).
abbrev pub most_tests : ℕ
most_tests = 400

unfoldable pub number_of : Which → ℕ
number_of (equation i) = i
number_of (relation i) = i

unfoldable pub SmallAnswer : Answer → Type 0
unfolding number_of
SmallAnswer (fits k) = k ≤ most_tests
SmallAnswer (fails w n s) = number_of w ≤ most_tests
SmallAnswer (refused n) = Unit {0}

abbrev SmallTest : Tested → Type 0
SmallTest t = number_of t.which ≤ most_tests

answer-small : (k : ℕ) (ts : List Tested) → All SmallTest ts → k + length ts ≤ most_tests → SmallAnswer (answer_to k ts)
unfolding answer_to SmallAnswer All
answer-small k [] a h = omega arith
answer-small k (t ∷ ts) a h = by-sum (answer-small (suc k) ts a.1 (omega arith)) t.sum
  where
    by_zero : (b : Bool) (s : ℤ) → SmallAnswer (answer_to (suc k) ts)
        → SmallAnswer (cond b (answer_to (suc k) ts) (fails t.which t.index s))
    by_zero true s later = later
    by_zero false s later = a.0

    by-sum : SmallAnswer (answer_to (suc k) ts) → (o : Option ℤ)
        → SmallAnswer
        (elim o [ none ↦ refused limit_passed | some s ↦ cond (is_zero_ℤ s) (answer_to (suc k) ts) (fails t.which t.index s) ])
    by-sum later none = tt
    by-sum later (some s) = by_zero (is_zero_ℤ s) s later

-- Rows and relations are numbered on from i.
row-tests-small : (m D : ℕ) (values : List ℤ) (top : ℕ) (n : ℤ) (i : ℕ) (rows : List Row) → i + length rows ≤ most_tests
    → All SmallTest (row_tests m D values top n i rows)
unfolding row_tests All number_of
row-tests-small m D values top n i [] h = tt
row-tests-small m D values top n i (r ∷ rs) h = (omega arith, row-tests-small m D values top n (suc i) rs (omega arith))

equation-tests-small : (z : Sizes) (first : ℤ) (values : List ℤ) (rows : List Row) (j k : ℕ) → 1 + length rows ≤ most_tests
    → All SmallTest (equation_tests z first values rows j k)
unfolding equation_tests All
equation-tests-small z first values rows j zero h = tt
equation-tests-small z first values rows j (suc k) h =
    let n = index_from_of z first j in
    (all_append SmallTest (row_tests z.m (span z) values (top_at z first n) n 1 rows) _).1
    (row-tests-small z.m (span z) values (top_at z first n) n 1 rows h, equation-tests-small z first values rows (suc j) k h)

relation-tests-small : (z : Sizes) (first : ℤ) (vectors : ℕ) (values : List ℤ) (i : ℕ) (es : List Relation) → i + length es ≤ most_tests
    → All SmallTest (relation_tests z first vectors values i es) × (length (relation_tests z first vectors values i es) ≤ length es)
unfolding relation_tests All number_of
relation-tests-small z first vectors values i [] h = (tt, zero-le)
relation-tests-small z first vectors values i (e ∷ es) h =
    by_place (inside z first vectors e.index) (sum_at z first values e.row e.index)
    (relation_tests z first vectors values (suc i) es)
    (relation-tests-small z first vectors values (suc i) es (omega arith))
  where
    by_place : (b : Bool) (s : Option ℤ) (rest : List Tested) → All SmallTest rest × (length rest ≤ length es)
        → All SmallTest (cond b (record { which = relation i; index = e.index; sum = s } ∷ rest) rest)
        × (length (cond b (record { which = relation i; index = e.index; sum = s } ∷ rest) rest) ≤ suc (length es))
    by_place true s rest g = ((omega arith, g.0), omega (arith, g.1))
    by_place false s rest g = (g.0, omega (arith, g.1))

module _ (z : Sizes) (count : ℕ) (first : ℤ) (vectors : ℕ) (row_store relation_store values : List ℤ) where
  abbrev rows : List Row
  rows = rows_of (equations z) row_store

  abbrev relations : List Relation
  relations = relations_of count relation_store

  abbrev known : List ℤ
  known = take (vectors * z.m) values

  passed-small : RecordRight z count first vectors row_store relation_store values
      → SmallAnswer (answer_to 0 (tests z first vectors known rows relations))
  unfolding tests
  passed-small r =
      let few-rows : length rows ≤ 6 =
      subst (λ n. n ≤ 6) (sym (length-rows_of (equations z) row_store)) (size-bounds z r.system.sizes).few-equations in
      let few-relations : length relations ≤ 16 =
      subst (λ n. n ≤ 16) (sym (length-relations_of count relation_store)) ((count_right-iff count).0 r.system.few) in
      let indices : vectors - span z ≤ 64 = omega (arith, r.few) in
      let on-rows = equation_tests z first known rows 0 (vectors - span z) in
      let on-relations = relation_tests z first vectors known 1 relations in
      let many : length on-rows ≤ 64 * 6 =
      le_trans (le_of_eq (equations-count z first known rows 0 (vectors - span z))) (mul-le-mul indices few-rows) in
      let small = relation-tests-small z first vectors known 1 relations (omega arith) in
      answer-small 0 (on-rows ++ on-relations)
      ((all_append SmallTest on-rows on-relations).1
      (equation-tests-small z first known rows 0 (vectors - span z) (omega arith), small.0))
      (rw length-append (omega (arith, small.1)))

  -- The number of an answer is small.
  pub record-small : {a : Answer} → a ≡ record_call z count first vectors row_store relation_store values → SmallAnswer a
  unfolding record_call after_check SmallAnswer
  record-small same = subst SmallAnswer (sym same) (by-check (check_record_of z count first vectors row_store relation_store values) refl)
    where
      by-check : (n : ℕ) → check_record_of z count first vectors row_store relation_store values ≡ n
          → SmallAnswer (after_check z count first vectors row_store relation_store values n)
      by-check zero e = passed-small (check_record-zero z count first vectors row_store relation_store values e)
      by-check (suc n) e = tt
