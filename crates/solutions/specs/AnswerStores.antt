-- The call by its parts: the code's result, and the stores that the parts leave.
--
-- Main definitions
--   solutions_of r, call_of r rows relations matrix list   the result, and the whole call, as the rules of the call have them
--   AnswerLeft a r list list'   the result is that of the answer a, and its list stands in the store
--
-- Main statements
--   index-few            an N that is found is at most 15
--   left-unlisted, left-refused, left-listed   no list, a refusal of the list, and a list
--   call-refused, call-checked   the whole call
use Prim.Native.Nat.{ℕ, zero, suc, ◌≤◌}
use Rattle.std.proofs.Common.{le_of_eq, arith, sym, ◌∙◌, subst, true≢false, leb→le, take-append-drop}
use Rattle.std.specs.Prelude.{◌≡◌, refl, ◌≢◌, Bool, cond, eqb, leb, ℤ, pos, negsuc, ◌+ℤ◌, length, take, drop, replicate}
use Rattle.std.proofs.Math.Path.{ap}
use Rattle.std.proofs.Math.Bool.{true, false}
use mathlib.Core.List.{List, ◌++◌, map, flatten}
use Rattle.std.proofs.Math.Option.{Option, none, some}
use Rattle.std.proofs.lemmas.List.{length-replicate}
use Rattle.lists.specs.Overwritten.{overwrite, drop-overwrite, length-overwrite, overwrite-front}
use Rattle.lists.specs.Padded.{pad_to, length-pad_to}
use Rattle.lists.specs.Tests.{cond-passed, true-T}
use Rattle.rules.specs.Calls.{zeros}
use Rattle.rules.specs.Elimination.{trailing, Outcome, going, done, refused, rank, whole_run_of}
use Rattle.rules.specs.Rows.{Row, Relation}
use Rattle.rules.specs.Stores.{Sizes, equations, span, rows_of, relations_of, row_need, relation_need}
use Rattle.solutions.specs.AnswerNumbers.{list-numbers}
use Rattle.constant_rows.specs.ConstantStores.{reports-made, reports-passed}
use Rattle.solutions.specs.LastIndices.{LastIndex, refused_index, last_index_of, index_at, index_for, index_after, answer_with, index_of}
use Rattle.solutions.specs.LastIndices.{answer-with}
use Rattle.constant_rows.specs.Matrices.{Reports}
use Rattle.solutions.specs.SolutionAnswers.{Answer, refused_with, none_listed, listed, homogeneous, last_root_of, answer_of, list_for_of}
use Rattle.solutions.specs.SolutionAnswers.{answer}
use Rattle.constant_rows.specs.ListLengths.{largest_index, list_columns, list_need, matrix_need}
use Rattle.solutions.specs.SolutionCalls.{Result, Work, Call, unlisted, result_of, list_in, work_after, check_call, after_check}
use Rattle.solutions.specs.SolutionCalls.{solutions_call}
use Rattle.back_substitution.specs.Listed.{list_store_of}
use Rattle.solutions.specs.SolutionChecks.{check_call-zero}
use Rattle.solutions.specs.declared.SolutionsResult.{SolutionsResult}

unfoldable pub solutions_of : SolutionsResult → Result
solutions_of r = record { refusal = r.refusal; begun = r.begun; found = r.found; last = r.last; count = r.count }

abbrev pub work_of : List ℤ → List ℤ → List ℤ → List ℤ → Work
work_of rows relations matrix list = record { rows = rows; relations = relations; matrix = matrix; list = list }

unfoldable pub call_of : SolutionsResult → List ℤ → List ℤ → List ℤ → List ℤ → Call
unfolding solutions_of
call_of r rows relations matrix list = record { result = solutions_of r; work = work_of rows relations matrix list }

-- ---- the last index

few-at : (n : ℤ) (N : ℕ) → index_at n ≡ last_index_of N → N ≤ largest_index
unfolding index_at
few-at (negsuc k) N e = let z : ◌≡◌ {A = ℕ} 0 1 = cc in absurd (omega arith)
few-at (pos k) N e = cases (leb k largest_index) refl e
  where
    cases : (t : Bool) → leb k largest_index ≡ t → cond t (last_index_of k) (refused_index 14) ≡ last_index_of N → N ≤ largest_index
    cases true h s = let same : k ≡ N = cc in subst (λ n. n ≤ largest_index) same (leb→le k largest_index (true-T _ h))
    cases false h s = let z : ◌≡◌ {A = ℕ} 0 1 = cc in absurd (omega arith)

few-for : (t : ℤ) (o : Option ℤ) (N : ℕ) → index_for t o ≡ last_index_of N → N ≤ largest_index
unfolding index_for
few-for t none N e = let z : ◌≡◌ {A = ℕ} 0 1 = cc in absurd (omega arith)
few-for t (some r) N e = few-at (r +ℤ t) N e

few-after : (z : Sizes) (x : Outcome) (N : ℕ) → index_after z x ≡ last_index_of N → N ≤ largest_index
unfolding index_after
few-after z (refused n) N e = let z : ◌≡◌ {A = ℕ} 0 1 = cc in absurd (omega arith)
few-after z (going s) N e = let z : ◌≡◌ {A = ℕ} 0 1 = cc in absurd (omega arith)
few-after z (done s) N e = cases (eqb (rank s) z.m) e
  where
    cases : (t : Bool) → cond t (index_for z.t (last_root_of (span z) s)) (refused_index 14) ≡ last_index_of N → N ≤ largest_index
    cases true h = few-for z.t (last_root_of (span z) s) N h
    cases false h = let z : ◌≡◌ {A = ℕ} 0 1 = cc in absurd (omega arith)

pub index-few : (z : Sizes) (x : Outcome) (n : ℕ) (t : Bool) (N : ℕ) → index_of n t N ≡ index_after z x → t ≡ true → N ≤ largest_index
unfolding index_of
index-few z x n t N e h = few-after z x N (sym e ∙ ap (λ u. index_of n u N) h)

-- ---- the answer and its list

pub record AnswerLeft (a : Answer) (r : SolutionsResult) (list list' : List ℤ) : Type 0 where
  pub result : solutions_of r ≡ result_of a
  pub store : list' ≡ overwrite (list_in a) list

-- The store holds zeros already.
zeros-stay : (need : ℕ) (store : List ℤ) → take need store ≡ zeros need → store ≡ overwrite (zeros need) store
unfolding overwrite zeros
zeros-stay need store e =
    sym (ap (λ n. zeros need ++ drop n store) (length-replicate need (pos 0)) ∙ ap (λ l. l ++ drop need store) (sym e)
    ∙ take-append-drop need store)

-- What the report of the list tells.
abbrev pub Made : ℕ → List ℤ → List ℤ → List (List ℤ) → Type 0
Made count list list' l = (count ≡ length l) × (list' ≡ overwrite (list_store_of l) list)

module _ (z : Sizes) (rows : List Row) (relations : List Relation) (r : SolutionsResult) where
  pub left-unlisted : (n : ℕ) (t : Bool) (N : ℕ) (list : List ℤ) → t ≡ false → solutions_of r ≡ result_of (refused_with n)
      → take list_need list ≡ zeros list_need
      → AnswerLeft (answer_with z rows relations (index_of n t N)) r list list
  unfolding answer_with index_of result_of list_in
  left-unlisted zero false N list h e f = record { result = e; store = zeros-stay list_need list f }
  left-unlisted (suc n) false N list h e f = record { result = e; store = zeros-stay list_need list f }
  left-unlisted n true N list h e f = absurd (true≢false h)

  module _ (N count : ℕ) (list list' list'' : List ℤ) (n : ℕ)
      (reported : Reports (Made count list list') (list_for_of z N rows relations) n) where
    pub left-refused : n ≢ 0 → (k : ℕ) (t : Bool) → t ≡ true → solutions_of r ≡ result_of (refused_with n)
        → list'' ≡ overwrite (zeros list_need) list
        → AnswerLeft (answer_with z rows relations (index_of k t N)) r list list''
    unfolding answer_with index_of answer_of list_in
    left-refused h k t is e f =
        let refused-list = reports-passed (Made count list list') (list_for_of z N rows relations) n reported h in
        rw (is, refused-list) (record { result = e; store = f })

    pub left-listed : n ≡ 0 → (k : ℕ) (t : Bool) → t ≡ true
        → solutions_of r ≡ record { refusal = 0; begun = true; found = true; last = N; count = count }
        → AnswerLeft (answer_with z rows relations (index_of k t N)) r list list'
    unfolding answer_with index_of answer_of list_in result_of
    left-listed h k t is e =
        let (l, made, facts) =
        reports-made (Made count list list') (list_for_of z N rows relations) n (list-numbers z N rows relations) reported h in
        let told = e ∙ ap (λ i. record { refusal = 0; begun = true; found = true; last = N; count = i }) facts.0 in
        rw (is, made) (record { result = told; store = facts.1 })

-- ---- the whole call

length-list_in : (a : Answer) → length (list_in a) ≡ list_need
unfolding list_in zeros list_store_of
length-list_in (refused_with n) = length-replicate list_need (pos 0)
length-list_in none_listed = length-replicate list_need (pos 0)
length-list_in (listed N l) = length-pad_to list_need (pos 0) (flatten (map (pad_to list_columns (pos 0)) l))

-- A store that begins with zeros.
pub over-front : (need : ℕ) (store : List ℤ) → need ≤ length store
    → (need ≤ length (overwrite (zeros need) store)) × (take need (overwrite (zeros need) store) ≡ zeros need)
unfolding zeros
over-front need store h =
    let size = length-replicate need (pos 0) in (
      rw (length-overwrite (replicate need (pos 0)) store (rw size h)) h,
      ap (λ n. take n (overwrite (replicate need (pos 0)) store)) (sym size) ∙ overwrite-front (replicate need (pos 0)) store,
    )

-- The list over zeros.
over_zeros : (a : Answer) (list : List ℤ) → overwrite (list_in a) (overwrite (zeros list_need) list) ≡ overwrite (list_in a) list
unfolding overwrite zeros
over_zeros a list =
    ap (λ l. list_in a ++ l)
    (drop-overwrite (length (list_in a)) (zeros list_need) list (le_of_eq (length-replicate list_need (pos 0) ∙ sym (length-list_in a))))

module _ (z : Sizes) (count : ℕ) (row_store relation_store rows relations matrix list : List ℤ) (r : SolutionsResult) where
  abbrev w : Work
  w = work_of rows relations matrix list

  pub call-refused : (n : ℕ) → n ≢ 0 → n ≡ check_call z count row_store relation_store w → solutions_of r ≡ unlisted false n
      → call_of r rows relations matrix list ≡ solutions_call z count row_store relation_store w
  unfolding solutions_call after_check call_of
  call-refused zero h e f = absurd (h refl)
  call-refused (suc n) h e f =
      ap (λ x. record { result = x; work = w }) f ∙ ap (after_check z count row_store relation_store w) e

  abbrev equation_rows_of : List Row
  equation_rows_of = rows_of (equations z) row_store

  abbrev given_relations : List Relation
  given_relations = relations_of count relation_store

  abbrev index : LastIndex
  index = index_after z (whole_run_of trailing (span z) equation_rows_of given_relations)

  pub call-checked : (rows' relations' matrix' list₁ list₂ : List ℤ) → check_call z count row_store relation_store w ≡ 0
      → AnswerLeft (answer_with z equation_rows_of given_relations index) r list₁ list₂
      → rows' ≡ overwrite (zeros (row_need (equations z))) rows → relations' ≡ overwrite (zeros relation_need) relations
      → matrix' ≡ overwrite (zeros matrix_need) matrix → list₁ ≡ overwrite (zeros list_need) list
      → call_of r rows' relations' matrix' list₂ ≡ solutions_call z count row_store relation_store w
  unfolding solutions_call after_check call_of work_after answer
  call-checked rows' relations' matrix' list₁ list₂ passed-checks left e f g h =
      (λ i.
      record {
        result = (left.result ∙ ap result_of (sym is)) i;
        work = record { rows = e i; relations = f i; matrix = g i; list = list-is i };
      })
      ∙ ap (after_check z count row_store relation_store w) (sym passed-checks)
    where
      is : answer z equation_rows_of given_relations ≡ answer_with z equation_rows_of given_relations index
      is =
          cond-passed (homogeneous equation_rows_of given_relations) _ (refused_with 14)
          (check_call-zero z count row_store relation_store w passed-checks).sides
          ∙ answer-with z equation_rows_of given_relations (whole_run_of trailing (span z) equation_rows_of given_relations)

      list-is : list₂ ≡ overwrite (list_in (answer z equation_rows_of given_relations)) list
      list-is =
          left.store ∙ ap (overwrite (list_in (answer_with z equation_rows_of given_relations index))) h
          ∙ over_zeros (answer_with z equation_rows_of given_relations index) list
          ∙ ap (λ a. overwrite (list_in a) list) (sym is)
