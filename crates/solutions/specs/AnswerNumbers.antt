-- The numbers of the refusals: 14 of the call's own conditions, 7 to 9 of the trailing run, 12 and 8 of rows and list (SCOPE 14.6).
--
-- Main definitions
--   Number              those numbers
-- Main statements
--   list-numbers        rows, elimination and list are refused with 12 or 8 and nothing else
--   answer-number       every refusal of a valid system has one of the numbers; 10 does not come, since zeros satisfy the system
use Rattle.std.specs.Prelude.{ℕ, ◌≡◌, ◌⊎◌, Bool, cond, List, [], eqb, leb, ℤ, pos, negsuc, ◌+ℤ◌}
use Rattle.std.proofs.Math.Path.{refl, subst}
use Rattle.std.proofs.Math.Logic.{inl, inr, ⊎_elim}
use Rattle.std.proofs.Math.Bool.{true, false}
use Rattle.std.proofs.Math.Option.{Option, none, some}
use Rattle.std.proofs.Math.Dec.{T}
use Rattle.rules.specs.Rows.{Row, Relation}
use Rattle.rules.specs.Elimination.{trailing, Outcome, going, done, refused, rank, whole_run_of, trailing_run_of, run, enough, mirror_state, start}
use Rattle.rules.specs.Stores.{Sizes, span, Valid}
use Rattle.theory.proofs.Steps.{run-refused, step-refused}
use Rattle.theory.proofs.Ending.{mirror_outcome-refused}
use Rattle.theory.specs.LimitsKept.{valid-rows}
use Rattle.theory.proofs.Trailing.{trailing-inconsistent}
use Rattle.constant_rows.specs.Constants.{Judged, fine, passed, and_on, constant_rows_of, the_columns_of}
use Rattle.constant_rows.specs.ListLengths.{largest_index}
use Rattle.constant_rows.specs.RowLimits.{Limit, Limits, and_on-limits, each-limits, rows-limits}
use Rattle.echelon.specs.EliminatedLimits.{limited-limits, eliminate-limits}
use Rattle.echelon.specs.Eliminated.{limited}
use Rattle.echelon.specs.Eliminated.{eliminate}
use Rattle.back_substitution.specs.Listed.{vector_at, free_columns, sequences}
use Rattle.solutions.specs.SolutionAnswers.{Answer, refused_with, none_listed, listed, homogeneous, last_root_of, answer_of, list_for_of}
use Rattle.solutions.specs.SolutionAnswers.{answer_at, answer_for_of, after_trailing, answer}
use Rattle.solutions.specs.Extent.{nothing, nothing-satisfies}

pub list-numbers : (z : Sizes) (N : ℕ) (rows : List Row) (relations : List Relation) → Limits (list_for_of z N rows relations)
unfolding list_for_of sequences
list-numbers z N rows relations =
    and_on-limits (constant_rows_of z N rows relations) (λ rs. and_on (eliminate [] rs) (sequences (the_columns_of z.m N)))
    (rows-limits z N rows relations)
    (λ rs. and_on-limits (eliminate [] rs) (sequences (the_columns_of z.m N)) (eliminate-limits rs [])
    (λ ps. each-limits (λ f. limited (vector_at (the_columns_of z.m N) ps f)) (λ f. limited-limits (vector_at (the_columns_of z.m N) ps f))
    (free_columns (the_columns_of z.m N) ps)))

-- ---- the whole answer

abbrev pub Number : ℕ → Type 0
Number n = (n ≡ 14) ⊎ ((n ≡ 7) ⊎ (n ≡ 8) ⊎ (n ≡ 9)) ⊎ (n ≡ 12)

-- A refusal of the answer has one of the numbers.
abbrev Numbered : Answer → Type 0
Numbered (refused_with n) = Number n
Numbered none_listed = Unit {0}
Numbered (listed N l) = Unit {0}

limit-number : (n : ℕ) → Limit n → Number n
limit-number n h = ⊎_elim (λ e. inr (inl (inr (inl e)))) (λ e. inr (inr e)) h

numbered-cond : (t : Bool) (x : Answer) → Numbered x → Numbered (cond t x (refused_with 14))
numbered-cond true x h = h
numbered-cond false x h = inl refl

module _ (z : Sizes) (rows : List Row) (relations : List Relation) where
  of-judged : (N : ℕ) (j : Judged (List (List ℤ))) → Limits j → Numbered (answer_of N j)
  unfolding answer_of
  of-judged N (fine l) h = tt
  of-judged N (passed n) h = limit-number n h

  at-end : (i : ℤ) → Numbered (answer_at z rows relations i)
  unfolding answer_at
  at-end (pos N) =
      numbered-cond (leb N largest_index) (answer_of N (list_for_of z N rows relations))
      (of-judged N (list_for_of z N rows relations) (list-numbers z N rows relations))
  at-end (negsuc k) = tt

  of-root : (o : Option ℤ) → Numbered (answer_for_of z rows relations o)
  unfolding answer_for_of
  of-root none = tt
  of-root (some r) = at-end (r +ℤ z.t)

  after_run : (o : Outcome) → ((n : ℕ) → o ≡ refused n → Number n) → Numbered (after_trailing z rows relations o)
  unfolding after_trailing
  after_run (done s) h = numbered-cond (eqb (rank s) z.m) (answer_for_of z rows relations (last_root_of (span z) s))
      (of-root (last_root_of (span z) s))
  after_run (refused n) h = h n refl
  after_run (going s) h = inr (inl (inr (inl refl)))

  run-number : Valid z rows relations → T (homogeneous rows relations) → (n : ℕ) → whole_run_of trailing (span z) rows relations ≡ refused n
      → Number n
  unfolding whole_run_of trailing_run_of
  run-number v h n e =
      let (j, u, c, more, stepped) = run-refused trailing (enough rows) (mirror_state (span z) (start rows relations)) n
      (mirror_outcome-refused (span z) (run trailing (enough rows) (mirror_state (span z) (start rows relations))) n e) in
      ⊎_elim (λ k. absurd (trailing-inconsistent (valid-rows v)
      (subst (λ m. whole_run_of trailing (span z) rows relations ≡ refused m) k.0 e)
      nothing (nothing-satisfies rows relations h z.l))) (λ k. inr (inl k)) (step-refused trailing u n more stepped)

  -- Every refusal of a valid system (SCOPE 14.62, 14.63).
  pub answer-number : Valid z rows relations → (n : ℕ) → answer z rows relations ≡ refused_with n → Number n
  unfolding answer
  answer-number v n e = subst Numbered e (cases (homogeneous rows relations) (λ h. h))
    where
      cases : (t : Bool) → (T t → T (homogeneous rows relations))
          → Numbered (cond t (after_trailing z rows relations (whole_run_of trailing (span z) rows relations)) (refused_with 14))
      cases true h = after_run (whole_run_of trailing (span z) rows relations) (run-number v (h tt))
      cases false h = inl refl
