-- The words in which the claims on polynomial solutions are said.
--
-- Main definitions
--   ExportedSolutions        what the exported call gave back and left: its contract
--   SolveLong, SidesZero, SolvePassed   its stores are long enough; the right sides are zero; all checks pass
--   WorkCleared              the stores that are lent for the work are zero in their needed parts
--   Unlisted, Lists          the call has left no list and zeros as its numbers; it has left N and a list
--   NoneFinite               there is no solution but zero that ends on both sides and begins at index 0 or later
--   Promised                 the listed sequences are solutions, each the only one of its kind, and none is missing
--   SolveCourse              all that the call can do
use Rattle.std.specs.Prelude.{ℕ, ◌≤◌, ◌<◌, ◌≡◌, ◌≢◌, List, [], ◌∷◌, T, length, get_or, ℤ, pos, ◌*ℤ◌}
use Rattle.rules.specs.Stores.{Sizes, equations, rows_of, relations_of, row_need, relation_need}
use Rattle.rules.specs.Layout.{NumbersRight}
use Rattle.rules.specs.Sequences.{Sequence}
use Rattle.constant_rows.specs.Constants.{the_columns_of}
use Rattle.echelon.specs.Eliminated.{Pivot}
use Rattle.back_substitution.specs.Listed.{free_columns, list_store_of}
use Rattle.solutions.specs.Extent.{ZeroAt}
use Rattle.solutions.specs.SolutionAnswers.{Answer, homogeneous, answer}
use Rattle.solutions.specs.SolutionCalls.{Work, Call, result_of, work_after}
use Rattle.constant_rows.specs.ListLengths.{matrix_need, list_need}
use Rattle.solutions.specs.ListPromises.{ListedAt, Finite, sum_of}
use Rattle.exported_solutions.specs.SolutionNumbers.{Solved, solution_need, solved, unsolved, export_solutions}
use Rattle.claims.specs.RunWords.{Rewritten, Cleared, InRange, LongEnough, Solves}

-- The contract of `wurgalm_solutions`.
pub record ExportedSolutions (z : Sizes) (count : ℕ) (rows relations : List ℤ) (w : Work) (result : List ℤ) (e : Solved) :
    Type 0 where
  pub called : e ≡ export_solutions z count rows relations w result

-- ---- the checks

-- The stores of the system, those of the trailing run, the matrix, the list and the result (SCOPE 14.61, 14.65).
abbrev pub SolveLong : Sizes → List ℤ → List ℤ → Work → List ℤ → Type 0
SolveLong z rows relations w result =
    LongEnough z rows relations × LongEnough z w.rows w.relations × (matrix_need ≤ length w.matrix)
    × (list_need ≤ length w.list) × (solution_need ≤ length result)

-- Of the equations and of the relations (SCOPE 14.11).
abbrev pub SidesZero : Sizes → ℕ → List ℤ → List ℤ → Type 0
SidesZero z count rows relations = T (homogeneous (rows_of (equations z) rows) (relations_of count relations))

pub record SolvePassed (z : Sizes) (count : ℕ) (rows relations : List ℤ) (w : Work) (result : List ℤ) : Type 0 where
  pub range : InRange z count
  pub lengths : SolveLong z rows relations w result
  pub numbers : NumbersRight z count rows relations
  pub sides : SidesZero z count rows relations

-- ---- what the call leaves

pub record WorkCleared (z : Sizes) (w after : Work) : Type 0 where
  pub rows-zero : Cleared (row_need (equations z)) w.rows after.rows
  pub relations-zero : Cleared relation_need w.relations after.relations
  pub matrix-zero : Cleared matrix_need w.matrix after.matrix

pub record Unlisted (z : Sizes) (w : Work) (result : List ℤ) (e : Solved) : Type 0 where
  pub work-zero : WorkCleared z w e.work
  pub list-zero : Cleared list_need w.list e.work.list
  pub numbers-zero : Cleared solution_need result e.result_store

pub record Lists (z : Sizes) (w : Work) (result : List ℤ) (e : Solved) (N : ℕ) (l : List (List ℤ)) : Type 0 where
  pub work-zero : WorkCleared z w e.work
  pub list_held : Rewritten list_need (list_store_of l) w.list e.work.list
  pub numbers : Rewritten solution_need (pos 1 ∷ pos N ∷ pos (length l) ∷ []) result e.result_store

-- ---- what is promised

-- A solution with finitely many values that are not zero, none below index 0, is zero (SCOPE 14.72).
abbrev pub NoneFinite : Sizes → ℕ → List ℤ → List ℤ → Type 0
NoneFinite z count rows relations =
    (y : Sequence) → Solves z count rows relations y → Finite z.m y → (i : ℤ) → ZeroAt z.m y i

-- One sequence for each column without a settled row; each satisfies the system, is positive at its own column, zero at the others and
-- without a common divisor (SCOPE 14.51, 14.71); no other list is so (SCOPE 14.73); and some multiple of a solution with finitely many
-- values that are not zero, none below index 0, is a sum of multiples of them (SCOPE 14.72).
pub record Promised (z : Sizes) (count : ℕ) (rows relations : List ℤ) (N : ℕ) (l : List (List ℤ)) : Type 0 where
  pub pivots : List Pivot
  pub one_each : length l ≡ length (free_columns (the_columns_of z.m N) pivots)
  pub each : (k : ℕ) → k < length l
      → ListedAt z (rows_of (equations z) rows) (relations_of count relations) N pivots
      (get_or (free_columns (the_columns_of z.m N) pivots) k 0) (get_or l k [])
  pub only : (other : List (List ℤ)) → length other ≡ length (free_columns (the_columns_of z.m N) pivots)
      → ((k : ℕ) → k < length other
      → ListedAt z (rows_of (equations z) rows) (relations_of count relations) N pivots
      (get_or (free_columns (the_columns_of z.m N) pivots) k 0) (get_or other k []))
      → other ≡ l
  pub complete : (y : Sequence) → Solves z count rows relations y → Finite z.m y
      → (k : ℤ) × (k ≢ pos 0) × (ks : List ℤ) × ((i : ℤ) (c : ℕ) → c < z.m → k *ℤ y i c ≡ sum_of z.m N ks l i c)

-- ---- the courses

-- The result and the stores that are written, by the answer.
abbrev pub answer_call : Sizes → Answer → Work → Call
answer_call z a w = record { result = result_of a; work = work_after z a w }

pub data SolveCourse (z : Sizes) (count : ℕ) (rows relations : List ℤ) (w : Work) (result : List ℤ) : Solved → Type 0 where
  solve-range-wrong : ¬ InRange z count → SolveCourse z count rows relations w result (unsolved 2 w result)
  solve-store-short : InRange z count → ¬ SolveLong z rows relations w result
      → SolveCourse z count rows relations w result (unsolved 1 w result)
  solve-number-wrong : InRange z count → SolveLong z rows relations w result → ¬ NumbersRight z count rows relations
      → SolveCourse z count rows relations w result (unsolved 5 w result)
  solve-side-wrong : InRange z count → SolveLong z rows relations w result → NumbersRight z count rows relations
      → ¬ SidesZero z count rows relations → SolveCourse z count rows relations w result (unsolved 14 w result)
  as-solved : SolvePassed z count rows relations w result → (a : Answer)
      → answer z (rows_of (equations z) rows) (relations_of count relations) ≡ a
      → SolveCourse z count rows relations w result (solved (answer_call z a w) result)
