-- The state that the lent stores hold with a run's progress, and what a step asks and gives.
--
-- Main definitions
--   state_of rows relations p     the state: the rows that are left, relations, the columns of the settled rows, shifts
--   outcome_of refusal done s     going on, done or refused
--   outcome_at rows relations o   the outcome that an answer of the code gives with the stores
--   outcome_in rows relations r   the same of the result of a run
--   most_steps                    the most steps of a run
--   start_progress, dropped_progress, settled_progress, listed_progress, shifted_progress   the progress at the start, and after each rule
--   Ready rows relations p       what a step asks of the stores and of the progress
--   Freed n k store              the places of the rows k to n - 1 hold 0
--   final_answer equations r     the answer of a whole run of so many rows, which a refusal leaves as it was before its first step
--   Reached n .. most o x        what steps give with n rows at first: their outcome is x, the places of the rows that were
--                                dropped hold 0, the rest of the stores is kept, at most `most` shifts are made, and the stores
--                                are ready for a step
--   Came view n .. most r x      the same of a result r: with a refusal the stores are those of the progress at it
--
-- Main statements
--   outcome-run                  the outcome of a run's result is that of its answer
--   ready_with                   a step may be made with other stores and counts
use Rattle.std.specs.Prelude.{ℕ, zero, suc, ◌+◌, ◌*◌, ◌-◌, ◌≤◌, ◌≡◌, ◌≢◌, refl, Bool, true, false, leb, List, [], ◌∷◌, ℤ, length, take, drop, set, Result}
use Rattle.std.proofs.Common.{Ok, Err}
use Rattle.algebra.specs.Pigeonhole.{Distinct}
use Rattle.rules.specs.Limits.{most_equations, column_count, block_count, row_length}
use Rattle.rules.specs.Rows.{Row, Relation}
use Rattle.rules.specs.Elimination.{State, Outcome, going, done, refused}
use Rattle.rules.specs.Stores.{rows_of, relations_of, row_need, relation_need}
use Rattle.rules.specs.Calls.{zeros}
use Rattle.lists.specs.Padded.{pad_to}
use Rattle.working_rows.specs.Found.{Columns}
use Rattle.sides.specs.Lent.{Within, Listing, Kept}
use Rattle.reduction.specs.declared.step.Progress.{Progress}
use Rattle.reduction.specs.declared.step.Stop.{Stop}
use Rattle.refusals.specs.declared.Refusal.{Refusal}
use Rattle.refusals.specs.Refusals.{number_of, number-nonzero}
use Rattle.reduction.specs.Answer as Answer
use Rattle.reduction.specs.Answer.{told, progress_at, run_answer}

abbrev pub state : List Row → List Relation → List ℕ → ℕ → State
state rows relations order shifts = record { rows = rows; relations = relations; order = order; shifts = shifts }

unfoldable pub state_of : List ℤ → List ℤ → Progress → State
unfolding rows_of relations_of
state_of rows relations p =
    state (rows_of p.rows rows) (relations_of p.count relations) (take p.settled p.order) p.shifts

unfoldable pub outcome_of : ℕ → Bool → State → Outcome
outcome_of zero false s = going s
outcome_of zero true s = done s
outcome_of (suc n) d s = refused (suc n)

-- A refusal, or 0: the run goes on with the progress p.
abbrev pub answer_of : ℕ → Progress → Answer.Outcome
answer_of refusal p = record { refusal = refusal; done = false; progress = p }

abbrev pub outcome_at : List ℤ → List ℤ → Answer.Outcome → Outcome
outcome_at rows relations o = outcome_of o.refusal o.done (state_of rows relations o.progress)

abbrev pub outcome_in : List ℤ → List ℤ → Result Progress Refusal → Outcome
outcome_in rows relations (Ok p) = outcome_of 0 (leb p.rows p.settled) (state_of rows relations p)
outcome_in rows relations (Err r) = refused (number_of r)

pub refused-is : (n : ℕ) (d : Bool) (s : State) → n ≢ 0 → refused n ≡ outcome_of n d s
unfolding outcome_of
refused-is zero d s h = absurd (h refl)
refused-is (suc n) d s h = refl

pub outcome-run : (rows relations : List ℤ) (r : Result Progress Refusal) (left : Progress)
    → outcome_in rows relations r ≡ outcome_at rows relations (run_answer r left)
outcome-run rows relations (Ok p) left = refl
outcome-run rows relations (Err r) left = refused-is (number_of r) false (state_of rows relations left) (number-nonzero r)

-- ---- how far a run has come

-- The steps that are enough with six rows of five blocks, and so the most shifts.
abbrev pub most_steps : ℕ
most_steps = (most_equations + 1) * (most_equations + most_equations * block_count)

abbrev pub start_progress : ℕ → ℕ → Progress
start_progress equations count = record { rows = equations; settled = 0; order = 0 ∷ 0 ∷ 0 ∷ 0 ∷ []; count = count; shifts = 0 }

abbrev pub final_answer : ℕ → Result Progress Refusal → Answer.Outcome
final_answer equations r = run_answer r (start_progress equations 0)

-- The row that is worked on is dropped.
abbrev pub dropped_progress : Progress → Progress
dropped_progress p = record { rows = p.rows - 1; settled = p.settled; order = p.order; count = p.count; shifts = p.shifts }

-- The row that is worked on is settled at column c.
abbrev pub settled_progress : Progress → ℕ → Progress
settled_progress p c =
    record { rows = p.rows; settled = p.settled + 1; order = set p.order p.settled c; count = p.count; shifts = p.shifts }

-- n relations more are listed.
abbrev pub listed_progress : Progress → ℕ → Progress
listed_progress p n = record { rows = p.rows; settled = p.settled; order = p.order; count = p.count + n; shifts = p.shifts }

-- The row that is worked on is shifted.
abbrev pub shifted_progress : Progress → Progress
shifted_progress p = record { rows = p.rows; settled = p.settled; order = p.order; count = p.count; shifts = p.shifts + 1 }

-- ---- what a step asks and gives

-- The columns of the settled rows are different, and those past them are 0.
pub record Ready (rows relations : List ℤ) (p : Progress) : Type 0 where
  pub few-rows : p.rows ≤ most_equations
  pub rows-within : Within (row_need p.rows) rows
  pub listing : Listing p.count relations
  pub settled : p.settled ≤ p.rows
  pub few-settled : p.settled ≤ column_count
  pub different : Distinct (take p.settled p.order)
  pub four : length p.order ≡ column_count
  pub columns : Columns p.order
  pub padded : p.order ≡ pad_to column_count 0 (take p.settled p.order)

-- A step may be made with other stores and counts.
pub ready_with : {count shifts : ℕ} {rows relations rows' relations' : List ℤ} {p : Progress} → Ready rows relations p
    → Within (row_need p.rows) rows' → Listing count relations'
    → Ready rows' relations' (record { rows = p.rows; settled = p.settled; order = p.order; count = count; shifts = shifts })
ready_with r w l =
    record {
      few-rows = r.few-rows;
      rows-within = w;
      listing = l;
      settled = r.settled;
      few-settled = r.few-settled;
      different = r.different;
      four = r.four;
      columns = r.columns;
      padded = r.padded;
    }

-- The places of the rows that were dropped (SCOPE 3.14).
abbrev pub Freed : ℕ → ℕ → List ℤ → Type 0
Freed n k store = take ((n - k) * row_length) (drop (row_need k) store) ≡ zeros ((n - k) * row_length)

pub record Reached (n : ℕ) (rows relations rows' relations' : List ℤ) (most : ℕ) (o : Answer.Outcome) (x : Outcome) : Type 0 where
  pub outcome : outcome_at rows' relations' o ≡ x
  pub fewer : o.progress.rows ≤ n
  pub freed : Freed n o.progress.rows rows'
  pub rows-kept : Kept (row_need n) rows rows'
  pub relations-kept : Kept relation_need relations relations'
  pub few-shifts : o.progress.shifts ≤ most
  pub ready : Ready rows' relations' o.progress

abbrev pub Came : (Result Progress Refusal → Progress → Answer.Outcome) → ℕ → List ℤ → List ℤ → List ℤ → List ℤ → ℕ
    → Result Progress Stop → Outcome → Type 0
Came view n rows relations rows' relations' most r x = Reached n rows relations rows' relations' most (view (told r) (progress_at r)) x
