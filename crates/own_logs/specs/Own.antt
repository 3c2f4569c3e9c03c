-- Our own leading run, written as a log (SCOPE 13.5).
--
-- Main definitions
--   change_numbers c          the 36 numbers of a step
--   divisor_of r              the content that a combination is divided by, 1 for a zero result
--   step_changes s            the steps of a log that one step of a run is
--   run_changes k s           those of a run of at most k steps
--   own_changes rows relations, own_numbers order   the log of a whole run, and its four numbers at the end
--   log_of changes numbers    a log as its store holds it
--   own_store changes numbers   that with zeros past it, up to the needed part's end
use Rattle.std.specs.Prelude.{ℕ, zero, suc, ◌-◌, cond, ltb, length, ℤ, pos}
use mathlib.Core.List.{List, [], ◌∷◌, ◌++◌, map, flatten}
use Rattle.std.proofs.Math.Option.{Option, none, some}
use Rattle.algebra.specs.Gcd.{content}
use Rattle.rules.specs.Rows.{Row, Relation, coefficients_of, zero_row, width, leading_block, entry, first_nonzero, combine}
use Rattle.rules.specs.Calls.{zeros, reported_order}
use Rattle.rules.specs.Elimination.{State, start, Outcome, going, done, refused, leading, Multipliers, multipliers_at, row_at, narrow_first}
use Rattle.rules.specs.Elimination.{finished, step, enough}
use Rattle.log_steps.specs.Logs.{Change, exchanging, combining, raising, lowering, dropping, own_need}

-- Fields that are not used are 0 (SCOPE 13.12).
unfoldable pub change_numbers : Change → List ℤ
unfolding zeros
change_numbers (exchanging i j) = pos 1 ∷ pos (suc i) ∷ pos (suc j) ∷ zeros 33
change_numbers (combining i j d g h) = pos 2 ∷ pos (suc i) ∷ pos (suc j) ∷ pos d ∷ (g ++ h)
change_numbers (raising i) = pos 3 ∷ pos (suc i) ∷ zeros 34
change_numbers (lowering i) = pos 4 ∷ pos (suc i) ∷ zeros 34
change_numbers (dropping i) = pos 5 ∷ pos (suc i) ∷ zeros 34

-- A zero result is divided by 1 (SCOPE 13.51).
unfoldable pub divisor_of : Row → ℕ
unfolding content coefficients_of
divisor_of r = elim (content (coefficients_of r)) [ zero ↦ 1 | suc d ↦ suc d ]

unfoldable pub combination_change : State → ℕ → ℕ → Multipliers → Change
unfolding divisor_of combine row_at
combination_change s i j x = combining i j (divisor_of (combine x.g x.h (row_at s i) (row_at s j))) x.g x.h

-- The exchange of rule 2, if there is one, and the combination are two steps of a log (SCOPE 13.51).
unfoldable pub eliminate_changes : State → ℕ → ℕ → List Change
unfolding narrow_first combination_change multipliers_at width row_at
eliminate_changes s i j =
    let e = narrow_first s i j in
    let rest = combination_change e i j (multipliers_at e i j) ∷ [] in
    cond (ltb (width (row_at s i)) (width (row_at s j))) (exchanging i j ∷ rest) rest

-- A row that is settled stays as it is, which is no step of a log.
unfoldable pub shift_changes : ℕ → Option ℕ → List Change
shift_changes i (some c) = []
shift_changes i none = raising i ∷ []

unfoldable pub meet_changes : State → ℕ → Option ℕ → List Change
unfolding eliminate_changes shift_changes first_nonzero leading_block row_at
meet_changes s i (some j) = eliminate_changes s i j
meet_changes s i none = shift_changes i (first_nonzero (leading_block (row_at s i)))

unfoldable pub work_changes : State → ℕ → List Change
unfolding zero_row meet_changes first_nonzero entry row_at
work_changes s i = cond (zero_row (row_at s i)) (dropping i ∷ []) (meet_changes s i (first_nonzero (map (entry (row_at s i)) s.order)))

unfoldable pub step_changes : State → List Change
unfolding work_changes
step_changes s = work_changes s (length s.order)

unfoldable pub later : Outcome → (State → List Change) → List Change
later (going s) f = f s
later (done s) f = []
later (refused n) f = []

unfoldable pub run_changes : ℕ → State → List Change
unfolding finished step_changes later step
run_changes zero s = []
run_changes (suc k) s = cond (finished s) [] (step_changes s ++ later (step leading s) (run_changes k))

unfoldable pub own_changes : List Row → List Relation → List Change
unfolding run_changes enough start
own_changes rows relations = run_changes (enough rows) (start rows relations)

-- The columns as a run reports them (SCOPE 13.52).
unfoldable pub own_numbers : List ℕ → List ℤ
unfolding reported_order
own_numbers order = map pos (reported_order order)

-- The steps, then the four numbers (SCOPE 13.1).
unfoldable pub log_of : List Change → List ℤ → List ℤ
unfolding flatten change_numbers
log_of changes numbers = flatten (map change_numbers changes) ++ numbers

-- Zeros past the log (SCOPE 13.52).
unfoldable pub own_store : List Change → List ℤ → List ℤ
unfolding log_of zeros
own_store changes numbers = log_of changes numbers ++ zeros (own_need - length (log_of changes numbers))
