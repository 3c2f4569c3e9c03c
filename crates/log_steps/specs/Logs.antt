-- Elimination logs from elsewhere: the steps of a log, and what a replay makes of a system (SCOPE 13).
--
-- Main definitions
--   steps_in, numbers_in     a log's store, cut into its steps and the numbers at the end
--   log_need count, own_need   the numbers that a log's store needs, for so many steps and for our own log
--   Change                 a step of a log: an exchange, a combination, a shift up or down, the drop of a row
--   change_of numbers       the step that 36 numbers say, if they are well formed
--   allowed D s c          the condition of a step (refusal 13)
--   applied s c            what the step does, with its limits 9, 7, 8
--   replayed D l s         the steps of l, one after the other
--   ordered m numbers s    the column order and the triangular form at the end (refusal 13)
--   replay m D l numbers rows relations   the whole replay
use Rattle.std.specs.Prelude.{ℕ, zero, suc, ◌+◌, ◌*◌, pred, Bool, ◌&&◌, not, cond, List, [], ◌∷◌, map, leb, ltb, eqb, length, get_or, take, drop, ℤ, pos, nat_abs}
use Rattle.std.proofs.Math.Option.{Option, none, some}
use Rattle.std.specs.Int.Signed.{le_z}
use Rattle.lists.specs.Parts.{parts}
use Rattle.lists.specs.Tests.{every}
use Rattle.algebra.specs.Divisors.{divides}
use Rattle.algebra.specs.Gcd.{divide_by}
use Rattle.algebra.specs.Polynomials.{Polynomial, is_zero_of}
use Rattle.rules.specs.Limits.{coefficient_count, column_count, most_relations, small}
use Rattle.rules.specs.Rows.{Row, Relation, map_row, coefficients_of, zero_block, zero_row, leading_block, combine}
use Rattle.rules.specs.Elimination.{State, start, Outcome, going, done, refused, and_then, leading, row_at, exchange, drop_row, shift_step_of}
use Rattle.rules.specs.Elimination.{list_relations, root_relations, put_limited_of, limit_degrees, limit_coefficients}
use Rattle.rules.specs.SheetCalls.{different_columns_of}
use Rattle.theory.specs.ShiftDown.{shift_down}
use Rattle.steps.specs.HeldCalls.{pivots_right_of}

-- A log has 1,000 steps or fewer (SCOPE 13.1).
abbrev pub most_steps : ℕ
most_steps = 1000

-- The kind, i, j, the integer, the coefficients of g and those of h (SCOPE 13.11).
abbrev pub step_length : ℕ
step_length = 4 + (coefficient_count + coefficient_count)

-- The steps that a log's store holds, and the four numbers behind them (SCOPE 13.1).
unfoldable pub steps_in : ℕ → List ℤ → List (List ℤ)
unfolding parts
steps_in count log = parts step_length count log

unfoldable pub numbers_in : ℕ → List ℤ → List ℤ
numbers_in count log = take column_count (drop (count * step_length) log)

-- The steps and the four numbers (SCOPE 13.1).
unfoldable pub log_need : ℕ → ℕ
log_need count = count * step_length + column_count

-- Room for the longest log (SCOPE 13.52).
abbrev pub own_need : ℕ
own_need = most_steps * step_length + column_count

-- ---- a step of a log

-- Rows are counted from 0 here. A combination has i, j, the integer, g and h (SCOPE 13.2).
pub data Change : Type 0 where
  exchanging : ℕ → ℕ → Change
  combining : ℕ → ℕ → ℕ → Polynomial → Polynomial → Change
  raising : ℕ → Change
  lowering : ℕ → Change
  dropping : ℕ → Change

-- Rows are counted from 1 in a log (SCOPE 13.12).
unfoldable pub counted : ℤ → Bool
counted a = le_z (pos 1) a

unfoldable pub place_of : ℤ → ℕ
place_of a = pred (nat_abs a)

unfoldable pub multiplier_g : List ℤ → Polynomial
multiplier_g l = take coefficient_count (drop 4 l)

unfoldable pub multiplier_h : List ℤ → Polynomial
multiplier_h l = take coefficient_count (drop (4 + coefficient_count) l)

-- A step of one row: its other fields are not used, so they are 0 (SCOPE 13.12).
unfoldable pub of_row_of : (ℕ → Change) → List ℤ → Option Change
unfolding counted place_of is_zero_of
of_row_of change l = cond (counted (get_or l 1 (pos 0)) && is_zero_of (drop 2 l)) (some (change (place_of (get_or l 1 (pos 0))))) none

unfoldable pub two_places : List ℤ → Bool
unfolding counted
two_places l = counted (get_or l 1 (pos 0)) && counted (get_or l 2 (pos 0))

unfoldable pub exchange_of : List ℤ → Option Change
unfolding two_places place_of is_zero_of
exchange_of l =
    cond (two_places l && is_zero_of (drop 3 l)) (some (exchanging (place_of (get_or l 1 (pos 0))) (place_of (get_or l 2 (pos 0))))) none

-- The coefficients of g and h are within ±C, and the integer is positive (SCOPE 13.12).
unfoldable pub combination_right : List ℤ → Bool
unfolding two_places counted every small multiplier_g multiplier_h
combination_right l = (two_places l && counted (get_or l 3 (pos 0))) && (every small (multiplier_g l) && every small (multiplier_h l))

unfoldable pub combination_of : List ℤ → Option Change
unfolding combination_right place_of multiplier_g multiplier_h
combination_of l =
    cond (combination_right l)
    (some (combining (place_of (get_or l 1 (pos 0))) (place_of (get_or l 2 (pos 0))) (nat_abs (get_or l 3 (pos 0))) (multiplier_g l) (multiplier_h l)))
    none

-- The kinds are 1 to 5, in the order of the constructors; 0 stands here for the first (SCOPE 13.12).
unfoldable pub change_of_kind : ℕ → List ℤ → Option Change
unfolding exchange_of combination_of of_row_of
change_of_kind zero l = exchange_of l
change_of_kind (suc zero) l = combination_of l
change_of_kind (suc (suc zero)) l = of_row_of raising l
change_of_kind (suc (suc (suc zero))) l = of_row_of lowering l
change_of_kind (suc (suc (suc (suc zero)))) l = of_row_of dropping l
change_of_kind (suc (suc (suc (suc (suc k))))) l = none

unfoldable pub change_of : List ℤ → Option Change
unfolding counted place_of change_of_kind
change_of l = cond (counted (get_or l 0 (pos 0))) (change_of_kind (place_of (get_or l 0 (pos 0))) l) none

-- ---- what a step does

-- Does d divide every coefficient?
unfoldable pub divides_all : ℕ → List ℤ → Bool
unfolding every divides
divides_all d l = every (λ a. divides d (nat_abs a)) l

-- Both rows are present, and they are different (SCOPE 13.21, 13.22).
unfoldable pub two_rows_of : State → ℕ → ℕ → Bool
two_rows_of s i j = (ltb i (length s.rows) && ltb j (length s.rows)) && not (eqb i j)

-- g × row i + h × row j, divided by d on both sides (SCOPE 13.22).
unfoldable pub divided_row_of : State → ℕ → ℕ → ℕ → Polynomial → Polynomial → Row
unfolding map_row divide_by combine row_at
divided_row_of s i j d g h = map_row (divide_by d) (combine g h (row_at s i) (row_at s j))

-- The condition of a step. A shift loses block l or block t, which is then zero; a row that is dropped is zero on both sides; the
-- integer divides all coefficients of the result, also those past degree 15 (SCOPE 13.21 to 13.25).
unfoldable pub allowed : ℕ → State → Change → Bool
unfolding two_rows_of is_zero_of divides_all coefficients_of combine row_at zero_block leading_block zero_row
allowed D s (exchanging i j) = two_rows_of s i j
allowed D s (combining i j d g h) =
    two_rows_of s i j && (not (is_zero_of g) && divides_all d (coefficients_of (combine g h (row_at s i) (row_at s j))))
allowed D s (raising i) = ltb i (length s.rows) && zero_block (leading_block (row_at s i))
allowed D s (lowering i) = ltb i (length s.rows) && zero_block (get_or (row_at s i).blocks D [])
allowed D s (dropping i) = ltb i (length s.rows) && zero_row (row_at s i)

-- Row i, as it is before the step, at the roots of g, ascending, is listed; then the limits 9, 7 and 8, and no 10 (SCOPE 13.26, 13.27).
unfoldable pub combine_rows_of : State → ℕ → ℕ → ℕ → Polynomial → Polynomial → Outcome
unfolding list_relations root_relations row_at divided_row_of limit_degrees put_limited_of
combine_rows_of s i j d g h =
    let listed = list_relations s (root_relations leading g (row_at s i)) in
    cond (leb (length listed.relations) most_relations) (put_limited_of listed i (limit_degrees (divided_row_of s i j d g h))) (refused 9)

-- n - 1 for n, and a zero block comes in at the top; the steps up are counted, those down are not (SCOPE 13.24).
unfoldable pub lower_row_of : State → ℕ → Outcome
unfolding shift_down row_at limit_coefficients put_limited_of
lower_row_of s i = put_limited_of s i (limit_coefficients (shift_down (row_at s i)))

unfoldable pub applied : State → Change → Outcome
unfolding exchange combine_rows_of shift_step_of lower_row_of drop_row
applied s (exchanging i j) = going (exchange s i j)
applied s (combining i j d g h) = combine_rows_of s i j d g h
applied s (raising i) = shift_step_of s i
applied s (lowering i) = lower_row_of s i
applied s (dropping i) = going (drop_row s i)

-- The condition comes before the limits (SCOPE 13.26).
unfoldable pub changed : ℕ → State → Change → Outcome
unfolding allowed applied
changed D s c = cond (allowed D s c) (applied s c) (refused 13)

unfoldable pub changed_if : ℕ → State → Option Change → Outcome
unfolding changed
changed_if D s none = refused 13
changed_if D s (some c) = changed D s c

-- Each step is looked at when its turn comes (SCOPE 13.26).
unfoldable pub replayed : ℕ → List (List ℤ) → State → Outcome
unfolding changed_if change_of and_then
replayed D [] s = going s
replayed D (x ∷ l) s = and_then (changed_if D s (change_of x)) (replayed D l)

-- ---- the end

-- Columns are counted from 1 in a log; there are as many as rows, and 0 past them (SCOPE 13.31).
unfoldable pub order_holds_of : ℕ → ℕ → List ℤ → Bool
unfolding every different_columns_of is_zero_of
order_holds_of m w numbers =
    (leb w m && every (le_z (pos 0)) numbers) && (different_columns_of m (map nat_abs (take w numbers)) && is_zero_of (drop w numbers))

unfoldable pub the_columns_of : ℕ → List ℤ → List ℕ
unfolding place_of
the_columns_of w numbers = map place_of (take w numbers)

unfoldable pub with_order : List ℕ → State → State
with_order order s = record { rows = s.rows; relations = s.relations; order = order; shifts = s.shifts }

-- What is accepted has its columns as a run has them (SCOPE 13.3).
unfoldable pub ordered : ℕ → List ℤ → State → Outcome
unfolding order_holds_of the_columns_of pivots_right_of with_order
ordered m numbers s =
    let w = length s.rows in
    let order = the_columns_of w numbers in
    cond (order_holds_of m w numbers && pivots_right_of order s.rows w) (done (with_order order s)) (refused 13)

unfoldable pub replay : ℕ → ℕ → List (List ℤ) → List ℤ → List Row → List Relation → Outcome
unfolding replayed ordered and_then start
replay m D l numbers rows relations = and_then (replayed D l (start rows relations)) (ordered m numbers)
