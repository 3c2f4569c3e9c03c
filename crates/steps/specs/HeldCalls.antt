-- The state that is handed from call to call, and what the calls on it do as a whole: their results and the contents of each lent
-- store afterwards (SCOPE 11.11 to 11.41).
--
-- Main definitions
--   Held, state_numbers_of           the state as it is handed over, and its eleven numbers
--   state_in_of x rows relations     the state of the elimination that it is with its stores
--   held_state z s                what is handed over of a state of the elimination
--   prepared z count, prepare_call   the state before the first step, and the call that prepares it
--   sizes_held_of, pivots_right_of, check_state_of   the checks of a state that is handed in (refusals 11 and 1)
--   StepsResult, StepsCall, steps_call    a run with a budget on a state that is handed in
use Rattle.std.specs.Prelude.{ℕ, zero, suc, ◌*◌, pred, Bool, true, false, ◌&&◌, not, cond, List, [], ◌∷◌, ◌++◌, map, leb, eqb, length, take, drop, get_or, replicate, ℤ, pos}
use Rattle.algebra.specs.Polynomials.{is_zero_of}
use Rattle.lists.specs.Tests.{every}
use Rattle.lists.specs.Overwritten.{overwrite}
use Rattle.rules.specs.Limits.{column_count, most_equations}
use Rattle.rules.specs.Rows.{Row, no_row, entry}
use Rattle.rules.specs.Elimination.{State, Outcome, going, done, refused, leading}
use Rattle.rules.specs.Stores.{Sizes, equations, with_equations_of, span, rows_of, relations_of, row_need, relation_need, row_store_for}
use Rattle.rules.specs.Stores.{relation_store_of, sizes_right_of, count_right, lengths_right_of, numbers_right_of, check_stores_of}
use Rattle.rules.specs.Calls.{Result, refusal, reported_order, acceptance, zeros}
use Rattle.steps.specs.Budgets.{steps}

-- ---- the state

-- The sizes of the rows that are left, the number of relations, of settled rows, their columns, counted from 1, with zeros past
-- the last, and the shifts (SCOPE 11.11).
pub record Held : Type 0 where
  pub sizes : Sizes
  pub relations : ℕ
  pub settled : ℕ
  pub order : List ℕ
  pub shifts : ℕ

-- m, the number of equations, l, t, the relations, the settled rows, c(1) to c(4), the shifts (SCOPE 11.12).
unfoldable pub state_numbers_of : Held → List ℤ
state_numbers_of x =
    pos x.sizes.m ∷ pos (equations x.sizes) ∷ x.sizes.l ∷ x.sizes.t ∷ pos x.relations ∷ pos x.settled
    ∷ (map pos x.order ++ (pos x.shifts ∷ []))

-- All columns are 0, and all numbers of a state that a refusal gives back (SCOPE 11.34).
abbrev pub no_columns : List ℕ
no_columns = replicate column_count 0

abbrev pub no_state_of : Held
no_state_of =
    record {
      sizes = record { m = 0; equations = 0; l = pos 0; t = pos 0 };
      relations = 0;
      settled = 0;
      order = no_columns;
      shifts = 0;
    }

-- The columns of the settled rows, counted from 0.
unfoldable pub the_columns_of : Held → List ℕ
the_columns_of x = map pred (take x.settled x.order)

-- What the numbers say with the stores (SCOPE 11.13).
unfoldable pub state_in_of : Held → List ℤ → List ℤ → State
unfolding rows_of relations_of the_columns_of
state_in_of x row_store relation_store =
    record {
      rows = rows_of (equations x.sizes) row_store;
      relations = relations_of x.relations relation_store;
      order = the_columns_of x;
      shifts = x.shifts;
    }

-- The equations are the rows that are left (SCOPE 11.14).
unfoldable pub held_state : Sizes → State → Held
unfolding with_equations_of reported_order
held_state z s =
    record {
      sizes = with_equations_of (length s.rows) z;
      relations = length s.relations;
      settled = length s.order;
      order = reported_order s.order;
      shifts = s.shifts;
    }

-- ---- preparing

-- No row is settled (SCOPE 11.15).
unfoldable pub prepared : Sizes → ℕ → Held
prepared z count = record { sizes = z; relations = count; settled = 0; order = no_columns; shifts = 0 }

pub record Prepared : Type 0 where
  pub refusal : ℕ
  pub state : Held

unfoldable pub after_checks : Sizes → ℕ → ℕ → Prepared
unfolding prepared
after_checks z count zero = record { refusal = 0; state = prepared z count }
after_checks z count (suc n) = record { refusal = suc n; state = no_state_of }

-- The checks are those of a run; the stores are only read (SCOPE 11.16).
unfoldable pub prepare_call : Sizes → ℕ → List ℤ → List ℤ → Prepared
unfolding after_checks check_stores_of
prepare_call z count row_store relation_store = after_checks z count (check_stores_of z count row_store relation_store)

-- ---- the checks of a state that is handed in

-- m, the equations, l, t and the relations as a run has them; no more settled rows than unknowns and rows; their columns from 1 to m
-- and 0 past them; no more shifts than a run of six equations makes (SCOPE 11.22).
unfoldable pub sizes_held_of : Held → Bool
sizes_held_of x =
    (sizes_right_of x.sizes && count_right x.relations)
    && (leb x.settled x.sizes.m && leb x.settled (equations x.sizes))
    && (every (λ c. leb 1 c && leb c x.sizes.m) (take x.settled x.order) && every (eqb 0) (drop x.settled x.order))
    && leb x.shifts (most_equations * span x.sizes)

-- A settled row is zero at the columns before its own and not zero there (SCOPE 11.24).
unfoldable pub pivot_right : List ℕ → ℕ → Row → Bool
unfolding every is_zero_of entry
pivot_right order j r = every (λ c. is_zero_of (entry r c)) (take j order) && not (is_zero_of (entry r (get_or order j 0)))

-- The first rows, so many.
unfoldable pub pivots_right_of : List ℕ → List Row → ℕ → Bool
unfolding pivot_right
pivots_right_of order rows zero = true
pivots_right_of order rows (suc j) = pivots_right_of order rows j && pivot_right order j (get_or rows j no_row)

-- Sizes (11), lengths (1), numbers (11), the diagonal and the columns last (11) (SCOPE 11.21).
unfoldable pub check_state_of : Held → List ℤ → List ℤ → ℕ
unfolding sizes_held_of lengths_right_of numbers_right_of pivots_right_of the_columns_of rows_of
check_state_of x row_store relation_store =
    let pivots : ℕ = cond (pivots_right_of (the_columns_of x) (rows_of (equations x.sizes) row_store) x.settled) 0 11 in
    let numbers : ℕ = cond (numbers_right_of x.sizes x.relations row_store relation_store) pivots 11 in
    let lengths : ℕ = cond (lengths_right_of (equations x.sizes) row_store relation_store) numbers 1 in
    cond (sizes_held_of x) lengths 11

-- ---- a run with a budget

-- The steps that were taken, whether the state is finished, the state, and the result of the run: that of a whole run if it is
-- finished, otherwise its refusal, if there is one, and zeros (SCOPE 11.31).
pub record StepsResult : Type 0 where
  pub steps : ℕ
  pub finished : Bool
  pub state : Held
  pub run : Result

pub record StepsCall : Type 0 where
  pub result : StepsResult
  pub row_store : List ℤ
  pub relation_store : List ℤ

-- What a run leaves that is not refused; the places of the rows that it has dropped hold 0 (SCOPE 11.32, 11.33).
unfoldable pub moved_to : Sizes → ℕ → Bool → Result → State → List ℤ → List ℤ → StepsCall
unfolding held_state overwrite row_store_for relation_store_of
moved_to z taken finished run s row_store relation_store =
    record {
      result = record { steps = taken; finished = finished; state = held_state z s; run = run };
      row_store = overwrite (row_store_for (equations z) s.rows) row_store;
      relation_store = overwrite (relation_store_of s.relations) relation_store;
    }

-- A refusal during the work reports the steps before it; the needed parts and all other numbers are zero (SCOPE 11.34).
unfoldable pub stopped_by_of : Sizes → ℕ → ℕ → List ℤ → List ℤ → StepsCall
unfolding overwrite zeros row_need refusal
stopped_by_of z taken n row_store relation_store =
    record {
      result = record { steps = taken; finished = false; state = no_state_of; run = refusal n };
      row_store = overwrite (zeros (row_need (equations z))) row_store;
      relation_store = overwrite (zeros relation_need) relation_store;
    }

unfoldable pub after_steps : Sizes → ℕ → Outcome → List ℤ → List ℤ → StepsCall
unfolding moved_to stopped_by_of acceptance span refusal
after_steps z taken (going s) row_store relation_store = moved_to z taken false (refusal 0) s row_store relation_store
after_steps z taken (done s) row_store relation_store = moved_to z taken true (acceptance leading (span z) s) s row_store relation_store
after_steps z taken (refused n) row_store relation_store = stopped_by_of z taken n row_store relation_store

-- A refusal before the work leaves the stores and the state as they were (SCOPE 11.35).
unfoldable pub unmoved : ℕ → Held → List ℤ → List ℤ → StepsCall
unfolding refusal
unmoved n x row_store relation_store =
    record {
      result = record { steps = 0; finished = false; state = x; run = refusal n };
      row_store = row_store;
      relation_store = relation_store;
    }

unfoldable pub after_state_check : ℕ → Held → List ℤ → List ℤ → ℕ → StepsCall
unfolding after_steps steps state_in_of unmoved
after_state_check budget x row_store relation_store zero =
    let w = steps leading budget (state_in_of x row_store relation_store) in
    after_steps x.sizes w.taken w.outcome row_store relation_store
after_state_check budget x row_store relation_store (suc n) = unmoved (suc n) x row_store relation_store

-- At most as many steps as the budget says, on the leading side (SCOPE 11.31).
unfoldable pub steps_call : ℕ → Held → List ℤ → List ℤ → StepsCall
unfolding after_state_check check_state_of
steps_call budget x row_store relation_store =
    after_state_check budget x row_store relation_store (check_state_of x row_store relation_store)
