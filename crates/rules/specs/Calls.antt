-- What each call on stores does as a whole: its result and the contents of each lent store afterwards.
--
-- Main definitions
--   Result, Call        the fields that a run returns; the result with both stores as the run leaves them
--   call_run side        a whole run on lent stores
--   polynomial_check, polynomial_part   the part of the row store that holds one polynomial, and the check on the same values
--   right_side_check, right_side_part     the same of the right side of a row
use Rattle.std.specs.Prelude.{ℕ, zero, suc, ◌+◌, ◌*◌, pred, Bool, true, false, ◌&&◌, cond, List, [], map, leb, length, take, drop, replicate, ℤ, pos, nat_abs, ◌-ℤ◌}
use Rattle.std.proofs.Math.Option.{Option, none, some}
use Rattle.std.specs.Int.Signed.{le_z}
use Rattle.lists.specs.Padded.{pad_to}
use Rattle.lists.specs.Overwritten.{overwrite}
use Rattle.rules.specs.Limits.{coefficient_count, column_count, row_length, block_length, entries_length}
use Rattle.rules.specs.Elimination.{Side, State, Outcome, going, done, refused, rank, whole_run_of, report, reported_times, never_number}
use Rattle.rules.specs.Stores.{Sizes, equations, span, rows_of, relations_of, row_need, relation_need, row_store_for, relation_store_of}
use Rattle.rules.specs.Stores.{sizes_right_of, check_stores_of}

-- What a run returns (SCOPE 3.22).
pub record Result : Type 0 where
  pub refusal : ℕ
  pub relations : ℕ
  pub shifts : ℕ
  pub order : List ℕ
  pub has_root_of : Bool
  pub root : ℤ
  pub rank : ℕ
  pub multiplicity : ℕ

pub record Call : Type 0 where
  pub result : Result
  pub row_store : List ℤ
  pub relation_store : List ℤ

-- A refusal returns its number, and 0 in all other fields (SCOPE 6.31).
unfoldable pub refusal : ℕ → Result
refusal n = record { refusal = n; relations = 0; shifts = 0; order = replicate column_count 0; has_root_of = false; root = pos 0; rank = 0; multiplicity = 0 }

-- The value beside "no" is 0 (SCOPE 2.82).
unfoldable pub root_found : Option ℤ → Bool
root_found none = false
root_found (some r) = true

unfoldable pub root_value : Option ℤ → ℤ
root_value none = pos 0
root_value (some r) = r

-- Columns are counted from 1 in a result, zeros past the end of the order (SCOPE 3.23).
unfoldable pub reported_order : List ℕ → List ℕ
unfolding pad_to
reported_order order = pad_to column_count 0 (map suc order)

unfoldable pub acceptance : Side → ℕ → State → Result
unfolding reported_order root_found root_value report reported_times rank
acceptance side D s =
    let root = report side D s in
    record {
      refusal = 0;
      relations = length s.relations;
      shifts = s.shifts;
      order = reported_order
          s.order;
      has_root_of = root_found root;
      root = root_value root;
      rank = rank s;
      multiplicity = reported_times side D s root;
    }

unfoldable pub zeros : ℕ → List ℤ
zeros n = replicate n (pos 0)

-- Refusals 1 to 5, found before the work begins, leave the stores as they were (SCOPE 6.32).
unfoldable pub unchanged : ℕ → List ℤ → List ℤ → Call
unfolding refusal
unchanged n row_store relation_store = record { result = refusal n; row_store = row_store; relation_store = relation_store }

-- Refusals 7 to 10, found during the work, make the needed parts zero; the rest stays (SCOPE 6.33).
unfoldable pub cleared : ℕ → ℕ → List ℤ → List ℤ → Call
unfolding refusal overwrite zeros row_need
cleared n equations row_store relation_store =
    record {
      result = refusal n;
      row_store = overwrite (zeros (row_need equations)) row_store;
      relation_store = overwrite
          (zeros relation_need) relation_store;
    }

unfoldable pub after_run_of : Side → Sizes → Outcome → List ℤ → List ℤ → Call
unfolding acceptance overwrite row_store_for relation_store_of cleared span
after_run_of side z (done s) row_store relation_store =
    record {
      result = acceptance side (span z) s;
      row_store = overwrite (row_store_for (equations z) s.rows) row_store;
      relation_store = overwrite
          (relation_store_of s.relations) relation_store;
    }
after_run_of side z (refused n) row_store relation_store = cleared n (equations z) row_store relation_store
-- A run always ends (crate theory), so this case never comes (SCOPE 3.24).
after_run_of side z (going s) row_store relation_store = cleared never_number (equations z) row_store relation_store

unfoldable pub after_check : Side → Sizes → ℕ → List ℤ → List ℤ → ℕ → Call
unfolding after_run_of whole_run_of rows_of relations_of unchanged span
after_check side z count row_store relation_store zero =
    after_run_of side z (whole_run_of side (span z) (rows_of (equations z) row_store) (relations_of count relation_store)) row_store relation_store
after_check side z count row_store relation_store (suc n) = unchanged (suc n) row_store relation_store

-- A run on lent stores, which hold its input and, if it accepts, its output afterwards (SCOPE 3.21).
unfoldable pub call_run : Side → Sizes → ℕ → List ℤ → List ℤ → Call
unfolding after_check check_stores_of
call_run side z count row_store relation_store =
    after_check side z count row_store relation_store (check_stores_of z count row_store relation_store)

-- ---- one polynomial of the row store

-- The row is that of an equation, the column from 1 to m, the block from t to l (SCOPE 3.42).
unfoldable pub place_right_of : Sizes → ℕ → ℤ → ℕ → Bool
place_right_of z row block column =
    (leb 1 row && leb row (equations z)) && (le_z z.t block && le_z block z.l) && (leb 1 column && leb column z.m)

-- 2 outside the sizes, otherwise 1 where the store is too short for the rows, otherwise 0 (SCOPE 3.42, 3.43).
unfoldable pub polynomial_check : List ℤ → Sizes → ℕ → ℤ → ℕ → ℕ
unfolding sizes_right_of place_right_of row_need
polynomial_check row_store z row block column =
    cond (sizes_right_of z && place_right_of z row block column) (cond (leb (row_need (equations z)) (length row_store)) 0 1) 2

-- Where its sixteen numbers begin (SCOPE 3.2).
unfoldable pub polynomial_place : Sizes → ℕ → ℤ → ℕ → ℕ
polynomial_place z row block column =
    pred row * row_length + nat_abs (z.l -ℤ block) * block_length + pred column * coefficient_count

unfoldable pub part_at : List ℤ → ℕ → ℕ → List ℤ
part_at row_store place zero = take coefficient_count (drop place row_store)
part_at row_store place (suc n) = []

-- The sixteen numbers of the store that hold one polynomial; none where the check is not 0 (SCOPE 3.41, 3.44).
unfoldable pub polynomial_part : List ℤ → Sizes → ℕ → ℤ → ℕ → List ℤ
unfolding part_at polynomial_place polynomial_check
polynomial_part row_store z row block column =
    part_at row_store (polynomial_place z row block column) (polynomial_check row_store z row block column)

-- ---- the right side of one row of the store

-- 2 outside the sizes or the rows, otherwise 1 where the store is too short for the rows, otherwise 0 (SCOPE 3.45).
unfoldable pub right_side_check : List ℤ → Sizes → ℕ → ℕ
unfolding sizes_right_of row_need
right_side_check row_store z row =
    cond (sizes_right_of z && (leb 1 row && leb row (equations z))) (cond (leb (row_need (equations z)) (length row_store)) 0 1) 2

-- The sixteen numbers behind the row's entries; none where the check is not 0 (SCOPE 3.2, 3.45).
unfoldable pub right_side_part : List ℤ → Sizes → ℕ → List ℤ
unfolding part_at right_side_check
right_side_part row_store z row = part_at row_store (pred row * row_length + entries_length) (right_side_check row_store z row)
