-- The call on stores: its result and the contents of each lent store afterwards (SCOPE 14.6).
--
-- Main definitions
--   Result, Work, Call   what the call returns; the stores that it may write; both
--   unlisted             a result without a list
--   check_call            the checks before the work: sizes, lengths, numbers, right sides
--   solutions_call        the call as a whole
use Rattle.std.specs.Prelude.{ℕ, zero, suc, Bool, true, false, ◌&&◌, cond, List, leb, length, ℤ}
use Rattle.lists.specs.Overwritten.{overwrite}
use Rattle.rules.specs.Stores.{Sizes, equations, rows_of, relations_of, row_need, relation_need, sizes_right_of, count_right, lengths_right_of}
use Rattle.rules.specs.Stores.{numbers_right_of}
use Rattle.rules.specs.Calls.{zeros}
use Rattle.constant_rows.specs.ListLengths.{list_need, matrix_need}
use Rattle.back_substitution.specs.Listed.{list_store_of}
use Rattle.solutions.specs.SolutionAnswers.{Answer, refused_with, none_listed, listed, homogeneous, answer}

-- "begun" from the trailing run on, so that a refusal of the checks is told from a later one; "found" where 0 ≤ N, otherwise all numbers
-- are 0 (SCOPE 14.64).
pub record Result : Type 0 where
  pub refusal : ℕ
  pub begun : Bool
  pub found : Bool
  pub last : ℕ
  pub count : ℕ

-- The stores that a call may write: those in which the trailing run is made, the constant rows, and the list.
pub record Work : Type 0 where
  pub rows : List ℤ
  pub relations : List ℤ
  pub matrix : List ℤ
  pub list : List ℤ

pub record Call : Type 0 where
  pub result : Result
  pub work : Work

-- The stores of the system, those of the trailing run, the matrix and the list have their needed parts (SCOPE 14.62).
unfoldable pub all_lengths : Sizes → List ℤ → List ℤ → Work → Bool
unfolding lengths_right_of equations
all_lengths z row_store relation_store w =
    lengths_right_of (equations z) row_store relation_store
    && lengths_right_of (equations z) w.rows w.relations
    && leb matrix_need (length w.matrix)
    && leb list_need (length w.list)

-- Sizes (2), lengths (1), numbers (5), right sides (14) (SCOPE 14.62).
unfoldable pub check_call : Sizes → ℕ → List ℤ → List ℤ → Work → ℕ
unfolding sizes_right_of count_right all_lengths numbers_right_of homogeneous rows_of relations_of equations
check_call z count row_store relation_store w =
    let sides : ℕ = cond (homogeneous (rows_of (equations z) row_store) (relations_of count relation_store)) 0 14 in
    let numbers : ℕ = cond (numbers_right_of z count row_store relation_store) sides 5 in
    let lengths : ℕ = cond (all_lengths z row_store relation_store w) numbers 1 in
    cond (sizes_right_of z && count_right count) lengths 2

-- A refusal, or "no" with 0.
abbrev pub unlisted : Bool → ℕ → Result
unlisted begun n = record { refusal = n; begun = begun; found = false; last = 0; count = 0 }

unfoldable pub result_of : Answer → Result
result_of (refused_with n) = unlisted true n
result_of none_listed = unlisted true 0
result_of (listed N l) = record { refusal = 0; begun = true; found = true; last = N; count = length l }

unfoldable pub list_in : Answer → List ℤ
unfolding list_store_of zeros
list_in (refused_with n) = zeros list_need
list_in none_listed = zeros list_need
list_in (listed N l) = list_store_of l

-- From the trailing run on the work stores end as zeros; numbers past the needed parts stay (SCOPE 14.63, 3.12).
unfoldable pub work_after : Sizes → Answer → Work → Work
unfolding overwrite zeros row_need equations list_in
work_after z a w =
    record {
      rows = overwrite (zeros (row_need (equations z))) w.rows;
      relations = overwrite (zeros relation_need) w.relations;
      matrix = overwrite (zeros matrix_need) w.matrix;
      list = overwrite (list_in a) w.list;
    }

-- A refusal of the checks leaves every store as it was (SCOPE 14.62).
unfoldable pub after_check : Sizes → ℕ → List ℤ → List ℤ → Work → ℕ → Call
unfolding result_of work_after answer rows_of relations_of equations
after_check z count row_store relation_store w zero =
    let a = answer z (rows_of (equations z) row_store) (relations_of count relation_store) in
    record { result = result_of a; work = work_after z a w }
after_check z count row_store relation_store w (suc n) = record { result = unlisted false (suc n); work = w }

-- The system's stores are only read (SCOPE 14.61).
unfoldable pub solutions_call : Sizes → ℕ → List ℤ → List ℤ → Work → Call
unfolding after_check check_call
solutions_call z count row_store relation_store w =
    after_check z count row_store relation_store w (check_call z count row_store relation_store w)
