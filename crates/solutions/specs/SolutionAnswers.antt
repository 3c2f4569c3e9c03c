-- Which sequences solve a system and vanish outside 0 to N: the whole course (SCOPE 14.1, 14.2).
--
-- Main definitions
--   homogeneous             every right side is zero
--   last_root_of D s            the largest integer root of the trailing diagonal polynomials
--   Answer                  refused; no N; or N with the list
--   list_for_of z N             rows, elimination and list for a given N
--   answer z rows relations   all of it, from the right sides on
use Rattle.std.specs.Prelude.{ℕ, Bool, ◌&&◌, cond, eqb, leb, ℤ, pos, negsuc, ◌+ℤ◌}
use mathlib.Core.List.{List, [], map, flatten}
use Rattle.std.proofs.Math.Option.{Option, none, some}
use Rattle.algebra.specs.Polynomials.{is_zero_of}
use Rattle.algebra.specs.Roots.{roots}
use Rattle.lists.specs.Tests.{every}
use Rattle.rules.specs.Rows.{Row, Relation}
use Rattle.rules.specs.Elimination.{leading, trailing, State, Outcome, going, done, refused, rank, whole_run_of, diagonal, furthest}
use Rattle.rules.specs.Elimination.{never_number}
use Rattle.rules.specs.Stores.{Sizes, span}
use Rattle.constant_rows.specs.Constants.{Judged, fine, passed, and_on, the_columns_of, constant_rows_of}
use Rattle.constant_rows.specs.ListLengths.{largest_index}
use Rattle.echelon.specs.Eliminated.{eliminate}
use Rattle.back_substitution.specs.Listed.{sequences}

-- Of equations and relations (SCOPE 14.11).
unfoldable pub homogeneous : List Row → List Relation → Bool
unfolding every is_zero_of
homogeneous rows relations = every (λ r. is_zero_of r.right) rows && every (λ e. is_zero_of e.row.right) relations

-- Not the smallest, which a run reports (SCOPE 14.21).
unfoldable pub last_root_of : ℕ → State → Option ℤ
unfolding furthest flatten diagonal roots
last_root_of D s = furthest leading (flatten (map roots (diagonal trailing D s)))

pub data Answer : Type 0 where
  refused_with : ℕ → Answer
  none_listed : Answer
  listed : ℕ → List (List ℤ) → Answer

unfoldable pub answer_of : ℕ → Judged (List (List ℤ)) → Answer
answer_of N (fine l) = listed N l
answer_of N (passed n) = refused_with n

-- All rows are made before any elimination (SCOPE 14.34).
unfoldable pub list_for_of : Sizes → ℕ → List Row → List Relation → Judged (List (List ℤ))
unfolding and_on constant_rows_of eliminate sequences the_columns_of
list_for_of z N rows relations =
    and_on (constant_rows_of z N rows relations) (λ rs. and_on (eliminate [] rs) (sequences (the_columns_of z.m N)))

-- A negative N: none; an N above 15: 14 (SCOPE 14.22).
unfoldable pub answer_at : Sizes → List Row → List Relation → ℤ → Answer
unfolding answer_of list_for_of
answer_at z rows relations (pos N) =
    let answered = answer_of N (list_for_of z N rows relations) in
    cond (leb N largest_index) answered (refused_with 14)
answer_at z rows relations (negsuc k) = none_listed

-- N is the largest root plus t; where there is no root there is no N (SCOPE 14.21, 14.22).
unfoldable pub answer_for_of : Sizes → List Row → List Relation → Option ℤ → Answer
unfolding answer_at
answer_for_of z rows relations none = none_listed
answer_for_of z rows relations (some r) = answer_at z rows relations (r +ℤ z.t)

-- The trailing run has its own refusals; then its rank is to be m (SCOPE 14.12).
unfoldable pub after_trailing : Sizes → List Row → List Relation → Outcome → Answer
unfolding rank last_root_of span answer_for_of
after_trailing z rows relations (done s) =
    let answered = answer_for_of z rows relations (last_root_of (span z) s) in
    cond (eqb (rank s) z.m) answered (refused_with 14)
after_trailing z rows relations (refused n) = refused_with n
after_trailing z rows relations (going s) = refused_with never_number

unfoldable pub answer : Sizes → List Row → List Relation → Answer
unfolding homogeneous after_trailing whole_run_of span
answer z rows relations =
    let answered = after_trailing z rows relations (whole_run_of trailing (span z) rows relations) in
    cond (homogeneous rows relations) answered (refused_with 14)
