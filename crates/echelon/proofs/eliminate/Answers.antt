-- `echelon::eliminate` meets its contract. The loop's invariant: behind i rows the elimination stands where its definition
-- stands behind them, and the rows from row i on are as they were given.
-- Assumes nothing.
use mathlib.Core.Path.{◌≡◌, refl, sym, ◌∙◌, ap}
use mathlib.Core.List.{List}
use Prim.Native.Nat.{ℕ}
use native.Mathlib.Omega.{arith}
use borrow.Author.Rules.{rules}
use lib.IntN.{ℤ}
use lib.ListN.{length, take}
use lib.Seq.{length-take-le}
use Rattle.constant_rows.specs.Constants.{fine, passed}
use Rattle.echelon.specs.Eliminated.{reduce_all_of}
use Rattle.echelon.specs.Eliminated as Elimination
use Rattle.echelon.specs.MatrixTurns.{pivots_in, row_at, turn-first, turn_inside, turn-row, turn-room, turn-next, turn_last}
use Rattle.echelon.specs.MatrixTurns.{turn-passed, settled-count}
use Rattle.std.proofs.Common.{Ok, Err}
use Rattle.refusals.specs.declared.Refusal.{Refusal}
use Rattle.refusals.specs.Refusals.{number_of}
use Rattle.constant_rows.specs.Matrices.{judged_with}
use Rattle.constant_rows.specs.ConstantStores.{told-of, told-refused}
use Rattle.echelon.proofs.eliminate.Goals as goal
use Rattle.echelon.proofs.eliminate.Goals.{After-reduced_row, At-loop-i, In-loop-i, Start}

-- the turn
module _ (c : At-loop-i) where
  abbrev start : Start
  start = (goal.at.At-loop-i c).Start

  abbrev n : ℕ
  n = start.args.n

  abbrev matrix : List ℤ
  matrix = c.loop-i.matrix

  abbrev columns : List ℕ
  columns = c.loop-i.columns

  abbrev w : ℕ
  w = c.loop-i.settled

  abbrev i : ℕ
  i = c.loop-i.i

  few : length (take w columns) ≡ w
  few = length-take-le w columns (omega (arith, c.loop-i.invariant.0.few, c.loop-i.invariant.0.full, start.requires.0))

-- the row that is reduced
module _ (c : After-reduced_row) where
  abbrev inside : In-loop-i
  inside = (goal.at.After-reduced_row c).In-loop-i

  abbrev at : At-loop-i
  at = (goal.at.In-loop-i inside).At-loop-i

  abbrev numbers : List ℤ
  numbers = c.reduced_row.new.numbers

  abbrev row : List ℤ
  row = take (n at) numbers

  row-long : length row ≡ n at
  row-long = length-take-le (n at) numbers (omega (arith, c.reduced_row.ensures.numbers_len, (start at).requires.0))

  abbrev all : List Elimination.Pivot
  all = pivots_in (n at) (take (w at) (columns at)) (matrix at)

  fine-row : {u : Unit {0}} → c.reduced_row.result ≡ Ok u → reduce_all_of all (row_at (n at) (i at) (matrix at)) ≡ fine row
  fine-row e = c.reduced_row.ensures.matrix_value ∙ ap (λ t. judged_with t row) e

  passed-row : {r : Refusal} → c.reduced_row.result ≡ Err r → reduce_all_of all (row_at (n at) (i at) (matrix at)) ≡ passed (number_of r)
  passed-row e = c.reduced_row.ensures.matrix_value ∙ ap (λ t. judged_with t row) e

pub loop-i-init : goal.loop-i-init
loop-i-init c = (turn-first c.requires _ refl, search rules)

pub slice_bounds-columns-end : goal.slice_bounds-columns-end
slice_bounds-columns-end c =
    let at = (goal.at.slice_bounds-columns-end c).At-loop-i in omega (arith, at.loop-i.invariant.0.few, at.loop-i.invariant.0.full, (start at).requires.0)

pub slice_bounds-reduced_row-end : goal.slice_bounds-reduced_row-end
slice_bounds-reduced_row-end c = sym (few (goal.at.slice_bounds-reduced_row-end c).At-loop-i)

pub slice_bounds-reduced_row-end-in-loop-i : goal.slice_bounds-reduced_row-end-in-loop-i
slice_bounds-reduced_row-end-in-loop-i c = sym c.loop-i.invariant.1

pub reduced_row-requires : goal.reduced_row-requires
reduced_row-requires c =
    let at = (goal.at.reduced_row-requires c).At-loop-i in
    let t = at.loop-i.invariant.0 in
    let taken = c.loop-i-test.true in
    let places = turn_inside (start at).requires t taken in record {
      n_le_list_columns = ((start at).requires.0, places.0, turn-row (start at).requires t taken);
      list_columns_in_bounds = (omega (arith, few at, places.1), t.sound, at.loop-i.invariant.1);
    }

pub shape_of-matrix-in_err-reduced_row : goal.shape_of-matrix-in_err-reduced_row
shape_of-matrix-in_err-reduced_row c = (at (goal.at.shape_of-matrix-in_err-reduced_row c).After-reduced_row).loop-i.invariant.0.kept.same_length

pub returns-in_err-reduced_row : goal.returns-in_err-reduced_row
returns-in_err-reduced_row c =
    let e = (goal.at.returns-in_err-reduced_row c).After-reduced_row in
    let t = (at e).loop-i.invariant.0 in
    let r = c.in_err-reduced_row.field-0.0 in
    let failed : e.reduced_row.result ≡ Err r = c.in_err-reduced_row.was in record {
      reports = told-refused _ _ _ r c.from_residual.ensures.1 (turn-passed (start (at e)).requires t (inside e).loop-i-test.true (passed-row e failed));
      kept = t.kept;
    }

pub slice_bounds-numbers-end : goal.slice_bounds-numbers-end
slice_bounds-numbers-end c =
    let e = (goal.at.slice_bounds-numbers-end c).After-reduced_row in omega (arith, e.reduced_row.ensures.numbers_len, (start (at e)).requires.0)

pub slice_bounds-settle-end : goal.slice_bounds-settle-end
slice_bounds-settle-end c = sym (row-long (goal.at.slice_bounds-settle-end c).After-reduced_row)

pub slice_bounds-settle-end-in-loop-i : goal.slice_bounds-settle-end-in-loop-i
slice_bounds-settle-end-in-loop-i c = let e = (goal.at.slice_bounds-settle-end-in-loop-i c).After-reduced_row in sym (at e).loop-i.invariant.0.full

pub settle-settled-requires : goal.settle-settled-requires
settle-settled-requires c =
    let e = (goal.at.settle-settled-requires c).After-reduced_row in
    let pre = (start (at e)).requires in
    let t = (at e).loop-i.invariant.0 in
    let taken = (inside e).loop-i-test.true in
    let held : e.reduced_row.result ≡ Ok c.in_ok-reduced_row.field-0 = c.in_ok-reduced_row.was in record {
      row_len_bound = (omega (arith, row-long e, pre.0), (turn_inside pre t taken).1);
      columns_len = (t.full, turn-room pre t taken (row e) (fine-row e held));
    }

pub loop-i-preserved : goal.loop-i-preserved
loop-i-preserved c =
    let e = (goal.at.loop-i-preserved c).After-reduced_row in
    let held : e.reduced_row.result ≡ Ok c.in_ok-reduced_row.field-0 = c.in_ok-reduced_row.was in (
      rw (c.settle-settled.ensures.matrix_after, c.settle-settled.ensures.value.0, c.settle-settled.ensures.value.1)
          (turn-next (start (at e)).requires (at e).loop-i.invariant.0 (inside e).loop-i-test.true (row e) (fine-row e held)),
      e.reduced_row.ensures.numbers_len,
    )

pub shape_of-matrix : goal.shape_of-matrix
shape_of-matrix c = c.loop-i.invariant.0.kept.same_length

pub returns : goal.returns
returns c =
    let pre = (start (goal.at.returns c).At-loop-i).requires in
    let t = c.loop-i.invariant.0 in record {
      reports = told-of _ _ _ _ (turn_last pre t c.loop-i-test.false) (sym (settled-count pre t), t.few, t.full, refl);
      kept = t.kept;
    }
