-- `echelon::reduced_row` meets its contract. The row is copied to the front of an array and reduced there.
-- Assumes nothing.
use mathlib.Core.Path.{◌≡◌, refl, sym, ◌∙◌, ap}
use mathlib.Core.List.{List}
use Prim.Native.Nat.{ℕ, ◌+◌, ◌*◌, ◌-◌}
use native.Mathlib.Omega.{arith}
use lib.IntN.{ℤ}
use lib.ListN.{length, take, drop, length-drop, length-append}
use lib.Seq.{paste, length-take-le, take_at}
use Rattle.lists.specs.Pasted.{paste-first}
use Rattle.echelon.specs.MatrixTurns.{row_at}
use Rattle.constant_rows.specs.ListLengths.{list_columns}
use Rattle.constant_rows.specs.Matrices.{judged_with}
use Rattle.echelon.proofs.reduced_row.Goals as goal
use Rattle.echelon.proofs.reduced_row.Goals.{After-save, Start}

front : (d s r : List ℤ) (n : ℕ) → length s ≡ n → r ≡ paste d 0 s (length s) → take n r ≡ s
front d s r n long e = ap (take n) (e ∙ paste-first d s (length s) refl) ∙ take_at s (drop (length s) d) n long

-- the row that is copied
module _ (c : After-save) where
  abbrev start : Start
  start = (goal.at.After-save c).Start

  abbrev n : ℕ
  n = start.args.n

  abbrev matrix : List ℤ
  matrix = start.args.matrix.now

  abbrev row : List ℤ
  row = row_at n start.args.i matrix

  abbrev copied : List ℤ
  copied = c.save.new.store

  row-long : length row ≡ n
  row-long =
      length-take-le n (drop (start.args.i * list_columns) matrix) (rw length-drop (omega (arith, start.requires.n_le_list_columns.0, start.requires.n_le_list_columns.1)))

  part : take (start.args.i * list_columns + n - start.args.i * list_columns) (drop (start.args.i * list_columns) matrix) ≡ row
  part =
      let width : start.args.i * list_columns + n - start.args.i * list_columns ≡ n = omega arith in
      ap (λ m. take m (drop (start.args.i * list_columns) matrix)) width

  loaded : take n copied ≡ row
  loaded = front _ _ copied n (ap length part ∙ row-long) c.save.ensures ∙ part

  copied-long : length copied ≡ list_columns
  copied-long = c.save.auto.store ∙ start.requires.list_columns_in_bounds.2

pub slice_bounds-reduce_all-end-2 : goal.slice_bounds-reduce_all-end-2
slice_bounds-reduce_all-end-2 c = let e = (goal.at.slice_bounds-reduce_all-end-2 c).After-save in sym (ap length (loaded e) ∙ row-long e)

pub reduce_all-requires : goal.reduce_all-requires
reduce_all-requires c =
    let e = (goal.at.reduce_all-requires c).After-save in
    let s = start e in
    rw (loaded e, row-long e) record {
      row_len_bound = (s.requires.n_le_list_columns.0, s.requires.list_columns_in_bounds.0);
      t = (s.requires.n_le_list_columns.2, s.requires.list_columns_in_bounds.1);
    }

pub returns : goal.returns
returns c =
    let e = (goal.at.returns c).After-save in
    let made = c.reduce_all in
    let long : length made.new.row ≡ n e = made.auto.row ∙ ap length (loaded e) ∙ row-long e in record {
      matrix_value = rw (loaded e, row-long e) at made.ensures ∙ ap (judged_with made.result) (sym (take_at made.new.row (drop (n e) (copied e)) (n e) long));
      numbers_len = omega (arith, length-append made.new.row (drop (n e) (copied e)), length-drop (n e) (copied e), copied-long e, (start e).requires.n_le_list_columns.0, long);
    }
