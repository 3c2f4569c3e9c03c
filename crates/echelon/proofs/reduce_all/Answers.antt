-- `echelon::reduce_all` meets its contract. The loop's invariant: the settled rows from row k on make of the row what all
-- of them make of the row that was given.
-- Assumes nothing.
use mathlib.Core.Path.{◌≡◌, refl, sym, ◌∙◌, ap}
use mathlib.Core.Logic.{◌≢◌}
use mathlib.Core.List.{List, ◌∷◌}
use Prim.Native.Nat.{ℕ, ◌+◌, ◌*◌, ◌-◌, ◌≤◌}
use native.Mathlib.Omega.{arith}
use lib.IntN.{ℤ, pos}
use lib.ListN.{length, get_or, take, drop, drop_of_length-le}
use Rattle.echelon.specs.Eliminated.{Pivot, at, pivot_of, reduce_by_of, reduce_all_of}
use Rattle.echelon.specs.MatrixTurns.{pivots_in, pivot_at, pivots-next, length-pivots}
use Rattle.echelon.specs.RowWork.{reduce-next, reduce-passed}
use Rattle.constant_rows.specs.ListLengths.{list_columns}
use Rattle.std.proofs.Common.{Ok, Err}
use Rattle.constant_rows.specs.Matrices.{judged_with}
use Rattle.constant_rows.specs.ConstantStores.{judged-refused}
use Rattle.echelon.specs.SoundRows.{sound-pivot, reduce_by-small}
use Rattle.echelon.proofs.reduce_all.Goals as goal
use Rattle.echelon.proofs.reduce_all.Goals.{After-reduce_by, In-loop-k, Start}

-- the settled row of this turn
module _ (c : In-loop-k) where
  abbrev start : Start
  start = (goal.at.In-loop-k c).Start

  abbrev matrix : List ℤ
  matrix = start.args.matrix.now

  abbrev columns : List ℕ
  columns = start.args.columns.now

  abbrev n : ℕ
  n = length start.args.row.now

  abbrev k : ℕ
  k = c.loop-k.k

  abbrev row : List ℤ
  row = c.loop-k.row

  abbrev ps : List Pivot
  ps = pivots_in n columns matrix

  abbrev pivot : Pivot
  pivot = pivot_at n k (get_or columns k 0) matrix

  next : drop k ps ≡ pivot ∷ drop (k + 1) ps
  next = pivots-next n columns matrix k start.requires.row_len_bound.0 c.loop-k-test.true

  part : take (k * list_columns + n - k * list_columns) (drop (k * list_columns) matrix) ≡ pivot.numbers
  part =
      let width : k * list_columns + n - k * list_columns ≡ n = omega arith in ap (λ m. take m (drop (k * list_columns) matrix)) width

  inside : k * list_columns + n ≤ length matrix
  inside = omega (arith, start.requires.row_len_bound.0, start.requires.row_len_bound.1, c.loop-k-test.true)

nonzero : (p : Pivot) → pivot_of p ≢ pos 0 → get_or p.numbers p.column (pos 0) ≢ pos 0
unfolding pivot_of at
nonzero p h = h

-- what the settled row makes of the row
module _ (c : After-reduce_by) where
  abbrev turn : In-loop-k
  turn = (goal.at.After-reduce_by c).In-loop-k

  abbrev row' : List ℤ
  row' = c.reduce_by.new.row

  reduced : reduce_by_of (pivot turn) (row turn) ≡ judged_with c.reduce_by.result row'
  reduced =
      ap (λ l. reduce_by_of (record { numbers = l; column = get_or (columns turn) (k turn) 0 }) (row turn)) (sym (part turn))
      ∙ c.reduce_by.ensures

  from-here : reduce_all_of (ps turn) (start turn).args.row.now ≡ reduce_all_of (pivot turn ∷ drop (k turn + 1) (ps turn)) (row turn)
  from-here = turn.loop-k.invariant.3 ∙ ap (λ l. reduce_all_of l (row turn)) (next turn)

pub loop-k-init : goal.loop-k-init
loop-k-init c = (omega arith, refl, c.requires.t.0, refl)

pub overflow_mul-from : goal.overflow_mul-from
overflow_mul-from c = omega (arith, inside c)

pub overflow_add-to : goal.overflow_add-to
overflow_add-to c = omega (arith, inside c)

pub offset_bounds-matrix-from : goal.offset_bounds-matrix-from
offset_bounds-matrix-from c = omega (arith, inside (goal.at.offset_bounds-matrix-from c).In-loop-k)

pub slice_bounds-reduce_by-count : goal.slice_bounds-reduce_by-count
slice_bounds-reduce_by-count c = omega arith

pub slice_bounds-reduce_by-end : goal.slice_bounds-reduce_by-end
slice_bounds-reduce_by-end c = omega (arith, inside (goal.at.slice_bounds-reduce_by-end c).In-loop-k)

pub reduce_by-requires : goal.reduce_by-requires
reduce_by-requires c =
    let e = (goal.at.reduce_by-requires c).In-loop-k in
    let inv = e.loop-k.invariant in
    let known = sound-pivot (n e) (ps e) (start e).requires.t.1 (k e) (pivot e) (drop (k e + 1) (ps e)) (next e) in record {
      row_len = (
        inv.1 ∙ sym (ap length (part e) ∙ known.0),
        inv.2,
        rw (part e) known.2,
      );
      column_in_bounds = (
        omega (arith, known.3, inv.1),
        rw (part e) (nonzero (pivot e) known.1),
      );
    }

pub returns-in_err-reduce_by : goal.returns-in_err-reduce_by
returns-in_err-reduce_by c =
    let e = (goal.at.returns-in_err-reduce_by c).After-reduce_by in
    let r = c.in_err-reduce_by.field-0.0 in
    let failed : e.reduce_by.result ≡ Err r = c.in_err-reduce_by.was in
    from-here e ∙ reduce-passed (pivot (turn e)) (drop (k (turn e) + 1) (ps (turn e))) (row (turn e)) (row' e)
    (reduced e ∙ ap (λ t. judged_with t (row' e)) failed) ∙ sym (judged-refused _ r (row' e) c.from_residual.ensures.1)

pub loop-k-preserved : goal.loop-k-preserved
loop-k-preserved c =
    let e = (goal.at.loop-k-preserved c).After-reduce_by in
    let t = turn e in
    let passed : e.reduce_by.result ≡ Ok c.in_ok-reduce_by.field-0 = c.in_ok-reduce_by.was in
    let made = reduced e ∙ ap (λ u. judged_with u (row' e)) passed in (
      omega arith,
      omega (arith, t.loop-k.invariant.1),
      reduce_by-small (pivot t) (row t) (row' e) t.loop-k.invariant.2 made,
      from-here e ∙ reduce-next (pivot t) (drop (k t + 1) (ps t)) (row t) (row' e) made,
    )

pub returns : goal.returns
unfolding reduce_all_of
returns c =
    let ps = pivots_in (length c.args.row.now) c.args.columns.now c.args.matrix.now in
    c.loop-k.invariant.3
    ∙ ap (λ l. reduce_all_of l c.loop-k.row) (drop_of_length-le ps {i = c.loop-k.k} (rw length-pivots c.loop-k-test.false))
