-- `back_substitution::substitute_all` meets its contract. The loop's invariant: v is the vector behind the settled rows from i on, and
-- it is within ±C.
-- Assumes nothing.
use mathlib.Core.Path.{◌≡◌, refl, sym, ◌∙◌, ap, ap₂}
use mathlib.Core.Logic.{◌≢◌}
use mathlib.Core.List.{List, ◌∷◌}
use Prim.Native.Nat.{ℕ, ◌+◌, ◌*◌, ◌-◌, ◌<◌, ◌≤◌}
use native.Mathlib.Omega.{arith}
use borrow.Author.Rules.{rules}
use lib.Dec.{T}
use lib.IntN.{ℤ, pos}
use lib.ListN.{length, get_or, take, drop}
use Rattle.lists.specs.Tests.{every, true-T}
use Rattle.rules.specs.Limits.{small}
use Rattle.echelon.specs.Eliminated.{Pivot}
use Rattle.back_substitution.specs.Listed as Listed
use Rattle.echelon.specs.MatrixTurns.{pivots_in}
use Rattle.constant_rows.specs.ListLengths.{list_columns}
use Rattle.back_substitution.specs.BackSubstitution.{pivot_at, pivot-at, back, back-unmet, back-next, unit-small}
use Rattle.back_substitution.specs.BackSubstitution.{back-solves, row-ready, filled-all, filled-not}
use Rattle.back_substitution.proofs.substitute_all.Goals as goal
use Rattle.back_substitution.proofs.substitute_all.Goals.{After-substituted, In-loop-i, Start}

-- settled row i - 1
module _ (c : In-loop-i) where
  abbrev start : Start
  start = (goal.at.In-loop-i c).Start

  abbrev matrix : List ℤ
  matrix = start.args.matrix.now

  abbrev columns : List ℕ
  columns = start.args.columns.now

  abbrev n : ℕ
  n = start.args.n

  abbrev f : ℕ
  f = start.args.f

  abbrev ps : List Pivot
  ps = pivots_in n columns matrix

  abbrev v : List ℤ
  v = c.loop-i.v

  abbrev i : ℕ
  i = c.loop-i.i - 1

  abbrev row : List ℤ
  row = take n (drop (i * list_columns) matrix)

  next : i + 1 ≡ c.loop-i.i
  next = omega arith

  inside : i < length columns
  inside = omega arith

  long : i * list_columns + list_columns ≤ length matrix
  long = omega arith

  lent : take (i * list_columns + n - i * list_columns) (drop (i * list_columns) matrix) ≡ row
  lent =
      let size : i * list_columns + n - i * list_columns ≡ n = omega arith in
      ap (λ k. take k (drop (i * list_columns) matrix)) size

  pivot : drop i ps ≡ pivot_at row (get_or columns i 0) ∷ drop (i + 1) ps
  pivot = pivot-at n columns matrix i start.requires.n_le_list_columns.0 inside

  ready : (length row ≡ n) × (get_or columns i 0 < n) × T (every small row) × (get_or row (get_or columns i 0) (pos 0) ≢ pos 0)
  ready = row-ready n ps f start.requires.n_le_list_columns.1 start.requires.free_column i row (get_or columns i 0) pivot

  v-is : v ≡ back n ps f (i + 1)
  v-is = c.loop-i.invariant.2 ∙ ap (back n ps f) (sym next)

  v-length : length v ≡ n
  v-length = ap length v-is ∙ (back-solves n ps f start.requires.n_le_list_columns.1 start.requires.free_column (i + 1)).size

-- the vector behind that row, and its test
module _ (c : After-substituted) where
  abbrev at : In-loop-i
  at = (goal.at.After-substituted c).In-loop-i

  abbrev new : List ℤ
  new = c.substituted.new.v

  new_is : new ≡ back (n at) (ps at) (f at) (i at)
  new_is =
      c.substituted.ensures.v_after
      ∙ ap₂ (λ r w. Listed.substitute (pivot_at r (get_or (columns at) (i at) 0)) w) (lent at) (v-is at)
      ∙ sym (back-next (n at) (ps at) (f at) (i at) (pivot_at (row at) (get_or (columns at) (i at) 0)) (pivot at))

pub rows_meeting-met-requires : goal.rows_meeting-met-requires
rows_meeting-met-requires c = (c.requires.n_le_list_columns.3, omega (arith, c.requires.n_le_list_columns.0, c.requires.n_le_list_columns.1))

pub loop-i-init : goal.loop-i-init
loop-i-init c =
    let unmet =
    back-unmet c.args.n c.args.f c.args.columns.now c.args.matrix.now _ c.requires.n_le_list_columns.0 c.requires.n_le_list_columns.1 c.requires.free_column c.rows_meeting-met.ensures in
    (c.rows_meeting-met.ensures.few, refl, c.requires.n_le_list_columns.2 ∙ sym unmet, rw c.requires.n_le_list_columns.2 (unit-small c.args.n c.args.f))

pub overflow_mul-from : goal.overflow_mul-from
overflow_mul-from c = omega (arith, long c)

pub overflow_add-to : goal.overflow_add-to
overflow_add-to c = omega (arith, long c, (start c).requires.n_le_list_columns.0)

pub offset_bounds-matrix-from : goal.offset_bounds-matrix-from
offset_bounds-matrix-from c = omega (arith, long c, (start c).requires.n_le_list_columns.0)

pub slice_bounds-substituted-count : goal.slice_bounds-substituted-count
slice_bounds-substituted-count c = omega (arith, long c, (start c).requires.n_le_list_columns.0)

pub slice_bounds-substituted-start : goal.slice_bounds-substituted-start
slice_bounds-substituted-start c = omega (arith, long c, (start c).requires.n_le_list_columns.0)

pub slice_bounds-substituted-end : goal.slice_bounds-substituted-end
slice_bounds-substituted-end c = omega (arith, long c, (start c).requires.n_le_list_columns.0)

pub substituted-requires : goal.substituted-requires
substituted-requires c =
    let at = (goal.at.substituted-requires c).In-loop-i in
    let r = ready at in
    let small-v = at.loop-i.invariant.3 in
    rw (lent at)
    record {
      row_len = (r.0 ∙ sym (v-length at), omega (arith, r.0, (start at).requires.n_le_list_columns.0), omega (arith, r.0, r.1));
      t = (r.2, small-v, r.3);
    }

pub returns-then-not-substituted : goal.returns-then-not-substituted
returns-then-not-substituted c =
    let e = (goal.at.returns-then-not-substituted c).After-substituted in
    let at = at e in
    let s = start at in
    filled-not (n at) (ps at) (f at) s.requires.n_le_list_columns.1 s.requires.free_column (i at) (new e) (new_is e)
    (sym e.substituted.ensures.value ∙ c.if-not-substituted.true)

pub loop-i-preserved : goal.loop-i-preserved
loop-i-preserved c =
    let e = (goal.at.loop-i-preserved c).After-substituted in
    let at = at e in
    (omega arith, search rules, new_is e, true-T (every small (new e)) (sym e.substituted.ensures.value ∙ c.if-not-substituted.false))

pub returns : goal.returns
returns c =
    let P = pivots_in c.args.n c.args.columns.now c.args.matrix.now in
    let at = c.loop-i in
    filled-all c.args.n P c.args.f c.requires.n_le_list_columns.1 c.requires.free_column at.i at.v (omega arith) at.invariant.2 at.invariant.3
