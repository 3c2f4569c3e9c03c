-- `constant_rows::constant_rows` meets its contract: the rows of the relations stand behind those of the equations. Assumes nothing.
use mathlib.Core.Path.{◌≡◌, sym, ◌∙◌, ap, ap₂, subst}
use mathlib.Core.List.{List, ◌++◌, flatten}
use Prim.Native.Nat.{ℕ, suc, ◌+◌, ◌*◌, ◌-◌, ◌≤◌, zero-le}
use native.Mathlib.Nat.{le_of_eq, le_trans, le-add_right, mul-le-mul, sub-zero, zero-add}
use native.Mathlib.Numerals.{add-one}
use native.Mathlib.Omega.{arith}
use borrow.Rule.Slice.PartMut.{put_mid, mid_len}
use lib.IntN.{ℤ}
use lib.ListN.{length, take, drop, length-append}
use Rattle.lists.specs.Parts.{parts}
use Rattle.rules.specs.Layout.{SizeBounds, size-bounds, StoresRight, check_stores-zero, lengths_right-iff, NumbersRight, numbers_right-iff, count_right-iff}
use Rattle.rules.specs.Rows.{Relation}
use Rattle.rules.specs.Stores.{rows_of, relations_of}
use Rattle.rules.specs.Stores as Stores
use Rattle.sides.specs.Lent.{Kept}
use Rattle.sides.specs.StoreStates.{kept_then}
use Rattle.stores.specs.Validity.{the_sizes_of}
use Rattle.constant_rows.specs.Constants.{fine, each, the_columns_of, asked, constant_rows_of}
use Rattle.constant_rows.specs.ListLengths.{list_columns, matrix_need}
use Rattle.constant_rows.specs.Matrices.{matrix_rows, Reports}
use Rattle.constant_rows.specs.RowLimits.{Limits, row-limits, each-limits}
use Rattle.constant_rows.specs.ConstantStores.{row_at, at_index, groups, part_length, span-few, matrix-put, length-matrix_rows}
use Rattle.constant_rows.specs.ConstantStores.{kept_put, each-stopped, told-made, told-passed, reports-behind}
use Rattle.constant_rows.specs.ConstantStores.{refused-reports}
use Rattle.refusals.specs.Refusals.{refusal_in}
use Rattle.constant_rows.proofs.constant_rows.Goals as goal
use Rattle.constant_rows.proofs.constant_rows.Goals.{After-indexed_rows, After-relation_rows, After-struct_known-1, In_ok-indexed_rows, Start}

module _ (s : Start) where
  abbrev z : Stores.Sizes
  z = the_sizes_of s.args.sizes

  abbrev e : ℕ
  e = s.args.sizes.equations

  abbrev N : ℕ
  N = s.args.last

  abbrev count : ℕ
  count = s.args.count

  abbrev columns : ℕ
  columns = the_columns_of s.args.sizes.m N

  abbrev rows : List ℤ
  rows = s.args.rows.now

  abbrev relations : List ℤ
  relations = s.args.relations.now

  abbrev matrix : List ℤ
  matrix = s.args.matrix.now

  abbrev equations : List Relation
  equations = flatten (groups z N (rows_of e rows))

  right : StoresRight z count rows relations
  right = (check_stores-zero z count rows relations).0 s.requires.0

  long : (Stores.row_need (Stores.equations z) ≤ length rows) × (Stores.relation_need ≤ length relations)
  long = (lengths_right-iff (Stores.equations z) rows relations).0 right.lengths

  numbers : NumbersRight z count rows relations
  numbers = (numbers_right-iff z count rows relations).0 right.numbers

  few-relations : count ≤ 16
  few-relations = (count_right-iff count).0 right.few

  bounds : SizeBounds z
  bounds = size-bounds z right.sizes

  few : e ≤ 6
  unfolding the_sizes_of Stores.equations
  few = bounds.few-equations

  few-indices : N + Stores.span z ≤ 19
  few-indices = omega (arith, s.requires.1, span-few z bounds)

  limits : (x : Relation) → Limits (row_at z N x)
  unfolding row_at
  limits x = row-limits z.m z.l N x.row x.index

pub span-requires : goal.span-requires
span-requires c = (right (goal.at.span-requires c).Start).sizes

pub overflow_add-equations : goal.overflow_add-equations
overflow_add-equations c = omega (arith, few-indices (goal.at.overflow_add-equations c).Start, c.span.ensures)

pub overflow_add-equations-2 : goal.overflow_add-equations-2
overflow_add-equations-2 c = omega (arith, few-indices (goal.at.overflow_add-equations-2 c).Start, c.span.ensures)

-- How many rows the equations make.
module _ (t : After-struct_known-1) where
  abbrev s0 : Start
  s0 = (goal.at.After-struct_known-1 t).Start

  abbrev E : ℕ
  E = (N (goal.at.Start s0).Start + t.span.result + 1) * e (goal.at.Start s0).Start

  abbrev middle : ℕ
  middle = E * list_columns

  rows_are : E ≡ suc (N (goal.at.Start s0).Start + Stores.span (z (goal.at.Start s0).Start)) * e (goal.at.Start s0).Start
  rows_are = ap (λ k. k * e (goal.at.Start s0).Start) (ap (λ d. N (goal.at.Start s0).Start + d + 1) t.span.ensures ∙ add-one (N (goal.at.Start s0).Start + Stores.span (z (goal.at.Start s0).Start)))

  few-rows : E ≤ 120
  few-rows =
      let turns : suc (N (goal.at.Start s0).Start + Stores.span (z (goal.at.Start s0).Start)) ≤ 20 = omega (arith, few-indices (goal.at.Start s0).Start) in
      subst (λ k. k ≤ 120) (sym rows_are) (mul-le-mul turns (few (goal.at.Start s0).Start))

  inside : middle ≤ length (matrix (goal.at.Start s0).Start)
  inside = omega (arith, few-rows, s0.requires.2)

  needed : middle ≤ matrix_need
  needed = omega (arith, few-rows)

pub overflow_mul-equations : goal.overflow_mul-equations
overflow_mul-equations c = omega (arith, few-rows c)

pub overflow_mul-middle : goal.overflow_mul-middle
overflow_mul-middle c = omega (arith, few-rows c)

pub slice_bounds-indexed_rows-end : goal.slice_bounds-indexed_rows-end
slice_bounds-indexed_rows-end c = inside c

pub indexed_rows-requires : goal.indexed_rows-requires
unfolding the_sizes_of Stores.equations
indexed_rows-requires c =
    let t = (goal.at.indexed_rows-requires c).After-struct_known-1 in
    let s = s0 t in record {
      t = ((right (goal.at.Start s).Start).sizes, (long (goal.at.Start s).Start).0, (numbers (goal.at.Start s).Start).rows_right);
      last_le_largest_index = (s.requires.1, mid_len 0 (middle t) (matrix (goal.at.Start s).Start) (inside t) ∙ sub-zero (middle t) ∙ ap (λ k. k * list_columns) (rows_are t));
    }

-- What the equations made.
module _ (a : After-indexed_rows) where
  abbrev t : After-struct_known-1
  t = (goal.at.After-indexed_rows a).After-struct_known-1

  abbrev st : Start
  st = s0 t

  abbrev q : List ℤ
  q = a.indexed_rows.new.part

  abbrev half : List ℤ
  half = put_mid 0 (middle t - 0) (matrix (goal.at.Start st).Start) q

  q-long : length q ≡ length (take (middle t - 0) (drop 0 (matrix (goal.at.Start st).Start)))
  q-long = a.indexed_rows.auto.part

  half-kept : Kept matrix_need (matrix (goal.at.Start st).Start) half
  half-kept = kept_put matrix_need 0 (middle t) (matrix (goal.at.Start st).Start) q zero-le (needed t) (inside t) q-long

  reported : Reports (λ v. matrix_rows (columns (goal.at.Start st).Start) (E t) q ≡ v) (each (row_at (z (goal.at.Start st).Start) (N (goal.at.Start st).Start)) (equations (goal.at.Start st).Start)) (refusal_in a.indexed_rows.result)
  unfolding groups the_sizes_of
  reported =
      subst (λ k. Reports (λ v. matrix_rows (columns (goal.at.Start st).Start) k q ≡ v) (each (row_at (z (goal.at.Start st).Start) (N (goal.at.Start st).Start)) (equations (goal.at.Start st).Start)) (refusal_in a.indexed_rows.result))
      (sym (rows_are t)) a.indexed_rows.ensures

  half-rows : matrix_rows (columns (goal.at.Start st).Start) (E t) half ≡ matrix_rows (columns (goal.at.Start st).Start) (E t) q
  unfolding matrix_rows parts
  half-rows =
      ap (λ k. matrix_rows (columns (goal.at.Start st).Start) k half) (sym (zero-add (E t)))
      ∙ matrix-put (columns (goal.at.Start st).Start) 0 (E t) (middle t - 0) (matrix (goal.at.Start st).Start) q zero-le
      (le_of_eq (sym (q-long ∙ mid_len 0 (middle t) (matrix (goal.at.Start st).Start) (inside t) ∙ sub-zero (middle t))))

pub shape_of-matrix-in_err-indexed_rows : goal.shape_of-matrix-in_err-indexed_rows
shape_of-matrix-in_err-indexed_rows c = (half-kept (goal.at.shape_of-matrix-in_err-indexed_rows c).After-indexed_rows).same_length

pub returns-in_err-indexed_rows : goal.returns-in_err-indexed_rows
unfolding constant_rows_of asked groups row_at at_index the_sizes_of Stores.equations
returns-in_err-indexed_rows c =
    let a = (goal.at.returns-in_err-indexed_rows c).After-indexed_rows in
    let s = st a in record {
      reports = refused-reports _ (constant_rows_of (z (goal.at.Start s).Start) (N (goal.at.Start s).Start) (rows_of (e (goal.at.Start s).Start) (rows (goal.at.Start s).Start)) (relations_of (count (goal.at.Start s).Start) (relations (goal.at.Start s).Start))) _ c.in_err-indexed_rows.field-0.0 c.from_residual.ensures.1
          (each-stopped (row_at (z (goal.at.Start s).Start) (N (goal.at.Start s).Start)) (equations (goal.at.Start s).Start) (relations_of (count (goal.at.Start s).Start) (relations (goal.at.Start s).Start)) _
          (told-passed _ _ _ c.in_err-indexed_rows.field-0.0 (reported a) c.in_err-indexed_rows.was));
      kept = half-kept a;
    }

-- The rows of the equations stand; those of the relations come behind them.
module _ (d : In_ok-indexed_rows) where
  abbrev first : After-indexed_rows
  first = (goal.at.In_ok-indexed_rows d).After-indexed_rows

  abbrev s2 : Start
  s2 = st first

  abbrev end : ℕ
  end = middle (t first) + count (goal.at.Start s2).Start * list_columns

  end_needed : end ≤ matrix_need
  end_needed = omega (arith, few-rows (t first), few-relations (goal.at.Start s2).Start)

  end-inside : end ≤ length (half first)
  end-inside = omega (arith, end_needed, (half-kept first).same_length, s2.requires.2)

  made : each (row_at (z (goal.at.Start s2).Start) (N (goal.at.Start s2).Start)) (equations (goal.at.Start s2).Start) ≡ fine (matrix_rows (columns (goal.at.Start s2).Start) (E (t first)) (half first))
  made =
      let (v, found, same) = told-made _ _ _ tt (each-limits (row_at (z (goal.at.Start s2).Start) (N (goal.at.Start s2).Start)) (limits (goal.at.Start s2).Start) (equations (goal.at.Start s2).Start)) (reported first) d.in_ok-indexed_rows.was in
      found ∙ ap fine (sym same ∙ sym (half-rows first))

pub overflow_mul-end : goal.overflow_mul-end
overflow_mul-end c = omega (arith, few-relations (s2 c))

pub overflow_add-end : goal.overflow_add-end
overflow_add-end c = omega (arith, end_needed c)

pub offset_bounds-matrix-middle : goal.offset_bounds-matrix-middle
offset_bounds-matrix-middle c = omega (arith, needed (t (first c)))

pub slice_bounds-relation_rows-end : goal.slice_bounds-relation_rows-end
slice_bounds-relation_rows-end c = end-inside c

pub relation_rows-requires : goal.relation_rows-requires
relation_rows-requires c =
    let d = (goal.at.relation_rows-requires c).In_ok-indexed_rows in
    let s = s2 d in record {
      t = ((right (goal.at.Start s).Start).sizes, few-relations (goal.at.Start s).Start, (long (goal.at.Start s).Start).1, (numbers (goal.at.Start s).Start).relations-right);
      last_le_largest_index = (s.requires.1, part_length (middle (t (first d))) (count (goal.at.Start s).Start * list_columns) (half (first d)) (end-inside d));
    }

-- What the relations made.
module _ (b : After-relation_rows) where
  abbrev d2 : In_ok-indexed_rows
  d2 = (goal.at.After-relation_rows b).In_ok-indexed_rows

  abbrev s3 : Start
  s3 = s2 d2

  abbrev p : List ℤ
  p = b.relation_rows.new.part

  abbrev from : ℕ
  from = middle (t (first d2))

  abbrev whole : List ℤ
  whole = put_mid from (end d2 - from) (half (first d2)) p

  p-long : length p ≡ length (take (end d2 - from) (drop from (half (first d2))))
  p-long = b.relation_rows.auto.part

  whole-kept : Kept matrix_need (matrix (goal.at.Start s3).Start) whole
  whole-kept =
      kept_then (half-kept (first d2))
      (kept_put matrix_need from (end d2) (half (first d2)) p (le-add_right from (count (goal.at.Start s3).Start * list_columns)) (end_needed d2) (end-inside d2) p-long)

  behind : matrix_rows (columns (goal.at.Start s3).Start) (E (t (first d2)) + count (goal.at.Start s3).Start) whole
      ≡ matrix_rows (columns (goal.at.Start s3).Start) (E (t (first d2))) (half (first d2)) ++ matrix_rows (columns (goal.at.Start s3).Start) (count (goal.at.Start s3).Start) p
  behind =
      matrix-put (columns (goal.at.Start s3).Start) (E (t (first d2))) (count (goal.at.Start s3).Start) (end d2 - from) (half (first d2)) p
      (le_trans (le-add_right from (count (goal.at.Start s3).Start * list_columns)) (end-inside d2))
      (le_of_eq (sym (p-long ∙ part_length from (count (goal.at.Start s3).Start * list_columns) (half (first d2)) (end-inside d2))))

pub shape_of-matrix : goal.shape_of-matrix
shape_of-matrix c = (whole-kept (goal.at.shape_of-matrix c).After-relation_rows).same_length

pub returns : goal.returns
unfolding constant_rows_of asked groups row_at at_index the_sizes_of Stores.equations
returns c =
    let b = (goal.at.returns c).After-relation_rows in
    let s = s3 b in
    let f = row_at (z (goal.at.Start s).Start) (N (goal.at.Start s).Start) in
    let a = matrix_rows (columns (goal.at.Start s).Start) (E (t (first (d2 b)))) (half (first (d2 b))) in record {
      reports = reports-behind f (λ v. matrix_rows (columns (goal.at.Start s).Start) (count (goal.at.Start s).Start) (p b) ≡ v) (λ v. matrix_rows (columns (goal.at.Start s).Start) (length v) (whole b) ≡ v)
          (equations (goal.at.Start s).Start) (relations_of (count (goal.at.Start s).Start) (relations (goal.at.Start s).Start)) a (refusal_in b.relation_rows.result) (made (d2 b)) b.relation_rows.ensures
          (λ v same. ap (λ k. matrix_rows (columns (goal.at.Start s).Start) k (whole b))
          (length-append a v ∙ ap₂ ◌+◌ (length-matrix_rows (columns (goal.at.Start s).Start) (E (t (first (d2 b)))) (half (first (d2 b))))
          (ap length (sym same) ∙ length-matrix_rows (columns (goal.at.Start s).Start) (count (goal.at.Start s).Start) (p b))) ∙ behind b ∙ ap (λ w. a ++ w) same);
      kept = whole-kept b;
    }
