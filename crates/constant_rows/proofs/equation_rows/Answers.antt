-- `constant_rows::equation_rows` meets its contract. The invariant: the rows of the first i equations are made and stand in their places.
-- Assumes nothing.
use mathlib.Core.Path.{◌≡◌, refl, sym, ◌∙◌, ap, subst}
use mathlib.Core.List.{List}
use Prim.Native.Nat.{ℕ, ◌+◌, ◌*◌, ◌-◌, ◌≤◌, ◌<◌, zero-le}
use native.Mathlib.Nat.{le_of_eq}
use native.Mathlib.Omega.{arith}
use borrow.Rule.Slice.PartMut.{put_mid, same_len_mid}
use lib.IntN.{ℤ}
use lib.ListN.{length, take, drop, get_or}
use lib.Seq.{take_all}
use mir.Syntax.{w64}
use mir.Facts.{to_z-of_z}
use Rattle.lists.specs.Parts.{parts}
use Rattle.rules.specs.Layout.{size-bounds}
use Rattle.rules.specs.Limits.{row_length}
use Rattle.rules.specs.Rows.{Relation, no_row}
use Rattle.rules.specs.Stores.{rows_of, row_need}
use Rattle.rules.specs.Stores as Stores
use Rattle.stores.specs.Validity.{the_sizes_of}
use Rattle.constant_rows.specs.Constants.{fine, each, the_columns_of}
use Rattle.constant_rows.specs.ListLengths.{list_columns}
use Rattle.constant_rows.specs.Matrices.{matrix_rows, Reports}
use Rattle.constant_rows.specs.RowLimits.{Limits, row-limits}
use Rattle.constant_rows.specs.ConstantStores.{row_at, at_index, equation-at, length-at_index, right-row, small-numbers}
use Rattle.constant_rows.specs.ConstantStores.{filled_next, filled-stop, part_length, told-made, told-passed, made-reports}
use Rattle.constant_rows.specs.ConstantStores.{refused-reports}
use Rattle.refusals.specs.Refusals.{number_of, refusal_in}
use Rattle.constant_rows.proofs.equation_rows.Goals as goal
use Rattle.constant_rows.proofs.equation_rows.Goals.{After-constant_row, In-loop-i, Start}

module _ (s : Start) where
  abbrev z : Stores.Sizes
  z = the_sizes_of s.args.sizes

  abbrev e : ℕ
  e = s.args.sizes.equations

  abbrev n : ℤ
  n = s.args.n

  abbrev N : ℕ
  N = s.args.last

  abbrev width : ℕ
  width = the_columns_of s.args.sizes.m N

  abbrev rows : List ℤ
  rows = s.args.rows.now

  abbrev asks : List Relation
  asks = at_index n (rows_of e rows)

  few : e ≤ 6
  unfolding the_sizes_of Stores.equations
  few = (size-bounds z s.requires.t.0).few-equations

  limits : (x : Relation) → Limits (row_at z N x)
  unfolding row_at
  limits x = row-limits z.m z.l N x.row x.index

pub loop-i-init : goal.loop-i-init
unfolding each matrix_rows parts
loop-i-init c = (c.requires.n_bound.2, zero-le, refl)

-- A turn: equation i.
module _ (d : In-loop-i) where
  abbrev st : Start
  st = (goal.at.In-loop-i d).Start

  abbrev i : ℕ
  i = d.loop-i.i

  abbrev part : List ℤ
  part = d.loop-i.part

  abbrev numbers : List ℤ
  numbers = take row_length (drop (i * row_length) (rows (goal.at.Start st).Start))

  below : i < e (goal.at.Start st).Start
  below = d.loop-i-test.true

  before-i : each (row_at (z (goal.at.Start st).Start) (N (goal.at.Start st).Start)) (take i (asks st)) ≡ fine (matrix_rows (width (goal.at.Start st).Start) i part)
  before-i = simp (to_z-of_z {w = w64} st.ranges.n) at d.loop-i.invariant.2

  room : i * list_columns + list_columns ≤ length part
  room = omega (arith, below, d.loop-i.invariant.0)

  row_room : i * row_length + row_length ≤ length (rows (goal.at.Start st).Start)
  unfolding row_need
  row_room = omega (arith, below, st.requires.t.1)

  here : i < length (asks (goal.at.Start st).Start)
  here = subst (λ k. i < k) (sym (length-at_index (n (goal.at.Start st).Start) (e (goal.at.Start st).Start) (rows (goal.at.Start st).Start))) below

pub overflow_mul-at : goal.overflow_mul-at
overflow_mul-at c = omega (arith, below c, few (st c))

pub overflow_add-end : goal.overflow_add-end
overflow_add-end c = omega (arith, below c, few (st c))

pub overflow_mul-i : goal.overflow_mul-i
overflow_mul-i c = omega (arith, below c, few (st c))

pub row_at-row-requires : goal.row_at-row-requires
row_at-row-requires c = row_room c

pub offset_bounds-part-at : goal.offset_bounds-part-at
offset_bounds-part-at c = omega (arith, below (goal.at.offset_bounds-part-at c).In-loop-i, few (st (goal.at.offset_bounds-part-at c).In-loop-i))

pub slice_bounds-constant_row-end : goal.slice_bounds-constant_row-end
slice_bounds-constant_row-end c = room (goal.at.slice_bounds-constant_row-end c).In-loop-i

pub constant_row-requires : goal.constant_row-requires
constant_row-requires c =
    let d = (goal.at.constant_row-requires c).In-loop-i in
    let s = st d in
    let right = right-row (z (goal.at.Start s).Start) (e (goal.at.Start s).Start) (rows (goal.at.Start s).Start) (i d) (below d) s.requires.t.2 in
    simp (to_z-of_z {w = w64} s.ranges.n) record {
      t = (s.requires.t.0, rw c.row_at-row.ensures.result_value right);
      t_2 = (rw c.row_at-row.ensures.result_value (small-numbers (z (goal.at.Start s).Start) (numbers d) (rw c.row_at-row.ensures.result_value at c.row_at-row.ensures.result_len) right), c.row_at-row.ensures.result_len, s.requires.n_bound.0);
      last_le_largest_index = (s.requires.n_bound.1, part_length (i d * list_columns) list_columns (part d) (room d));
    }

-- What was made of the row.
module _ (a : After-constant_row) where
  abbrev dd : In-loop-i
  dd = (goal.at.After-constant_row a).In-loop-i

  abbrev q : List ℤ
  q = a.constant_row.new.place

  abbrev at : ℕ
  at = i dd * list_columns

  abbrev asked : Relation
  asked = get_or (asks (st dd)) (i dd) (record { index = n (st dd); row = no_row })

  q-long : length q ≡ length (take (at + list_columns - at) (drop at (part dd)))
  q-long = a.constant_row.auto.place

  row-long : length q ≡ list_columns
  row-long = q-long ∙ part_length at list_columns (part dd) (room dd)

  all-long : length (put_mid at (at + list_columns - at) (part dd) q) ≡ e (st dd) * list_columns
  all-long = same_len_mid at (at + list_columns - at) (part dd) q q-long ∙ dd.loop-i.invariant.0

  reported : Reports (λ v. take (width (st dd)) q ≡ v) (row_at (z (st dd)) (N (st dd)) asked) (refusal_in a.constant_row.result)
  unfolding row_at the_sizes_of
  reported =
      subst (λ x. Reports (λ v. take (width (st dd)) q ≡ v) (row_at (z (st dd)) (N (st dd)) x) (refusal_in a.constant_row.result))
      (sym (equation-at (n (st dd)) (e (st dd)) (rows (st dd)) (i dd) (below dd)))
      (simp (to_z-of_z {w = w64} (st dd).ranges.n, a.row_at-row.ensures.result_value) at a.constant_row.ensures)

pub shape_of-part-in_err-constant_row : goal.shape_of-part-in_err-constant_row
shape_of-part-in_err-constant_row c = let a = (goal.at.shape_of-part-in_err-constant_row c).After-constant_row in all-long a ∙ sym (st (dd a)).requires.n_bound.2

pub returns-in_err-constant_row : goal.returns-in_err-constant_row
returns-in_err-constant_row c =
    let a = (goal.at.returns-in_err-constant_row c).After-constant_row in
    let s = st (dd a) in
    refused-reports _ (each (row_at (z s) (N s)) (asks s)) _ c.in_err-constant_row.field-0.0 c.from_residual.ensures.1
    (filled-stop (row_at (z s) (N s)) (width s) (asks s) (record { index = n s; row = no_row }) (i (dd a)) (number_of c.in_err-constant_row.field-0.0) _
    (here (dd a)) (before-i (dd a)) (told-passed _ _ _ c.in_err-constant_row.field-0.0 (reported a) c.in_err-constant_row.was))

pub loop-i-preserved : goal.loop-i-preserved
loop-i-preserved c =
    let a = (goal.at.loop-i-preserved c).After-constant_row in
    let d = dd a in
    let s = st d in
    let (v, made, same) = told-made _ _ _ tt (limits (goal.at.Start s).Start (asked a)) (reported a) c.in_ok-constant_row.was in
    simp (to_z-of_z {w = w64} s.ranges.n) (
      all-long a,
      omega (arith, below d),
      filled_next (row_at (z (goal.at.Start s).Start) (N (goal.at.Start s).Start)) (width (goal.at.Start s).Start) (asks (goal.at.Start s).Start) (record { index = n (goal.at.Start s).Start; row = no_row }) (i d) (at a + list_columns - at a) (part d) (q a)
          (here d) (omega (arith, room d)) (row-long a) (before-i d) (made ∙ ap fine (sym same)),
    )

pub shape_of-part : goal.shape_of-part
shape_of-part c = c.loop-i.invariant.0 ∙ sym c.requires.n_bound.2

pub returns : goal.returns
returns c =
    let s = (goal.at.returns c).Start in
    let all : c.loop-i.i ≡ e (goal.at.Start s).Start = omega (arith, c.loop-i.invariant.1) in
    let made = simp (to_z-of_z {w = w64} s.ranges.n) at c.loop-i.invariant.2 in
    made-reports _ (each (row_at (z (goal.at.Start s).Start) (N (goal.at.Start s).Start)) (asks (goal.at.Start s).Start)) (matrix_rows (width (goal.at.Start s).Start) (e (goal.at.Start s).Start) c.loop-i.part)
    (ap (each (row_at (z (goal.at.Start s).Start) (N (goal.at.Start s).Start))) (sym (take_all (e (goal.at.Start s).Start) (asks (goal.at.Start s).Start) (le_of_eq (length-at_index (n (goal.at.Start s).Start) (e (goal.at.Start s).Start) (rows (goal.at.Start s).Start)))))
    ∙ subst (λ k. each (row_at (z (goal.at.Start s).Start) (N (goal.at.Start s).Start)) (take k (asks (goal.at.Start s).Start)) ≡ fine (matrix_rows (width (goal.at.Start s).Start) k c.loop-i.part)) all made) refl
