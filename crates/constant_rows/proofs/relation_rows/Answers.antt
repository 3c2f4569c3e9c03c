-- `constant_rows::relation_rows` meets its contract. The invariant: the rows of the first i relations are made and stand in their places.
-- Assumes nothing.
use mathlib.Core.Path.{◌≡◌, refl, sym, ◌∙◌, ap, subst}
use mathlib.Core.List.{List}
use Prim.Native.Nat.{ℕ, ◌+◌, ◌*◌, ◌-◌, ◌≤◌, ◌<◌, zero-le}
use native.Mathlib.Nat.{le_of_eq}
use native.Mathlib.Omega.{arith}
use borrow.Rule.Slice.PartMut.{put_mid, same_len_mid}
use lib.Dec.{T, lit<, leb→le}
use lib.IntN.{ℤ, pos, nat_abs}
use lib.ListN.{length, take, drop, get_or}
use lib.Seq.{take_all}
use mir.Syntax.{w64}
use mir.Val.{SFits}
use mir.Facts.{to_z-of_z}
use Rattle.integers.specs.Ranges.{sfits-size}
use Rattle.lists.specs.Parts.{parts}
use Rattle.rules.specs.Layout.{length-relations_of}
use Rattle.rules.specs.Limits.{small, bound, row_length, relation_length}
use Rattle.rules.specs.Rows.{Relation, no_row}
use Rattle.rules.specs.Stores.{row_of, row_right_of, relations_of}
use Rattle.rules.specs.Stores as Stores
use Rattle.stores.specs.Validity.{the_sizes_of}
use Rattle.constant_rows.specs.Constants.{fine, each, the_columns_of}
use Rattle.constant_rows.specs.ListLengths.{list_columns}
use Rattle.constant_rows.specs.Matrices.{matrix_rows, Reports}
use Rattle.constant_rows.specs.RowLimits.{Limits, row-limits}
use Rattle.constant_rows.specs.ConstantStores.{row_at, relation-at, right-relation, small-numbers, filled_next, filled-stop}
use Rattle.constant_rows.specs.ConstantStores.{part_length, told-made, told-passed, made-reports, refused-reports}
use Rattle.refusals.specs.Refusals.{number_of, refusal_in}
use Rattle.constant_rows.proofs.relation_rows.Goals as goal
use Rattle.constant_rows.proofs.relation_rows.Goals.{After-constant_row, In-loop-i, Start}

module _ (s : Start) where
  abbrev z : Stores.Sizes
  z = the_sizes_of s.args.sizes

  abbrev e : ℕ
  e = s.args.count

  abbrev N : ℕ
  N = s.args.last

  abbrev width : ℕ
  width = the_columns_of s.args.sizes.m N

  abbrev store : List ℤ
  store = s.args.relations.now

  abbrev asks : List Relation
  asks = relations_of e store

  few : e ≤ 16
  few = s.requires.t.1

  limits : (x : Relation) → Limits (row_at z N x)
  unfolding row_at
  limits x = row-limits z.m z.l N x.row x.index

pub loop-i-init : goal.loop-i-init
unfolding each matrix_rows parts
loop-i-init c = (c.requires.last_le_largest_index.1, zero-le, refl)

-- A turn: equation i.
module _ (d : In-loop-i) where
  abbrev st : Start
  st = (goal.at.In-loop-i d).Start

  abbrev i : ℕ
  i = d.loop-i.i

  abbrev part : List ℤ
  part = d.loop-i.part

  abbrev from : ℕ
  from = i * relation_length

  abbrev numbers : List ℤ
  numbers = take row_length (drop (from + 1) (store (goal.at.Start st).Start))

  abbrev n : ℤ
  n = get_or (store (goal.at.Start st).Start) from (pos 0)

  below : i < e (goal.at.Start st).Start
  below = d.loop-i-test.true

  before-i : each (row_at (z (goal.at.Start st).Start) (N (goal.at.Start st).Start)) (take i (asks st)) ≡ fine (matrix_rows (width (goal.at.Start st).Start) i part)
  before-i = d.loop-i.invariant.2

  room : i * list_columns + list_columns ≤ length part
  room = omega (arith, below, d.loop-i.invariant.0)

  row_room : from + relation_length ≤ length (store (goal.at.Start st).Start)
  row_room = omega (arith, below, few (goal.at.Start st).Start, st.requires.t.2)

  here : i < length (asks (goal.at.Start st).Start)
  here = subst (λ k. i < k) (sym (length-relations_of (e (goal.at.Start st).Start) (store (goal.at.Start st).Start))) below

  right : T (small n) × T (row_right_of (z (goal.at.Start st).Start) (row_of numbers))
  right = right-relation (z (goal.at.Start st).Start) (e (goal.at.Start st).Start) (store (goal.at.Start st).Start) i below st.requires.t.3

  n-small : nat_abs n ≤ bound
  unfolding small
  n-small = leb→le (nat_abs n) bound right.0

  n-fits : SFits w64 n
  n-fits = sfits-size n n-small (lit< tt)

pub overflow_mul-at : goal.overflow_mul-at
overflow_mul-at c = omega (arith, below c, few (st c))

pub overflow_add-end : goal.overflow_add-end
overflow_add-end c = omega (arith, below c, few (st c))

pub overflow_mul-from : goal.overflow_mul-from
overflow_mul-from c = omega (arith, below c, few (st c))

pub overflow_add-from : goal.overflow_add-from
overflow_add-from c = omega (arith, below c, few (st c))

pub row_at-row-requires : goal.row_at-row-requires
row_at-row-requires c = omega (arith, row_room c)

pub offset_bounds-part-at : goal.offset_bounds-part-at
offset_bounds-part-at c = omega (arith, below (goal.at.offset_bounds-part-at c).In-loop-i, few (st (goal.at.offset_bounds-part-at c).In-loop-i))

pub slice_bounds-constant_row-end : goal.slice_bounds-constant_row-end
slice_bounds-constant_row-end c = room (goal.at.slice_bounds-constant_row-end c).In-loop-i

pub offset_bounds-relations-from : goal.offset_bounds-relations-from
offset_bounds-relations-from c = let d = (goal.at.offset_bounds-relations-from c).In-loop-i in omega (arith, below d, few (st d))

pub bounds-relations-from : goal.bounds-relations-from
bounds-relations-from c = omega (arith, row_room (goal.at.bounds-relations-from c).In-loop-i)

pub constant_row-requires : goal.constant_row-requires
constant_row-requires c =
    let d = (goal.at.constant_row-requires c).In-loop-i in
    let s = st d in
    simp (to_z-of_z {w = w64} (n-fits d)) record {
      t = (s.requires.t.0, rw c.row_at-row.ensures.result_value (right d).1);
      t_2 = (rw c.row_at-row.ensures.result_value (small-numbers (z (goal.at.Start s).Start) (numbers d) (rw c.row_at-row.ensures.result_value at c.row_at-row.ensures.result_len) (right d).1), c.row_at-row.ensures.result_len, n-small d);
      last_le_largest_index = (s.requires.last_le_largest_index.0, part_length (i d * list_columns) list_columns (part d) (room d));
    }

-- What was made of the row.
module _ (a : After-constant_row) where
  abbrev dd : In-loop-i
  dd = (goal.at.After-constant_row a).In-loop-i

  abbrev q : List ℤ
  q = a.constant_row.new.place

  abbrev at : ℕ
  at = i dd * list_columns

  abbrev asked : Relation
  asked = get_or (asks (st dd)) (i dd) (record { index = pos 0; row = no_row })

  q-long : length q ≡ length (take (at + list_columns - at) (drop at (part dd)))
  q-long = a.constant_row.auto.place

  row-long : length q ≡ list_columns
  row-long = q-long ∙ part_length at list_columns (part dd) (room dd)

  all-long : length (put_mid at (at + list_columns - at) (part dd) q) ≡ e (st dd) * list_columns
  all-long = same_len_mid at (at + list_columns - at) (part dd) q q-long ∙ dd.loop-i.invariant.0

  reported : Reports (λ v. take (width (st dd)) q ≡ v) (row_at (z (st dd)) (N (st dd)) asked) (refusal_in a.constant_row.result)
  unfolding row_at the_sizes_of
  reported =
      subst (λ x. Reports (λ v. take (width (st dd)) q ≡ v) (row_at (z (st dd)) (N (st dd)) x) (refusal_in a.constant_row.result))
      (sym (relation-at (e (st dd)) (store (st dd)) (i dd) (record { index = pos 0; row = no_row }) (below dd)))
      (simp (to_z-of_z {w = w64} (n-fits dd), a.row_at-row.ensures.result_value) at a.constant_row.ensures)

pub shape_of-part-in_err-constant_row : goal.shape_of-part-in_err-constant_row
shape_of-part-in_err-constant_row c = let a = (goal.at.shape_of-part-in_err-constant_row c).After-constant_row in all-long a ∙ sym (st (dd a)).requires.last_le_largest_index.1

pub returns-in_err-constant_row : goal.returns-in_err-constant_row
returns-in_err-constant_row c =
    let a = (goal.at.returns-in_err-constant_row c).After-constant_row in
    let s = st (dd a) in
    refused-reports _ (each (row_at (z s) (N s)) (asks s)) _ c.in_err-constant_row.field-0.0 c.from_residual.ensures.1
    (filled-stop (row_at (z s) (N s)) (width s) (asks s) (record { index = pos 0; row = no_row }) (i (dd a)) (number_of c.in_err-constant_row.field-0.0) _
    (here (dd a)) (before-i (dd a)) (told-passed _ _ _ c.in_err-constant_row.field-0.0 (reported a) c.in_err-constant_row.was))

pub loop-i-preserved : goal.loop-i-preserved
loop-i-preserved c =
    let a = (goal.at.loop-i-preserved c).After-constant_row in
    let d = dd a in
    let s = st d in
    let (v, made, same) = told-made _ _ _ tt (limits (goal.at.Start s).Start (asked a)) (reported a) c.in_ok-constant_row.was in (
      all-long a,
      omega (arith, below d),
      filled_next (row_at (z (goal.at.Start s).Start) (N (goal.at.Start s).Start)) (width (goal.at.Start s).Start) (asks (goal.at.Start s).Start) (record { index = pos 0; row = no_row }) (i d) (at a + list_columns - at a) (part d) (q a)
          (here d) (omega (arith, room d)) (row-long a) (before-i d) (made ∙ ap fine (sym same)),
    )

pub shape_of-part : goal.shape_of-part
shape_of-part c = c.loop-i.invariant.0 ∙ sym c.requires.last_le_largest_index.1

pub returns : goal.returns
returns c =
    let s = (goal.at.returns c).Start in
    let all : c.loop-i.i ≡ e (goal.at.Start s).Start = omega (arith, c.loop-i.invariant.1) in
    let made = c.loop-i.invariant.2 in
    made-reports _ (each (row_at (z (goal.at.Start s).Start) (N (goal.at.Start s).Start)) (asks (goal.at.Start s).Start)) (matrix_rows (width (goal.at.Start s).Start) (e (goal.at.Start s).Start) c.loop-i.part)
    (ap (each (row_at (z (goal.at.Start s).Start) (N (goal.at.Start s).Start))) (sym (take_all (e (goal.at.Start s).Start) (asks (goal.at.Start s).Start) (le_of_eq (length-relations_of (e (goal.at.Start s).Start) (store (goal.at.Start s).Start)))))
    ∙ subst (λ k. each (row_at (z (goal.at.Start s).Start) (N (goal.at.Start s).Start)) (take k (asks (goal.at.Start s).Start)) ≡ fine (matrix_rows (width (goal.at.Start s).Start) k c.loop-i.part)) all made) refl
