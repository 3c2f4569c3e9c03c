-- `constant_rows::indexed_rows` meets its contract. The invariant: the rows of the equations at the first k integers are made and stand in
-- their places. Assumes nothing.
use mathlib.Core.Path.{◌≡◌, refl, sym, ◌∙◌, ap, subst}
use mathlib.Core.List.{List, [], flatten}
use Prim.Native.Nat.{ℕ, suc, ◌+◌, ◌*◌, ◌-◌, ◌≤◌, ◌<◌, zero-le}
use native.Mathlib.Nat.{le_of_eq, mul_assoc, mul-le-mul, mul-le-mul_right, suc-mul, zero-mul}
use native.Mathlib.Numerals.{add-one}
use native.Mathlib.Omega.{arith}
use borrow.Rule.Slice.PartMut.{put_mid, same_len_mid}
use lib.Dec.{lit<}
use lib.IntN.{ℤ, pos, neg_ℤ, nat_abs, ◌-ℤ◌}
use lib.ListN.{length, take, drop, get_or}
use lib.Seq.{take_all}
use mir.Syntax.{w64}
use mir.Val.{SFits, to_z}
use mir.Facts.{to_z-of_z, to_z_pos}
use Rattle.algebra.specs.Integers.{nat_abs-+ℤ, nat_abs-neg_ℤ}
use Rattle.integers.specs.Ranges.{sfits-size}
use Rattle.lists.specs.Parts.{parts}
use Rattle.rules.specs.Layout.{SizeBounds, size-bounds}
use Rattle.rules.specs.Rows.{Relation}
use Rattle.rules.specs.Stores.{rows_of}
use Rattle.rules.specs.Stores as Stores
use Rattle.stores.specs.Validity.{the_sizes_of}
use Rattle.constant_rows.specs.Constants.{fine, each, the_columns_of}
use Rattle.constant_rows.specs.ListLengths.{list_columns}
use Rattle.constant_rows.specs.Matrices.{matrix_rows, Reports}
use Rattle.constant_rows.specs.RowLimits.{Limits, row-limits, each-limits}
use Rattle.constant_rows.specs.ConstantStores.{row_at, groups, length-groups, group_at, group-next, group-stop}
use Rattle.constant_rows.specs.ConstantStores.{part_length, l-near, span-few, told-made, told-passed, made-reports}
use Rattle.constant_rows.specs.ConstantStores.{refused-reports}
use Rattle.refusals.specs.Refusals.{number_of, refusal_in}
use Rattle.constant_rows.proofs.indexed_rows.Goals as goal
use Rattle.constant_rows.proofs.indexed_rows.Goals.{After-equation_rows, After-struct_told-1, In-loop-k, Start}

module _ (s : Start) where
  abbrev z : Stores.Sizes
  z = the_sizes_of s.args.sizes

  abbrev e : ℕ
  e = s.args.sizes.equations

  abbrev l : ℤ
  l = s.args.sizes.l

  abbrev N : ℕ
  N = s.args.last

  abbrev columns : ℕ
  columns = the_columns_of s.args.sizes.m N

  abbrev rows : List ℤ
  rows = s.args.rows.now

  abbrev gs : List (List Relation)
  gs = groups z N (rows_of e rows)

  bounds : SizeBounds z
  bounds = size-bounds z s.requires.t.0

  few : e ≤ 6
  unfolding the_sizes_of Stores.equations
  few = bounds.few-equations

  few-indices : N + Stores.span z ≤ 19
  few-indices = omega (arith, s.requires.last_le_largest_index.0, span-few z bounds)

  l-small : nat_abs l ≤ 64
  unfolding the_sizes_of
  l-small = l-near z bounds

  l-fits : SFits w64 l
  l-fits = sfits-size l l-small (lit< tt)

  limits : (x : Relation) → Limits (row_at z N x)
  unfolding row_at
  limits x = row-limits z.m z.l N x.row x.index

pub overflow_add-indices : goal.overflow_add-indices
overflow_add-indices c = omega (arith, few-indices (goal.at.overflow_add-indices c).Start, c.span.ensures)

pub overflow_add-indices-2 : goal.overflow_add-indices-2
overflow_add-indices-2 c = omega (arith, few-indices (goal.at.overflow_add-indices-2 c).Start, c.span.ensures)

pub overflow_mul-width : goal.overflow_mul-width
overflow_mul-width c = omega (arith, few (goal.at.overflow_mul-width c).Start)

-- The integers n at which the equations are asked for.
module _ (t : After-struct_told-1) where
  abbrev s0 : Start
  s0 = (goal.at.After-struct_told-1 t).Start

  abbrev indices : ℕ
  indices = N (goal.at.Start s0).Start + t.span.result + 1

  indices-are : indices ≡ suc (N (goal.at.Start s0).Start + Stores.span (z (goal.at.Start s0).Start))
  indices-are = ap (λ d. N (goal.at.Start s0).Start + d + 1) t.span.ensures ∙ add-one (N (goal.at.Start s0).Start + Stores.span (z (goal.at.Start s0).Start))

  few-turns : indices ≤ 20
  few-turns = omega (arith, indices-are, few-indices (goal.at.Start s0).Start)

  long : length s0.args.part.now ≡ indices * (e (goal.at.Start s0).Start * list_columns)
  long = s0.requires.last_le_largest_index.1 ∙ mul_assoc _ (e (goal.at.Start s0).Start) list_columns ∙ ap (λ k. k * (e (goal.at.Start s0).Start * list_columns)) (sym indices-are)

pub loop-k-init : goal.loop-k-init
unfolding each matrix_rows parts flatten
loop-k-init c =
    let s = s0 c in
    (long c, zero-le, ap (λ j. fine (matrix_rows (columns (goal.at.Start s).Start) j s.args.part.now)) (sym (zero-mul (e (goal.at.Start s).Start))))

-- A turn: the equations at k - l.
module _ (d : In-loop-k) where
  abbrev t : After-struct_told-1
  t = (goal.at.In-loop-k d).After-struct_told-1

  abbrev st : Start
  st = s0 t

  abbrev k : ℕ
  k = d.loop-k.k

  abbrev part : List ℤ
  part = d.loop-k.part

  abbrev width : ℕ
  width = e (goal.at.Start st).Start * list_columns

  below : k < indices t
  below = d.loop-k-test.true

  abbrev n : ℤ
  n = pos k -ℤ l (goal.at.Start st).Start

  k-is : to_z w64 k ≡ pos k
  k-is = to_z_pos w64 (omega (arith, below, few-turns t))

  n-small : nat_abs n ≤ 100
  n-small = omega (arith, nat_abs-+ℤ (pos k) (neg_ℤ (l (goal.at.Start st).Start)), nat_abs-neg_ℤ (l (goal.at.Start st).Start), l-small (goal.at.Start st).Start, below, few-turns t)

  n-fits : SFits w64 n
  n-fits = sfits-size n n-small (lit< tt)

  inside : k * width + width ≤ indices t * width
  inside = subst (λ j. j ≤ indices t * width) (suc-mul k width) (mul-le-mul_right width below)

  room : k * width + width ≤ length part
  room = omega (arith, inside, d.loop-k.invariant.0)

  few-numbers : indices t * width ≤ 20 * 384
  few-numbers = let narrow : width ≤ 384 = omega (arith, few (goal.at.Start st).Start) in mul-le-mul (few-turns t) narrow

  here : k < length (gs (goal.at.Start st).Start)
  here = subst (λ j. k < j) (indices-are t ∙ sym (length-groups (z (goal.at.Start st).Start) (N (goal.at.Start st).Start) (rows_of (e (goal.at.Start st).Start) (rows (goal.at.Start st).Start)))) below

pub overflow_mul-at : goal.overflow_mul-at
overflow_mul-at c = omega (arith, inside c, few-numbers c)

pub overflow_add-end : goal.overflow_add-end
overflow_add-end c = omega (arith, inside c, few-numbers c)

pub offset_bounds-part-at : goal.offset_bounds-part-at
offset_bounds-part-at c = omega (arith, inside c, few-numbers c)

pub slice_bounds-equation_rows-end : goal.slice_bounds-equation_rows-end
slice_bounds-equation_rows-end c = room c

pub overflow_cast-k : goal.overflow_cast-k
overflow_cast-k c = let d = (goal.at.overflow_cast-k c).In-loop-k in sfits-size (pos (k d)) {k = 100} (omega (arith, below d, few-turns (t d))) (lit< tt)

pub overflow_sub-k : goal.overflow_sub-k
overflow_sub-k c = let d = (goal.at.overflow_sub-k c).In-loop-k in simp (k-is d, to_z-of_z {w = w64} (l-fits (st d))) (n-fits d)

pub equation_rows-requires : goal.equation_rows-requires
equation_rows-requires c =
    let d = (goal.at.equation_rows-requires c).In-loop-k in
    let s = st d in
    simp (k-is d, to_z-of_z {w = w64} (l-fits (goal.at.Start s).Start), to_z-of_z {w = w64} (n-fits d)) record {
      t = s.requires.t;
      n_bound = (omega (arith, n-small d), s.requires.last_le_largest_index.0, part_length (k d * width d) (width d) (part d) (room d));
    }

-- What was made of them.
module _ (a : After-equation_rows) where
  abbrev dd : In-loop-k
  dd = (goal.at.After-equation_rows a).In-loop-k

  abbrev q : List ℤ
  q = a.equation_rows.new.part

  abbrev at : ℕ
  at = k dd * width dd

  q-long : length q ≡ length (take (at + width dd - at) (drop at (part dd)))
  q-long = a.equation_rows.auto.part

  group-long : length q ≡ width dd
  group-long = q-long ∙ part_length at (width dd) (part dd) (room dd)

  all-long : length (put_mid at (at + width dd - at) (part dd) q) ≡ indices (t dd) * width dd
  all-long = same_len_mid at (at + width dd - at) (part dd) q q-long ∙ dd.loop-k.invariant.0

  abbrev asked : List Relation
  asked = get_or (gs (st dd)) (k dd) []

  reported : Reports (λ v. matrix_rows (columns (st dd)) (e (st dd)) q ≡ v) (each (row_at (z (st dd)) (N (st dd))) asked) (refusal_in a.equation_rows.result)
  unfolding the_sizes_of
  reported =
      subst (λ x. Reports (λ v. matrix_rows (columns (st dd)) (e (st dd)) q ≡ v) (each (row_at (z (st dd)) (N (st dd))) x) (refusal_in a.equation_rows.result))
      (sym (group_at (z (st dd)) (N (st dd)) (rows_of (e (st dd)) (rows (st dd))) (k dd) (subst (λ j. k dd < j) (indices-are (t dd)) (below dd))))
      (simp (k-is dd, to_z-of_z {w = w64} (l-fits (st dd)), to_z-of_z {w = w64} (n-fits dd)) at a.equation_rows.ensures)

  limited : Limits (each (row_at (z (st dd)) (N (st dd))) asked)
  limited = each-limits (row_at (z (st dd)) (N (st dd))) (limits (st dd)) asked

pub shape_of-part-in_err-equation_rows : goal.shape_of-part-in_err-equation_rows
shape_of-part-in_err-equation_rows c = let a = (goal.at.shape_of-part-in_err-equation_rows c).After-equation_rows in all-long a ∙ sym (long (t (dd a)))

pub returns-in_err-equation_rows : goal.returns-in_err-equation_rows
unfolding groups
returns-in_err-equation_rows c =
    let a = (goal.at.returns-in_err-equation_rows c).After-equation_rows in
    let d = dd a in
    let s = st d in
    refused-reports _ (each (row_at (z (goal.at.Start s).Start) (N (goal.at.Start s).Start)) (flatten (gs (goal.at.Start s).Start))) _ c.in_err-equation_rows.field-0.0 c.from_residual.ensures.1
    (group-stop (row_at (z (goal.at.Start s).Start) (N (goal.at.Start s).Start)) (columns (goal.at.Start s).Start) (gs (goal.at.Start s).Start) (k d) (number_of c.in_err-equation_rows.field-0.0) _
    (here d) d.loop-k.invariant.2 (told-passed _ _ _ c.in_err-equation_rows.field-0.0 (reported a) c.in_err-equation_rows.was))

pub loop-k-preserved : goal.loop-k-preserved
loop-k-preserved c =
    let a = (goal.at.loop-k-preserved c).After-equation_rows in
    let d = dd a in
    let s = st d in
    let (v, made, same) = told-made _ _ _ tt (limited a) (reported a) c.in_ok-equation_rows.was in (
      all-long a,
      omega (arith, below d),
      group-next (row_at (z (goal.at.Start s).Start) (N (goal.at.Start s).Start)) (columns (goal.at.Start s).Start) (gs (goal.at.Start s).Start) (k d) (e (goal.at.Start s).Start) (at a + width d - at a) (part d) (q a)
          (here d) (omega (arith, room d)) (group-long a) d.loop-k.invariant.2 (made ∙ ap fine (sym same)),
    )

pub shape_of-part : goal.shape_of-part
shape_of-part c = c.loop-k.invariant.0 ∙ sym (long (goal.at.shape_of-part c).After-struct_told-1)

pub returns : goal.returns
unfolding groups
returns c =
    let s = s0 (goal.at.returns c).After-struct_told-1 in
    let all : c.loop-k.k ≡ indices (goal.at.returns c).After-struct_told-1 = omega (arith, c.loop-k.invariant.1) in
    let whole = all ∙ indices-are (goal.at.returns c).After-struct_told-1 in
    made-reports _ (each (row_at (z s) (N s)) (flatten (gs s))) _
    (ap (λ g. each (row_at (z s) (N s)) (flatten g))
    (sym (take_all (suc (N s + Stores.span (z s))) (gs s) (le_of_eq (length-groups (z s) (N s) (rows_of (e s) (rows s))))))
    ∙ subst (λ j. each (row_at (z s) (N s)) (flatten (take j (gs s))) ≡ fine (matrix_rows (columns s) (j * e s) c.loop-k.part)) whole
    c.loop-k.invariant.2) refl
