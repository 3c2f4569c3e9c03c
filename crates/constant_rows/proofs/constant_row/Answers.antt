-- `constant_rows::constant_row` meets its contract. The invariant: the entries of the first j columns are made and stand in their places,
-- behind them there are zeros; column j is that of the index and the unknown that are counted along.
-- Assumes nothing.
use mathlib.Core.Path.{◌≡◌, refl, sym, ◌∙◌, ap, subst}
use mathlib.Core.List.{List, [], ◌∷◌, ◌++◌}
use Prim.Native.Nat.{ℕ, suc, ◌+◌, ◌*◌, ◌-◌, ◌≤◌, ◌<◌}
use native.Mathlib.Nat.{le_refl, zero-add, suc-mul, mul-le-mul, mul-le-mul_right}
use native.Mathlib.Numerals.{add-one}
use native.Mathlib.Omega.{arith}
use borrow.Author.Rules.{rules}
use lib.Dec.{T, lit<}
use lib.IntN.{ℤ, pos, nat_abs, ◌+ℤ◌}
use lib.ListN.{length, take, drop, get_or, set, replicate, length-set}
use lib.Seq.{take-suc-set, get_or-set_other, paste}
use mir.Syntax.{w64}
use mir.Val.{SFits}
use mir.Facts.{to_z-of_z}
use Rattle.algebra.specs.Integers.{nat_abs-+ℤ}
use Rattle.algebra.specs.Sums.{count_from}
use Rattle.integers.specs.Ranges.{sfits-size}
use Rattle.lists.specs.Tests.{every, T-&&}
use Rattle.rules.specs.Layout.{SizeBounds, size-bounds}
use Rattle.rules.specs.Limits.{column_count, block_bound}
use Rattle.rules.specs.Rows.{Row, zero_block}
use Rattle.rules.specs.Stores.{row_of, row_right_of, unused_zero_of}
use Rattle.rules.specs.Stores as Stores
use Rattle.stores.specs.Validity.{the_sizes_of}
use Rattle.constant_rows.specs.Constants.{Judged, fine, each, entry_at, column_polynomial, the_columns_of, constant_row_of}
use Rattle.constant_rows.specs.RowCounts.{columns-bound}
use Rattle.constant_rows.specs.ListLengths.{list_columns}
use Rattle.constant_rows.specs.ConstantStores.{judged_of, each_both, each-stops, each_none, each-one, made-reports}
use Rattle.constant_rows.specs.ConstantStores.{refused-reports, all-columns, next-column, column-polynomial, l-near, t-near}
use Rattle.constant_rows.specs.ConstantStores.{Clamped, unmet-before, unmet-behind, zeros-made, cleared_at}
use Rattle.std.proofs.Common.{Ok, Err}
use Rattle.constant_rows.proofs.constant_row.Goals as goal
use Rattle.constant_rows.proofs.constant_row.Goals.{After-clamped, After-clear, After-column_entry, In_ok-place, In-loop-j, Start, then-unknown-m, else-unknown-m}

module _ (s : Start) where
  abbrev z : Stores.Sizes
  z = the_sizes_of s.args.sizes

  abbrev m : ℕ
  m = s.args.sizes.m

  abbrev l : ℤ
  l = s.args.sizes.l

  abbrev t : ℤ
  t = s.args.sizes.t

  abbrev n : ℤ
  n = s.args.n

  abbrev r : Row
  r = row_of s.args.row.now

  abbrev last : ℕ
  last = s.args.last

  abbrev f : ℕ → Judged ℤ
  f k = entry_at n (column_polynomial m l r n k)

  abbrev columns : ℕ
  columns = the_columns_of m last

  bounds : SizeBounds z
  bounds = size-bounds z s.requires.t.0

  some : 1 ≤ m
  unfolding the_sizes_of
  some = bounds.some

  few-unknowns : m ≤ column_count
  unfolding the_sizes_of
  few-unknowns = bounds.few

  columns-are : (last + 1) * m ≡ columns
  unfolding the_columns_of
  columns-are = ap (λ k. k * m) (add-one last)

  few : columns ≤ list_columns
  few = columns-bound m last few-unknowns s.requires.last_le_largest_index.0

  l-small : nat_abs l ≤ block_bound
  unfolding the_sizes_of
  l-small = l-near z bounds

  t-small : nat_abs t ≤ block_bound
  unfolding the_sizes_of
  t-small = t-near z bounds

  l-fits : SFits w64 l
  l-fits = sfits-size l l-small (lit< tt)

  t-fits : SFits w64 t
  t-fits = sfits-size t t-small (lit< tt)

  first_fits : SFits w64 (n +ℤ t)
  first_fits = sfits-size (n +ℤ t) {k = 300000000} (omega (arith, nat_abs-+ℤ n t, s.requires.t_2.2, t-small)) (lit< tt)

  top-fits : SFits w64 (n +ℤ l)
  top-fits = sfits-size (n +ℤ l) {k = 300000000} (omega (arith, nat_abs-+ℤ n l, s.requires.t_2.2, l-small)) (lit< tt)

  end_fits : SFits w64 ((n +ℤ l) +ℤ pos 1)
  end_fits =
      sfits-size ((n +ℤ l) +ℤ pos 1) {k = 400000000}
      (omega (arith, nat_abs-+ℤ (n +ℤ l) (pos 1), nat_abs-+ℤ n l, s.requires.t_2.2, l-small)) (lit< tt)

  unused : T (every zero_block (drop (suc (Stores.span z)) r.blocks))
  unfolding row_right_of unused_zero_of
  unused = let parts = simp T-&& at s.requires.t.1 in parts.1.1

pub overflow_mul-last : goal.overflow_mul-last
overflow_mul-last c = let s = (goal.at.overflow_mul-last c).Start in omega (arith, few (goal.at.Start s).Start, columns-are (goal.at.Start s).Start)

pub clear-requires : goal.clear-requires
clear-requires c = let s = (goal.at.clear-requires c).Start in omega (arith, few (goal.at.Start s).Start, columns-are (goal.at.Start s).Start, s.requires.last_le_largest_index.1)

pub overflow_add-n : goal.overflow_add-n
overflow_add-n c =
    let s = (goal.at.overflow_add-n c).Start in simp (to_z-of_z {w = w64} s.ranges.n, to_z-of_z {w = w64} (t-fits (goal.at.Start s).Start)) (first_fits (goal.at.Start s).Start)

pub clamped-first-requires : goal.clamped-first-requires
clamped-first-requires c = c.requires.last_le_largest_index.0

pub overflow_add-n-2 : goal.overflow_add-n-2
overflow_add-n-2 c =
    let s = (goal.at.overflow_add-n-2 c).Start in
    simp (to_z-of_z {w = w64} s.ranges.n, to_z-of_z {w = w64} (l-fits (goal.at.Start s).Start)) (top-fits (goal.at.Start s).Start)

pub overflow_add-n-3 : goal.overflow_add-n-3
overflow_add-n-3 c =
    let s = (goal.at.overflow_add-n-3 c).Start in
    simp (to_z-of_z {w = w64} s.ranges.n, to_z-of_z {w = w64} (l-fits (goal.at.Start s).Start), to_z-of_z {w = w64} (top-fits (goal.at.Start s).Start)) (end_fits (goal.at.Start s).Start)

pub clamped-requires : goal.clamped-requires
clamped-requires c = c.requires.last_le_largest_index.0

-- The cleared place, and the columns that the equation meets.
module _ (c : After-clamped) where
  abbrev cleared : After-clear
  cleared = (goal.at.After-clamped c).After-clear

  abbrev begun : Start
  begun = (goal.at.After-clear cleared).Start

  abbrev empty : List ℤ
  empty = cleared.clear.new.store

  abbrev first : ℕ
  first = c.clamped-first.result

  abbrev past : ℕ
  past = c.clamped.result

  first-is : Clamped (n (goal.at.Start begun).Start +ℤ t (goal.at.Start begun).Start) (last (goal.at.Start begun).Start) first
  first-is = let s = begun in
      simp (to_z-of_z {w = w64} s.ranges.n, to_z-of_z {w = w64} (t-fits s), to_z-of_z {w = w64} (first_fits s)) at c.clamped-first.ensures

  past_is : Clamped ((n (goal.at.Start begun).Start +ℤ l (goal.at.Start begun).Start) +ℤ pos 1) (last (goal.at.Start begun).Start) past
  past_is = let s = begun in
      simp (to_z-of_z {w = w64} s.ranges.n, to_z-of_z {w = w64} (l-fits s), to_z-of_z {w = w64} (top-fits s), to_z-of_z {w = w64} (end_fits s)) at c.clamped.ensures

  inside-first : first * m (goal.at.Start begun).Start ≤ columns (goal.at.Start begun).Start
  unfolding the_columns_of
  inside-first = mul-le-mul_right {m = first} (m (goal.at.Start begun).Start) first-is.few

  inside_past : past * m (goal.at.Start begun).Start ≤ columns (goal.at.Start begun).Start
  unfolding the_columns_of
  inside_past = mul-le-mul_right {m = past} (m (goal.at.Start begun).Start) past_is.few

  empty-is : empty ≡ paste begun.args.place.now 0 (replicate (columns (goal.at.Start begun).Start) (pos 0)) (columns (goal.at.Start begun).Start)
  empty-is =
      cleared.clear.ensures
      ∙ ap (λ k. paste begun.args.place.now 0 (replicate k (pos 0)) k) (columns-are (goal.at.Start begun).Start)

  empty-long : length empty ≡ list_columns
  empty-long = cleared.clear.auto.store ∙ begun.requires.last_le_largest_index.1

  empty-at : (k : ℕ) → k < columns (goal.at.Start begun).Start → get_or empty k (pos 0) ≡ pos 0
  empty-at k h = ap (λ p. get_or p k (pos 0)) empty-is ∙ cleared_at begun.args.place.now (columns (goal.at.Start begun).Start) k h

  none_before : (k : ℕ) → k < first * m (goal.at.Start begun).Start → f (goal.at.Start begun).Start k ≡ fine (pos 0)
  unfolding the_sizes_of
  none_before k h = let s = begun in unmet-before (z s) (r s) (n s) (last s) s.requires.t.0 first k (unused s) first-is h

  none-behind : (k : ℕ) → past * m (goal.at.Start begun).Start ≤ k → k < columns (goal.at.Start begun).Start → f (goal.at.Start begun).Start k ≡ fine (pos 0)
  unfolding the_sizes_of the_columns_of
  none-behind k h below = let s = begun in unmet-behind (z s) (r s) (n s) (last s) s.requires.t.0 past k past_is h below

  begun-made : each (f (goal.at.Start begun).Start) (count_from 0 (first * m (goal.at.Start begun).Start)) ≡ fine (take (first * m (goal.at.Start begun).Start) empty)
  unfolding each count_from
  begun-made =
      subst (λ k. each (f (goal.at.Start begun).Start) (count_from 0 k) ≡ fine (take k empty)) (zero-add (first * m (goal.at.Start begun).Start))
      (zeros-made (f (goal.at.Start begun).Start) empty 0 (first * m (goal.at.Start begun).Start) (omega (arith, inside-first, few (goal.at.Start begun).Start, empty-long))
      (λ k _ h. let below : k < first * m (goal.at.Start begun).Start = subst (λ w. k < w) (zero-add (first * m (goal.at.Start begun).Start)) h in
      (none_before k below, empty-at k (omega (arith, below, inside-first)))) refl)

pub overflow_mul-end : goal.overflow_mul-end
overflow_mul-end c = omega (arith, inside_past c, few (begun c))

pub loop-j-init : goal.loop-j-init
loop-j-init c =
    let s = begun c in
    simp (to_z-of_z {w = w64} s.ranges.n)
    (empty-long c, inside-first c, begun-made c, omega arith, some (goal.at.Start s).Start, λ k _ h. empty-at c k h)

-- A turn: column j.
module _ (d : In-loop-j) where
  abbrev st : Start
  st = begun (goal.at.In-loop-j d).After-clamped

  abbrev j : ℕ
  j = d.loop-j.j

  abbrev place : List ℤ
  place = d.loop-j.place

  before-j : each (f (goal.at.Start st).Start) (count_from 0 j) ≡ fine (take j place)
  before-j = simp (to_z-of_z {w = w64} st.ranges.n) at d.loop-j.invariant.2

  in_row : j < columns (goal.at.Start st).Start
  in_row = omega (arith, inside_past (goal.at.In-loop-j d).After-clamped, d.loop-j-test.true)

  inside : j < list_columns
  inside = omega (arith, few (goal.at.Start st).Start, in_row)

  abbrev index : ℕ
  index = d.loop-j.index

  abbrev unknown : ℕ
  unknown = d.loop-j.unknown

  counted : j ≡ index * m (goal.at.Start st).Start + unknown
  counted = d.loop-j.invariant.3

  below : unknown < m (goal.at.Start st).Start
  below = d.loop-j.invariant.4

  index-inside : index < list_columns
  index-inside = let grown : index * 1 ≤ index * m (goal.at.Start st).Start = mul-le-mul (le_refl index) (some (goal.at.Start st).Start) in omega (arith, grown, counted, inside)

pub column_entry-requires : goal.column_entry-requires
column_entry-requires c =
    let s = st c in
    simp (to_z-of_z {w = w64} s.ranges.n) record {
      t = (s.requires.t.0, s.requires.t.1);
      t_2 = (s.requires.t_2.0, s.requires.t_2.1, s.requires.t_2.2);
      index_lt_list_columns = (index-inside c, omega (arith, below c, few-unknowns (goal.at.Start s).Start));
    }

-- The entry of that column.
entry-is : (e : After-column_entry) → judged_of e.column_entry.result ≡ f (st (goal.at.After-column_entry e).In-loop-j) (j (goal.at.After-column_entry e).In-loop-j)
entry-is e =
    let d = (goal.at.After-column_entry e).In-loop-j in
    let s = st d in
    let r = row_of s.args.row.now in
    (simp (to_z-of_z {w = w64} s.ranges.n) at e.column_entry.ensures)
    ∙ ap (entry_at (n (goal.at.Start s).Start)) (sym (column-polynomial (m (goal.at.Start s).Start) (l (goal.at.Start s).Start) r (n s) (index d) (unknown d) (below d)) ∙ ap (column_polynomial (m (goal.at.Start s).Start) (l (goal.at.Start s).Start) r (n s)) (sym (counted d)))

pub offset_bounds-place-j : goal.offset_bounds-place-j
offset_bounds-place-j c = omega (arith, inside (goal.at.offset_bounds-place-j c).In-loop-j)

pub bounds-place-j : goal.bounds-place-j
bounds-place-j c = let d = (goal.at.bounds-place-j c).In-loop-j in omega (arith, inside d, d.loop-j.invariant.0)

pub returns-in_err-place : goal.returns-in_err-place
unfolding constant_row_of
returns-in_err-place c =
    let e = (goal.at.returns-in_err-place c).After-column_entry in
    let d = (goal.at.After-column_entry e).In-loop-j in
    let s = st d in
    let k = d.loop-j.j in
    let r = c.in_err-place.field-0.0 in
    let told : e.column_entry.result ≡ Err r = c.in_err-place.was in
    let stops = sym (entry-is e) ∙ ap judged_of told in
    refused-reports _ (constant_row_of (m (goal.at.Start s).Start) (l (goal.at.Start s).Start) s.args.last (row_of s.args.row.now) (n (goal.at.Start s).Start)) _ r
    c.from_residual.ensures.1
    (all-columns (f (goal.at.Start s).Start) k (columns (goal.at.Start s).Start) (in_row d)
    ∙ each-stops (f (goal.at.Start s).Start) (count_from 0 k) _ _ _ (before-j d) (each_none (f (goal.at.Start s).Start) k (count_from (suc k) (columns (goal.at.Start s).Start - suc k)) _ stops))

pub overflow_add-unknown : goal.overflow_add-unknown
overflow_add-unknown c =
    let d = (goal.at.overflow_add-unknown c).In-loop-j in omega (arith, below d, few-unknowns (st d))

-- Behind a turn that makes an entry.
module _ (c : In_ok-place) where
  abbrev e : After-column_entry
  e = (goal.at.In_ok-place c).After-column_entry

  abbrev turn : In-loop-j
  turn = (goal.at.After-column_entry e).In-loop-j

  abbrev value : ℤ
  value = c.in_ok-place.field-0

  value-fits : SFits w64 value
  value-fits = search rules

  abbrev placed : List ℤ
  placed = set (place turn) (j turn) value

  more : each (f (st turn)) (count_from 0 (j turn + 1)) ≡ fine (take (j turn + 1) placed)
  more =
      let s = st turn in
      let k = j turn in
      let told : e.column_entry.result ≡ Ok value = c.in_ok-place.was in
      let found : f (goal.at.Start s).Start k ≡ fine value = sym (entry-is e) ∙ ap judged_of told in
      let longer : take (k + 1) placed ≡ take k (place turn) ++ (value ∷ []) =
      ap (λ i. take i placed) (add-one k) ∙ take-suc-set (place turn) k value (omega (arith, inside turn, turn.loop-j.invariant.0)) in
      next-column (f (goal.at.Start s).Start) k ∙ each_both (f (goal.at.Start s).Start) (count_from 0 k) (k ∷ []) _ _ (before-j turn) (each-one (f (goal.at.Start s).Start) k value found) ∙ ap fine (sym longer)

  -- Behind it there are zeros.
  left : (k : ℕ) → j turn + 1 ≤ k → k < columns (st turn) → get_or placed k (pos 0) ≡ pos 0
  left k h below =
      get_or-set_other (place turn) (j turn) k value (pos 0) (λ e. absurd (omega arith)) ∙ turn.loop-j.invariant.5 k (omega arith) below

pub overflow_add-index : goal.overflow_add-index
overflow_add-index c = omega (arith, index-inside (turn (goal.at.overflow_add-index c).In_ok-place))

pub loop-j-preserved : goal.loop-j-preserved
loop-j-preserved c =
    let k = (goal.at.loop-j-preserved c).In_ok-place in
    let d = turn k in
    let s = st d in
    let next : (j d + 1 ≡ c.if-unknown-m.index * m s + c.if-unknown-m.unknown) × (c.if-unknown-m.unknown < m s) =
    elim c.if-unknown-m.branch [
      | then-unknown-m w ↦ rw (w.index-is, w.unknown-is) (omega (arith, counted d, w.if-unknown-m.true, suc-mul (index d) (m s)), some s)
      | else-unknown-m w ↦ rw (w.index-is, w.unknown-is) (omega (arith, counted d), omega (arith, below d, w.if-unknown-m.false))
    ] in
    simp (to_z-of_z {w = w64} s.ranges.n, to_z-of_z {w = w64} (value-fits k)) (
      length-set (place d) (j d) (value k) ∙ d.loop-j.invariant.0,
      omega (arith, in_row d),
      more k,
      next.0,
      next.1,
      left k,
    )

pub shape_of-place : goal.shape_of-place
shape_of-place c = (c.loop-j.invariant.0 ∙ sym (begun (goal.at.shape_of-place c).After-clamped).requires.last_le_largest_index.1)

pub returns : goal.returns
unfolding constant_row_of
returns c =
    let b = (goal.at.returns c).After-clamped in
    let s = begun b in
    let made = simp (to_z-of_z {w = w64} s.ranges.n) at c.loop-j.invariant.2 in
    let whole : c.loop-j.j + (columns (goal.at.Start s).Start - c.loop-j.j) ≡ columns (goal.at.Start s).Start = omega (arith, c.loop-j.invariant.1) in
    made-reports _ (constant_row_of (m (goal.at.Start s).Start) (l (goal.at.Start s).Start) (last (goal.at.Start s).Start) (r (goal.at.Start s).Start) (n (goal.at.Start s).Start)) _
    (subst (λ w. each (f (goal.at.Start s).Start) (count_from 0 w) ≡ fine (take w c.loop-j.place)) whole
    (zeros-made (f (goal.at.Start s).Start) c.loop-j.place c.loop-j.j (columns (goal.at.Start s).Start - c.loop-j.j) (omega (arith, whole, few (goal.at.Start s).Start, c.loop-j.invariant.0))
    (λ k h below. let there : k < columns (goal.at.Start s).Start = subst (λ w. k < w) whole below in
    (none-behind b k (omega (arith, h, c.loop-j-test.false)) there, c.loop-j.invariant.5 k h there)) made)) refl
