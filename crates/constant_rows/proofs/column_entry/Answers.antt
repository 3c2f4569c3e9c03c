-- `constant_rows::column_entry` meets its contract: outside the blocks of a row there is nothing to evaluate. Assumes nothing.
use mathlib.Core.Path.{◌≡◌, sym, ◌∙◌, ap}
use mathlib.Core.Bool.{false}
use mathlib.Core.List.{[]}
use Prim.Native.Nat.{ℕ, suc, ◌≤◌, ◌<◌, suc-le-suc}
use native.Mathlib.Nat.{le_trans}
use native.Mathlib.Omega.{arith}
use borrow.Author.Rules.{sfits_of}
use lib.Dec.{T, lit<}
use lib.IntN.{ℤ, pos, nat_abs}
use lib.ListN.{drop, get_or}
use lib.Signed.{lt_z}
use mir.Syntax.{w64}
use mir.Val.{SFits, of_z, to_z}
use mir.Facts.{to_z-of_z, Fits-nat_abs}
use Rattle.integers.specs.Ranges.{sfits-size}
use Rattle.rules.specs.Layout.{SizeBounds, size-bounds}
use Rattle.lists.specs.Tests.{every, T-&&}
use Rattle.rules.specs.Rows.{Row, zero_block}
use Rattle.rules.specs.Stores.{row_of, row_right_of, unused_zero_of}
use Rattle.rules.specs.Stores as Stores
use Rattle.stores.specs.Validity.{the_sizes_of}
use Rattle.constant_rows.specs.Constants.{entry_at}
use Rattle.constant_rows.specs.ConstantStores.{block_of, below-zero, from_zero, entry-none, entry_zero, polynomial_there, column-below}
use Rattle.constant_rows.specs.ConstantStores.{column-in, column-past, near, l-near, span-few}
use Rattle.constant_rows.proofs.column_entry.Goals as goal
use Rattle.constant_rows.proofs.column_entry.Goals.{After-block_at-block, Else-block-lt0, Start}

module _ (s : Start) where
  abbrev z : Stores.Sizes
  z = the_sizes_of s.args.sizes

  abbrev l : ℤ
  l = s.args.sizes.l

  abbrev n : ℤ
  n = s.args.n

  abbrev i : ℕ
  i = s.args.index

  abbrev u : ℕ
  u = s.args.unknown

  abbrev r : Row
  r = row_of s.args.row.now

  bounds : SizeBounds z
  bounds = size-bounds z s.requires.t.0

  unused : T (every zero_block (drop (suc (Stores.span z)) r.blocks))
  unfolding row_right_of unused_zero_of
  unused = let parts = simp T-&& at s.requires.t.1 in parts.1.1

  l-small : nat_abs l ≤ 64
  unfolding the_sizes_of
  l-small = l-near z bounds

  l-fits : SFits w64 l
  l-fits = sfits-size l l-small (lit< tt)

-- The block that was found.
module _ (a : After-block_at-block) where
  abbrev st : Start
  st = (goal.at.After-block_at-block a).Start

  abbrev block : ℤ
  block = a.block_at-block.result

  block-is : block ≡ block_of (n (goal.at.Start st).Start) (l (goal.at.Start st).Start) (i (goal.at.Start st).Start)
  block-is = simp (to_z-of_z {w = w64} (l-fits (goal.at.Start st).Start), to_z-of_z {w = w64} st.ranges.n) at a.block_at-block.ensures

  block_back : to_z w64 (of_z w64 block) ≡ block
  block_back = to_z-of_z {w = w64} (sfits_of a.block_at-block.type_inv)

pub block_at-block-requires : goal.block_at-block-requires
block_at-block-requires c =
    let s = (goal.at.block_at-block-requires c).Start in
    simp (to_z-of_z {w = w64} (l-fits (goal.at.Start s).Start), to_z-of_z {w = w64} s.ranges.n) (s.requires.t_2.2, l-small (goal.at.Start s).Start, s.requires.index_lt_list_columns.0)

pub returns-then-block-lt0 : goal.returns-then-block-lt0
returns-then-block-lt0 c =
    let a = (goal.at.returns-then-block-lt0 c).After-block_at-block in
    let s = st a in
    let (k, negative) = below-zero (block a) (rw (block_back a) at c.if-block-lt0.true) in
    sym (ap (entry_at (n (goal.at.Start s).Start)) (column-below (l (goal.at.Start s).Start) (r (goal.at.Start s).Start) (n (goal.at.Start s).Start) (i (goal.at.Start s).Start) (u (goal.at.Start s).Start) k (sym (block-is a) ∙ negative)) ∙ entry-none (n (goal.at.Start s).Start))

-- The block is not negative.
module _ (c : Else-block-lt0) where
  abbrev place : ℕ
  place = nat_abs (block (goal.at.Else-block-lt0 c).After-block_at-block)

  not-below : lt_z (block (goal.at.Else-block-lt0 c).After-block_at-block) (pos 0) ≡ false
  not-below = rw (block_back (goal.at.Else-block-lt0 c).After-block_at-block) at c.if-block-lt0.false

  place_is : block_of (n (st (goal.at.Else-block-lt0 c).After-block_at-block)) (l (st (goal.at.Else-block-lt0 c).After-block_at-block)) (i (st (goal.at.Else-block-lt0 c).After-block_at-block)) ≡ pos place
  place_is = sym (block-is (goal.at.Else-block-lt0 c).After-block_at-block) ∙ (from_zero (block (goal.at.Else-block-lt0 c).After-block_at-block) not-below).1

  polynomial-is : polynomial_there (l (st (goal.at.Else-block-lt0 c).After-block_at-block)) (r (st (goal.at.Else-block-lt0 c).After-block_at-block)) (n (st (goal.at.Else-block-lt0 c).After-block_at-block)) (i (st (goal.at.Else-block-lt0 c).After-block_at-block)) (u (st (goal.at.Else-block-lt0 c).After-block_at-block))
      ≡ get_or (get_or (r (st (goal.at.Else-block-lt0 c).After-block_at-block)).blocks place []) (u (st (goal.at.Else-block-lt0 c).After-block_at-block)) []
  polynomial-is = let s = st (goal.at.Else-block-lt0 c).After-block_at-block in column-in (l s) (r s) (n s) (i s) (u s) place place_is

pub overflow_cast-place : goal.overflow_cast-place
overflow_cast-place c = rw (block_back (goal.at.overflow_cast-place c).After-block_at-block) ((from_zero (block (goal.at.overflow_cast-place c).After-block_at-block) (not-below c)).0, Fits-nat_abs {w = w64} {z = block (goal.at.overflow_cast-place c).After-block_at-block} tt (sfits_of c.block_at-block.type_inv))

pub returns-then-span-place : goal.returns-then-span-place
returns-then-span-place c =
    let d = (goal.at.returns-then-span-place c).Else-block-lt0 in
    let s = st (goal.at.Else-block-lt0 d).After-block_at-block in
    let past : Stores.span (z s) < place d = simp (block_back (goal.at.Else-block-lt0 d).After-block_at-block, c.span.ensures) at c.if-span-place.true in
    sym (entry_zero (n s) _ (column-past (l s) (r s) (n s) (i s) (u s) (Stores.span (z s)) (place d) (unused s) (place_is d) past))

pub block_entry-requires : goal.block_entry-requires
block_entry-requires c =
    let d = (goal.at.block_entry-requires c).Else-block-lt0 in
    let s = st (goal.at.Else-block-lt0 d).After-block_at-block in
    let few : place d ≤ 4 = le_trans (simp (block_back (goal.at.Else-block-lt0 d).After-block_at-block, c.span.ensures) at c.if-span-place.false) (span-few (z s) (bounds s)) in
    simp (to_z-of_z {w = w64} s.ranges.n, block_back (goal.at.Else-block-lt0 d).After-block_at-block) record {
      t = (
        s.requires.t_2.0,
        s.requires.t_2.1,
        omega (arith, near (n s) (l s) (i s) (place d) (place_is d), few, l-small s, s.requires.index_lt_list_columns.0),
      );
      block_lt_block_count = (suc-le-suc few, s.requires.index_lt_list_columns.1);
    }

pub returns : goal.returns
returns c =
    let d = (goal.at.returns c).Else-block-lt0 in
    let s = st (goal.at.Else-block-lt0 d).After-block_at-block in
    (simp (to_z-of_z {w = w64} s.ranges.n, block_back (goal.at.Else-block-lt0 d).After-block_at-block) at c.block_entry.ensures) ∙ ap (entry_at (n s)) (sym (polynomial-is d))
