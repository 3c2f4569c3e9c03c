-- `echelon::reduce_by` meets its contract. The factors are at most C, so that the combination's numbers fit an i64 before
-- the division.
-- Assumes nothing.
use mathlib.Core.Path.{◌≡◌, sym, ◌∙◌, ap, ap₂, subst}
use mathlib.Core.List.{List}
use Prim.Native.Nat.{◌^◌, ◌≤◌}
use native.Mathlib.Nat.{le_trans}
use borrow.Author.Rules.{sfits_of}
use lib.Dec.{lit<}
use lib.IntN.{ℤ, pos, nat_abs}
use lib.ListN.{get_or}
use mir.Syntax.{w64}
use mir.Val.{of_z, to_z}
use mir.Facts.{to_z-of_z}
use Rattle.integers.specs.Ranges.{sfits-size}
use Rattle.polynomials.specs.Content.{Below, read_back, small_at, zero_bits, nonzero-bits}
use Rattle.rules.specs.Limits.{bound}
use Rattle.echelon.specs.RowWork.{factors-bound, combined-below, reduce-zero, reduce-nonzero}
use Rattle.std.specs.Prelude.{Bool, true, false}
use Rattle.lists.specs.Tests.{every}
use Rattle.rules.specs.Limits.{small}
use Rattle.echelon.specs.Eliminated.{Factors, the_factors_of, combined, whole, reduce_by_of}
use Rattle.echelon.specs.SoundRows.{judged}
use Rattle.echelon.proofs.reduce_by.Goals as goal
use Rattle.echelon.proofs.reduce_by.Goals.{After-combine, After-factors_of-arg-1, After-factors_of-x, After-struct_told-2-1, Start}

-- the entries at the column, as the code reads them
module _ (c : After-factors_of-arg-1) where
  abbrev start : Start
  start = (goal.at.After-factors_of-arg-1 c).Start

  abbrev row : List ℤ
  row = start.args.row.now

  abbrev pivot : List ℤ
  pivot = start.args.pivot.now

  abbrev a : ℤ
  a = get_or pivot start.args.column (pos 0)

  abbrev b : ℤ
  b = get_or row start.args.column (pos 0)

  a_read : to_z w64 (of_z w64 a) ≡ a
  a_read = read_back a c.factors_of-arg-1.given

  b-read : to_z w64 (of_z w64 b) ≡ b
  b-read = read_back b c.b-1.given

  a_small : nat_abs a ≤ bound
  a_small = small_at pivot start.requires.row_len.2 start.args.column

  b-small : nat_abs b ≤ bound
  b-small = small_at row start.requires.row_len.1 start.args.column

-- the factors
module _ (c : After-struct_told-2-1) where
  abbrev told : After-factors_of-x
  told = (goal.at.After-struct_told-2-1 c).After-factors_of-x

  abbrev read : After-factors_of-arg-1
  read = (goal.at.After-factors_of-x told).After-factors_of-arg-1

  abbrev x : Factors
  x = the_factors_of (a read) (b read)

  g-small : nat_abs x.g ≤ bound
  g-small = le_trans (factors-bound (a read) (b read)).0 (a_small read)

  h-small : nat_abs x.h ≤ bound
  h-small = le_trans (factors-bound (a read) (b read)).1 (b-small read)

  g-read : to_z w64 (of_z w64 told.factors_of-x.result.g) ≡ x.g
  g-read =
      let is = told.factors_of-x.ensures.0 ∙ ap₂ (λ u w. (the_factors_of u w).g) (a_read read) (b-read read) in
      ap (λ z. to_z w64 (of_z w64 z)) is ∙ to_z-of_z {w = w64} (sfits-size x.g g-small (lit< tt))

  h-read : to_z w64 (of_z w64 told.factors_of-x.result.h) ≡ x.h
  h-read =
      let is = told.factors_of-x.ensures.1 ∙ ap₂ (λ u w. (the_factors_of u w).h) (a_read read) (b-read read) in
      ap (λ z. to_z w64 (of_z w64 z)) is ∙ to_z-of_z {w = w64} (sfits-size x.h h-small (lit< tt))

-- the combination
module _ (c : After-combine) where
  abbrev made : After-struct_told-2-1
  made = (goal.at.After-combine c).After-struct_told-2-1

  abbrev rowₛ : List ℤ
  rowₛ = row (read made)

  abbrev pivotₛ : List ℤ
  pivotₛ = pivot (read made)

  combined-is : c.combine.new.row ≡ combined (x made) rowₛ pivotₛ
  combined-is =
      c.combine.ensures ∙ ap₂ (λ g h. combined (record { g = g; h = h }) rowₛ pivotₛ) (g-read made) (h-read made)

pub returns-then-b-eq0 : goal.returns-then-b-eq0
returns-then-b-eq0 c =
    reduce-zero c.args.pivot.now c.args.row.now c.args.column
    (zero_bits (sfits_of c.b-1.given) c.if-b-eq0.true)

pub factors_of-x-requires : goal.factors_of-x-requires
factors_of-x-requires c = (rw (a_read c) (a_small c), rw (b-read c) (b-small c), rw (a_read c) (start c).requires.column_in_bounds.1)

pub combine-requires : goal.combine-requires
combine-requires c = record {
  row_len = (start (read c)).requires.row_len;
  g_bound = (rw (g-read c) (g-small c), rw (h-read c) (h-small c));
}

pub divide_by_content-requires : goal.divide_by_content-requires
divide_by_content-requires c =
    let d = (goal.at.divide_by_content-requires c).After-combine in
    let sizes = (start (read (made d))).requires.row_len in
    subst (Below (2 ^ 63)) (sym (combined-is d))
    (combined-below (x (made d)) (rowₛ d) (pivotₛ d) sizes.0 (g-small (made d)) (h-small (made d)) sizes.1 sizes.2)

judged-as : (d : After-combine) (q : List ℤ) → q ≡ whole d.combine.new.row → (t : Bool) → every small q ≡ t
    → reduce_by_of (record { numbers = pivotₛ d; column = (start (read (made d))).args.column }) (rowₛ d) ≡ judged t q
judged-as d q w t e =
    reduce-nonzero (pivotₛ d) (rowₛ d) (start (read (made d))).args.column (nonzero-bits (read (made d)).if-b-eq0.false) q (w ∙ ap whole (combined-is d))
    ∙ ap (λ u. judged u q) e

pub returns-then-not-all_small : goal.returns-then-not-all_small
returns-then-not-all_small c =
    judged-as (goal.at.returns-then-not-all_small c).After-combine c.divide_by_content.new.row c.divide_by_content.ensures false
    (sym c.all_small.ensures ∙ c.if-not-all_small.true)

pub returns : goal.returns
returns c =
    judged-as (goal.at.returns c).After-combine c.divide_by_content.new.row c.divide_by_content.ensures true
    (sym c.all_small.ensures ∙ c.if-not-all_small.false)
