-- `log_steps::combining::divided_row` meets its contract.
-- Assumes nothing.
use mathlib.Core.Path.{◌≡◌, refl, sym, ◌∙◌, ap, subst}
use mathlib.Core.Bool.{Bool, true, false}
use mathlib.Core.List.{List}
use Prim.Native.Nat.{ℕ, ◌+◌, ◌^◌, ◌<◌}
use native.Mathlib.Omega.{arith}
use lib.IntN.{ℤ, nat_abs}
use lib.ListN.{length}
use lib.Seq.{get_or-drop}
use mir.Syntax.{w64}
use mir.Val.{to_z, of_z}
use mir.Facts.{to_z-of_z}
use Rattle.algebra.specs.Gcd.{divide_by, length-divide_by}
use Rattle.algebra.specs.Polynomials.{Polynomial}
use Rattle.lists.specs.Tests.{true-T}
use Rattle.polynomials.specs.Content.{Below}
use Rattle.products.specs.Product.{below-part}
use Rattle.rules.specs.Limits.{row_length, entries_length}
use Rattle.rules.specs.Rows.{Row, map_row, coefficients_of, cut, low_degrees, width}
use Rattle.rules.specs.Stores.{row_of}
use Rattle.rules.specs.Layout.{row_of-coefficients_of}
use Rattle.rules.specs.Elimination.{limit_coefficients}
use Rattle.stores.specs.Flat.{part_count}
use Rattle.working_rows.specs.declared.WorkingRow.{WorkingRow}
use Rattle.working_rows.specs.Working.{numbers_held, Full, loaded}
use Rattle.working_rows.specs.Worked.{refusal_of}
use Rattle.combinations.specs.declared.Combination.{Combination}
use Rattle.combinations.specs.Combination.{low_numbers, cut_low, StoreRow-cut}
use Rattle.combinations.specs.Primitive.{cut-divided}
use Rattle.combinations.specs.Undivided.{RowsFit, StoredFit, undivided_of, whole_row, loaded-held, stored-fits, undivided-low}
use Rattle.combinations.specs.Parts.{some-passed, none-failed}
use Rattle.std.proofs.Common.{Some}
use Rattle.combinations.specs.Undivided.{undivided-whole, wholly-full, wholly-held, all-below}
use Rattle.log_steps.specs.Logs.{divides_all}
use Rattle.log_steps.specs.Divisions.{combined, cut-exact, divided-past, divided-low}
use Rattle.log_steps.specs.StoreChanges.{positive-size}
use Rattle.log_steps.specs.StoreCombinations.{Judged, judged_row, quotient_of, judged-exact, judged-inexact, quotient-exact, quotient-inexact}
use Rattle.log_steps.proofs.combining.divided_row.Goals as goal
use Rattle.log_steps.proofs.combining.divided_row.Goals.{Start}

-- the two rows
module _ (c : Start) where
  abbrev g : Polynomial
  g = c.args.g.now

  abbrev h : Polynomial
  h = c.args.h.now

  abbrev d : ℕ
  d = nat_abs c.args.d

  abbrev target : List ℤ
  target = c.args.target.now

  abbrev pivot : List ℤ
  pivot = c.args.pivot.now

  abbrev combination : Row
  combination = combined g h target pivot

  positive : 0 < d
  positive = positive-size c.args.d c.requires.t

  some : 0 < length g
  some = omega (arith, c.requires.g_len.0)

  long : length target ≡ row_length
  long = c.requires.target_len.0

  stored : StoredFit g h target pivot
  stored =
      record {
        g-long = c.requires.g_len.0;
        g-small = c.requires.g_len.1;
        h-long = c.requires.g_len.2;
        h-small = c.requires.g_len.3;
        target-long = long;
        target_small = c.requires.target_len.2;
        pivot-long = c.requires.target_len.1;
        pivot-small = c.requires.target_len.3;
      }

  fitted : RowsFit g h (loaded target 0) pivot (width (row_of pivot))
  fitted = stored-fits stored refl refl

  held : numbers_held (loaded target 0) ≡ target
  held = loaded-held target long

  tested : {t : Bool} → t ≡ divides_all (nat_abs (to_z w64 (of_z w64 c.args.d))) (coefficients_of combination)
      → t ≡ divides_all d (coefficients_of combination)
  tested e = e ∙ ap (λ a. divides_all (nat_abs a) (coefficients_of combination)) (to_z-of_z {w = w64} c.ranges.d)

  -- the quotient of the undivided row is the new row
  quotient-judged : (w : WorkingRow) → low_degrees combination ≡ true → numbers_held w ≡ low_numbers part_count g h target pivot
      → quotient_of d w ≡ judged_row d g h target pivot
  quotient-judged w low held = cases (divides_all d (coefficients_of combination)) refl
    where
      numbers : numbers_held w ≡ coefficients_of (cut combination)
      numbers = held ∙ sym (cut_low g h target pivot some long)

      same : divides_all d (numbers_held w) ≡ divides_all d (coefficients_of combination)
      same = ap (divides_all d) numbers ∙ cut-exact d combination low

      quotient : row_of (divide_by d (numbers_held w)) ≡ cut (map_row (divide_by d) combination)
      quotient =
          ap (λ l. row_of (divide_by d l)) numbers ∙ ap row_of (sym (cut-divided d combination))
          ∙ row_of-coefficients_of (cut (map_row (divide_by d) combination))
          (StoreRow-cut g h target pivot some long (divide_by d) (length-divide_by d))

      cases : (t : Bool) → divides_all d (coefficients_of combination) ≡ t → quotient_of d w ≡ judged_row d g h target pivot
      cases true e =
          quotient-exact d w (same ∙ e) ∙ ap limit_coefficients quotient
          ∙ sym (divided-low d positive combination (true-T _ e) low) ∙ sym (judged-exact d g h target pivot e)
      cases false e = quotient-inexact d w (same ∙ e) ∙ sym (judged-inexact d g h target pivot e)

-- the undivided row
module _ (s : Start) (u : Combination) (e : Some u ≡ undivided_of (g s) (h s) (target s) (pivot s)) where
  low : low_degrees (combination s) ≡ true
  low = (some-passed _ (e ∙ undivided-low (g s) (h s) (target s) (pivot s))).0

  made : undivided_of (g s) (h s) (numbers_held (loaded (target s) 0)) (pivot s) ≡ Some u
  made = ap (λ t. undivided_of (g s) (h s) t (pivot s)) (held s) ∙ sym e

  abbrev numbers : List ℤ
  numbers = low_numbers part_count (g s) (h s) (numbers_held (loaded (target s) 0)) (pivot s)

  whole : u ≡ whole_row numbers
  whole = undivided-whole (fitted s) made

  row-full : Full u.row
  row-full = subst (λ r. Full r.row) (sym whole) (wholly-full (fitted s) made)

  row-width : u.row.width ≡ width (row_of u.row.entries)
  row-width = ap (λ r. r.row.width) whole ∙ sym (ap (λ r. width (row_of r.row.entries)) whole)

  below : Below (2 ^ 63) numbers
  below = all-below (fitted s) made

  row-held : numbers_held u.row ≡ low_numbers part_count (g s) (h s) (target s) (pivot s)
  row-held =
      ap (λ r. numbers_held r.row) whole ∙ wholly-held (fitted s) made
      ∙ ap (λ t. low_numbers part_count (g s) (h s) t (pivot s)) (held s)

pub undivided_stored-requires : goal.undivided_stored-requires
undivided_stored-requires c = stored c

pub divides_combination-requires : goal.divides_combination-requires
divides_combination-requires c =
    let s = (goal.at.divides_combination-requires c).Start in
    record {
      d_nonzero = rw (to_z-of_z {w = w64} s.ranges.d) (positive s);
      g_len = s.requires.g_len;
      target_len = (s.requires.target_len.0, s.requires.target_len.1, s.requires.target_len.2, s.requires.target_len.3);
    }

pub returns-then-not-divides_combination : goal.returns-then-not-divides_combination
unfolding refusal_of
returns-then-not-divides_combination c =
    let s = (goal.at.returns-then-not-divides_combination c).Start in
    let inexact = sym (tested s c.divides_combination.ensures) ∙ c.if-not-divides_combination.true in
    ap refusal_of (judged-inexact (d s) (g s) (h s) (target s) (pivot s) inexact)

pub returns-else-not-divides_combination : goal.returns-else-not-divides_combination
unfolding refusal_of
returns-else-not-divides_combination c =
    let s = (goal.at.returns-else-not-divides_combination c).Start in
    let past = none-failed _ _ (c.in-None.ensures ∙ undivided-low (g s) (h s) (target s) (pivot s)) in
    let exact = sym (tested s c.divides_combination.ensures) ∙ c.if-not-divides_combination.false in
    let e = judged-exact (d s) (g s) (h s) (target s) (pivot s) exact
    ∙ divided-past (d s) (positive s) (combination s) (true-T _ exact) past in
    let limit = ap refusal_of e in (λ z. omega (arith, limit, z), (sym limit, tt))

pub exact_quotient-requires : goal.exact_quotient-requires
exact_quotient-requires c =
    let s = (goal.at.exact_quotient-requires c).Start in
    let u = c.in-Some.u in
    let e = c.in-Some.ensures in record {
      full = (row-full s u e, row-width s u e, rw (to_z-of_z {w = w64} s.ranges.d) s.requires.t);
      below = (
        subst (λ r. Below (2 ^ 63) r.row.entries) (sym (whole s u e)) (below-part (2 ^ 63) 0 entries_length (numbers s u e) (below s u e)),
        subst (λ r. Below (2 ^ 63) r.row.right) (sym (whole s u e)) (λ k. rw get_or-drop (below s u e (entries_length + k))),
      );
    }

pub returns-in-Some : goal.returns-in-Some
returns-in-Some c =
    let s = (goal.at.returns-in-Some c).Start in
    let u = c.in-Some.u in
    let e = c.in-Some.ensures in
    let same = (λ k. quotient_of (nat_abs (to_z-of_z {w = w64} s.ranges.d k)) u.row) ∙ quotient-judged s u.row (low s u e) (row-held s u e) in
    subst (Judged c.exact_quotient.result) same c.exact_quotient.ensures
