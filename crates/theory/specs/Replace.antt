-- One row of a list put in the place of another: what every change of one row has in common.
--
-- Main statements
--   replaced-value, kept-value   the values of the new row, and of the rows that stay
--   replace-satisfied            the same sequences satisfy the list where the old row and the new one are satisfied by the same
--   replace-pivots               the triangular form of the rows before it stays
--   moved-equation, moved-satisfied, moved-dependent   the new row at n is the old one at n + 1
use Rattle.std.specs.Prelude.{ℕ, ◌≤◌, ◌<◌, ◌≡◌, ◌≢◌, ◌↔◌, List, length, get_or, set, ℤ, pos, ◌+ℤ◌, ◌-ℤ◌}
use Rattle.std.proofs.Common.{sym, ◌∙◌, ap, subst, arith, length-set, get_or-set_same, get_or-set_other, lt-length-set}
use Rattle.std.proofs.Math.IntN.{ -ℤ-+ℤ_cancel}
use Rattle.rules.specs.Rows.{Row, Relation, no_row}
use Rattle.lists.specs.Everywhere.{All, all_get_or, all_set, all-of-set}
use Rattle.rules.specs.Sequences.{Sequence, value_of, SatisfiesEquation, SatisfiesRelation, Satisfies, Dependent}
use Rattle.theory.specs.Pivots.{PivotRow, PivotRows}
use Rattle.theory.specs.Combinations.{moved-iff}
use Rattle.theory.specs.ByValues.{row_values, by_values}

module _ (l : ℤ) (rows : List Row) (i : ℕ) (r : Row) where
  pub replaced-value : i < length rows → (z : Sequence) (n : ℤ) → row_values l (set rows i r) z i n ≡ value_of l r z n
  replaced-value below z n = ap (λ q. value_of l q z n) (get_or-set_same rows i r no_row below)

  pub kept-value : (z : Sequence) (k : ℕ) (n : ℤ) → k ≢ i → row_values l (set rows i r) z k n ≡ row_values l rows z k n
  kept-value z k n other = ap (λ q. value_of l q z n) (get_or-set_other rows i k r no_row other)

pub replace-satisfied : (l : ℤ) (z : Sequence) (rows : List Row) (relations : List Relation) (i : ℕ) (r : Row) → i < length rows
    → SatisfiesEquation l z r ↔ SatisfiesEquation l z (get_or rows i no_row)
    → Satisfies l rows relations z ↔ Satisfies l (set rows i r) relations z
unfolding Satisfies
replace-satisfied l z rows relations i r below same = (forth, back)
  where
    Solved : Row → Type 0
    Solved = SatisfiesEquation l z

    forth : All Solved rows × All (SatisfiesRelation l z) relations → All Solved (set rows i r) × All (SatisfiesRelation l z) relations
    forth s = (all_set Solved rows i r (same.1 (all_get_or Solved rows no_row i below s.0)) s.0, s.1)

    back : All Solved (set rows i r) × All (SatisfiesRelation l z) relations → All Solved rows × All (SatisfiesRelation l z) relations
    back s =
        let new = all_get_or Solved (set rows i r) no_row i (lt-length-set rows i r below) s.0 in
        (all-of-set Solved rows i r no_row (same.0 (subst Solved (get_or-set_same rows i r no_row below) new)) s.0, s.1)

pub replace-pivots : (w : ℕ) (order : List ℕ) (rows : List Row) (i : ℕ) (r : Row) → w ≤ i
    → PivotRows w order rows → PivotRows w order (set rows i r)
replace-pivots w order rows i r later p k h = subst (PivotRow order k) (sym (get_or-set_other rows i k r no_row (omega arith))) (p k h)

-- ---- the new row at n is the old one at n + 1

-- Every n is one more than another.
pub moved-equation : (l : ℤ) (z : Sequence) (q r : Row) → ((n : ℤ) → value_of l r z n ≡ value_of l q z (n +ℤ pos 1))
    → SatisfiesEquation l z r ↔ SatisfiesEquation l z q
unfolding SatisfiesEquation
moved-equation l z q r value = (
  λ s n. ap (value_of l q z) (sym (-ℤ-+ℤ_cancel n (pos 1))) ∙ sym (value (n -ℤ pos 1)) ∙ s (n -ℤ pos 1),
  λ s n. value n ∙ s (n +ℤ pos 1),
)

module _ (l : ℤ) (rows : List Row) (i : ℕ) (r : Row) (below : i < length rows)
    (value : (z : Sequence) (n : ℤ) → value_of l r z n ≡ value_of l (get_or rows i no_row) z (n +ℤ pos 1)) where
  pub moved-satisfied : (z : Sequence) (relations : List Relation) → Satisfies l rows relations z ↔ Satisfies l (set rows i r) relations z
  moved-satisfied z relations =
      replace-satisfied l z rows relations i r below (moved-equation l z (get_or rows i no_row) r (value z))

  pub moved-dependent : Dependent l rows ↔ Dependent l (set rows i r)
  moved-dependent = by_values l rows (set rows i r) (length-set rows i r)
      (moved-iff (length rows) i (row_values l rows) (row_values l (set rows i r))
      (λ z n. replaced-value l rows i r below z n ∙ value z n) (kept-value l rows i r))
