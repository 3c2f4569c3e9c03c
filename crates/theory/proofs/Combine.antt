-- What is so of d × (new row) = g × row + h × other, `Combines` of specs/Combine.antt.
--
-- Main statements
--   combine-values, combined_row-values   g × r + h × q divided by d, and the row of rule 4, are such new rows
--   combine-at, combine-back-at   one combination at one n: the new row from the old ones; the old row from the new one where
--                           g(n) is not 0 (where it is, `combine-root-at`)
--   combine-satisfied       the same sequences satisfy the list, the relations at the roots of g being added
--   combine-dependent       the list is dependent exactly if it was
use Rattle.std.specs.Prelude.{◌≡◌, ◌≢◌, ◌↔◌, ℕ, ◌<◌, not, T, length, get_or, set, ℤ, nat_abs, ◌*ℤ◌}
use Rattle.std.proofs.Math.Path.{sym, ap₂}
use Rattle.std.proofs.Common.{◌∙◌, ap, subst, ⊎_elim, ne_of_gt, length-set, get_or-set_same, get_or-set_other, lt-length-set}
use mathlib.Core.List.{List, ◌++◌}
use Rattle.std.proofs.Math.IntN.{pos, ◌+ℤ◌, *ℤ-zero, +ℤ_idr, ℤ_discrete}
use Rattle.algebra.specs.Integers.{no-zero-divisors}
use Rattle.algebra.specs.Gcd.{divide_by, DividesAll}
use Rattle.algebra.specs.Polynomials.{Polynomial, eval, is_zero_of}
use Rattle.rules.specs.Rows.{Row, Relation, no_row, map_row, coefficients_of, combine, primitive, low_degrees}
use Rattle.lists.specs.Everywhere.{All, all_get_or, all_set, all-of-set}
use Rattle.rules.specs.Elimination.{Side, root_relations}
use Rattle.rules.specs.Sequences.{Sequence, value_of, SatisfiesEquation, SatisfiesRelation, Satisfies, Dependent}
use Rattle.theory.specs.CombinedValues.{combined-iff}
use Rattle.theory.specs.ByValues.{row_values, by_values}
use Rattle.theory.specs.Replace.{replaced-value, kept-value}
use Rattle.theory.specs.AddRelations.{added-satisfied, equation-relations}
use Rattle.theory.specs.Reduce.{value-divided, value-primitive, value-cut}
use Rattle.theory.specs.Combine.{Combines, SameColumns, combine-root-at, combined_row, value-combine}

-- ---- values, pointwise in n

module _ (g h : Polynomial) (r q : Row) (same : SameColumns r q) where
  -- Division by any positive whole number that divides the result.
  pub combine-values : (d : ℕ) → DividesAll d (coefficients_of (combine g h r q))
      → Combines d g h r q (map_row (divide_by d) (combine g h r q))
  combine-values d divides l z n = value-divided d l (combine g h r q) z n divides ∙ value-combine g h l r q z n same

  -- Division by the content, within the limit of the degrees.
  pub combined_row-values : T (low_degrees (primitive (combine g h r q))) → (d : ℕ) × (0 < d) × Combines d g h r q (combined_row g h r q)
  combined_row-values low =
      let (d, positive, value) = value-primitive (combine g h r q) in (
        d,
        positive,
        λ l z n. ap (λ x. pos d *ℤ x) (value-cut l (primitive (combine g h r q)) z n low) ∙ value l z n ∙ value-combine g h l r q z n same,
      )

-- ---- one combination at one n

nonzero-factor : (a b : ℤ) → a ≢ pos 0 → a *ℤ b ≡ pos 0 → b ≡ pos 0
nonzero-factor a b n e = ⊎_elim (λ z. absurd (n z)) (λ z. z) (no-zero-divisors a b e)

pos-nonzero : (d : ℕ) → 0 < d → pos d ≢ pos 0
pos-nonzero d h e = ne_of_gt h (ap nat_abs e)

-- A sum of two multiples of which both are zero, or the second is.
zero-sum : (a b x y : ℤ) → x ≡ pos 0 → y ≡ pos 0 → a *ℤ x +ℤ b *ℤ y ≡ pos 0
zero-sum a b x y e f = ap₂ (λ u v. a *ℤ u +ℤ b *ℤ v) e f ∙ ap₂ ◌+ℤ◌ (*ℤ-zero a) (*ℤ-zero b)

left-multiple : (a b x y : ℤ) → y ≡ pos 0 → a *ℤ x +ℤ b *ℤ y ≡ a *ℤ x
left-multiple a b x y f = ap (λ v. a *ℤ x +ℤ b *ℤ v) f ∙ ap (λ v. a *ℤ x +ℤ v) (*ℤ-zero b) ∙ +ℤ_idr (a *ℤ x)

module _ (l : ℤ) (z : Sequence) (d : ℕ) (g h : Polynomial) (r q r' : Row) (positive : 0 < d) (value : Combines d g h r q r') where
  pub combine-at : (n : ℤ) → value_of l r z n ≡ pos 0 → value_of l q z n ≡ pos 0 → value_of l r' z n ≡ pos 0
  combine-at n x y = nonzero-factor (pos d) (value_of l r' z n) (pos-nonzero d positive)
      (value l z n ∙ zero-sum (eval g n) (eval h n) (value_of l r z n) (value_of l q z n) x y)

  pub combine-back-at : (n : ℤ) → eval g n ≢ pos 0 → value_of l r' z n ≡ pos 0 → value_of l q z n ≡ pos 0 → value_of l r z n ≡ pos 0
  combine-back-at n nonzero x y = nonzero-factor (eval g n) (value_of l r z n) nonzero
      (sym (left-multiple (eval g n) (eval h n) (value_of l r z n) (value_of l q z n) y)
      ∙ sym (value l z n) ∙ ap (λ v. pos d *ℤ v) x ∙ *ℤ-zero (pos d))

-- ---- the sequences

module _ (l : ℤ) (z : Sequence) (side : Side) (d : ℕ) (g h : Polynomial) where
  -- The new row, the other row and the relations are satisfied exactly if the old row and the other row are.
  pub combine-solutions : (r q r' : Row) → 0 < d → T (not (is_zero_of g)) → Combines d g h r q r'
      → (SatisfiesEquation l z r × SatisfiesEquation l z q)
      ↔ (SatisfiesEquation l z r' × SatisfiesEquation l z q × All (SatisfiesRelation l z) (root_relations side g r))
  unfolding SatisfiesEquation
  combine-solutions r q r' positive nonzero value = (
    λ s. (λ n. combine-at l z d g h r q r' positive value n (s.0 n) (s.1 n), s.1, equation-relations l z side g r s.0),
    λ s. (λ n. old s.0 s.1 s.2 n (ℤ_discrete (eval g n) (pos 0)), s.1),
  )
    where
      old : ((n : ℤ) → value_of l r' z n ≡ pos 0) → ((n : ℤ) → value_of l q z n ≡ pos 0)
          → All (SatisfiesRelation l z) (root_relations side g r) → (n : ℤ) → Dec (eval g n ≡ pos 0) → value_of l r z n ≡ pos 0
      old x y a n (yes e) = combine-root-at l z side g r n nonzero e a
      old x y a n (no e) = combine-back-at l z d g h r q r' positive value n e (x n) (y n)

  pub combine-satisfied : (rows : List Row) (relations : List Relation) (i j : ℕ) (r' : Row)
      → i < length rows → j < length rows → i ≢ j → 0 < d → T (not (is_zero_of g))
      → Combines d g h (get_or rows i no_row) (get_or rows j no_row) r'
      → Satisfies l rows relations z ↔ Satisfies l (set rows i r') (relations ++ root_relations side g (get_or rows i no_row)) z
  unfolding Satisfies
  combine-satisfied rows relations i j r' below-i below-j apart positive nonzero value = (forth, back)
    where
      Solved : Row → Type 0
      Solved = SatisfiesEquation l z

      Holds : Relation → Type 0
      Holds = SatisfiesRelation l z

      r : Row
      r = get_or rows i no_row

      q : Row
      q = get_or rows j no_row

      listed : List Relation
      listed = root_relations side g r

      both : (Solved r × Solved q) ↔ (Solved r' × Solved q × All Holds listed)
      both = combine-solutions r q r' positive nonzero value

      forth : All Solved rows × All Holds relations → All Solved (set rows i r') × All Holds (relations ++ listed)
      forth s =
          let new = both.0 (all_get_or Solved rows no_row i below-i s.0, all_get_or Solved rows no_row j below-j s.0) in
          (added-satisfied l z (set rows i r') relations listed).1 ((all_set Solved rows i r' new.0 s.0, s.1), new.2)

      -- The row at a place of the new list.
      at : (k : ℕ) (p : Row) → get_or (set rows i r') k no_row ≡ p → k < length rows → All Solved (set rows i r') → Solved p
      at k p e below s = subst Solved e (all_get_or Solved (set rows i r') no_row k (lt-length-set rows i r' below) s)

      back : All Solved (set rows i r') × All Holds (relations ++ listed) → All Solved rows × All Holds relations
      back s =
          let (rest, added) = (added-satisfied l z (set rows i r') relations listed).0 s in
          let new = at i r' (get_or-set_same rows i r' no_row below-i) below-i rest.0 in
          let pivot = at j q (get_or-set_other rows i j r' no_row (λ e. apart (sym e))) below-j rest.0 in
          (all-of-set Solved rows i r' no_row (both.1 (new, pivot, added)).0 rest.0, rest.1)

-- ---- dependence, both ways

pub combine-dependent : (l : ℤ) (rows : List Row) (d : ℕ) (g h : Polynomial) (i j : ℕ) (r' : Row)
    → i < length rows → j < length rows → i ≢ j → 0 < d → T (not (is_zero_of g))
    → Combines d g h (get_or rows i no_row) (get_or rows j no_row) r'
    → Dependent l rows ↔ Dependent l (set rows i r')
combine-dependent l rows d g h i j r' i-below j-below apart positive nonzero value =
    by_values l rows (set rows i r') (length-set rows i r')
    (combined-iff (length rows) i j (row_values l rows) (row_values l (set rows i r')) i-below j-below apart (kept-value l rows i r')
    d positive g h nonzero (λ z n. ap (λ v. pos d *ℤ v) (replaced-value l rows i r' i-below z n) ∙ value l z n))
