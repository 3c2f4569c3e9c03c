-- A term added into the numbers of a row: sixteen numbers at its place, of which three change.
--
-- Main definitions
--   place_in_row_of K t       where the polynomial of a term begins in a row whose first block is K
--   added_at K t l        the numbers of a row with the polynomial of a term added at its place
--   Trinomial            a polynomial of three coefficients or fewer, by those
--
-- Main statements
--   add-three            a term's polynomial changes the first three numbers of a polynomial
--   row_of-added          the row of those numbers is `add_term_of`
--   added-within         no number grows by more than `term_bound`
use Prim.Native.Nat.{ℕ, zero, suc, pred, max, ◌+◌, ◌*◌, ◌≤◌, ◌<◌}
use Rattle.std.proofs.Common.{le_of_eq, suc-ne-zero, arith, sym, ◌∙◌, length-drop, length-take-le}
use Rattle.std.proofs.Math.Nat.{suc_inj}
use Rattle.std.specs.Prelude.{◌≡◌, refl, List, [], ◌∷◌, ◌++◌, length, drop, get_or, ℤ, pos, neg_ℤ, nat_abs, ◌+ℤ◌, ◌*ℤ◌}
use Rattle.std.proofs.Math.Path.{ap, ap₂}
use Rattle.std.proofs.Math.ListN.{take, set, replicate}
use Rattle.std.proofs.Math.Seq.{paste, length-paste}
use Rattle.std.proofs.Math.IntN.{*ℤ-zero, +ℤ_idr}
use Rattle.algebra.specs.Polynomials.{Polynomial, add, scale, length-add}
use Rattle.lists.specs.Everywhere.{All, all-mono, append-all, all_take, all_drop}
use Rattle.lists.specs.Padded.{pad_to}
use Rattle.rules.specs.Limits.{coefficient_count, column_count, block_count, block_length, row_length}
use Rattle.rules.specs.Stores.{row_of}
use Rattle.rules.specs.Layout.{polynomial-at-row}
use Rattle.reading.specs.Equations.{row_of-paste}
use Rattle.differential.specs.Differential.{DifferentialTerm, most_derivative, factor_bound}
use Rattle.differential.specs.Recurrence.{rising, term_polynomial, place_of, add_term_of}
use Rattle.differential.specs.Terms.{length-term_polynomial}
use Rattle.differential.specs.ValidRecurrence.{Within, term_bound, term-bounded, add-within}
use Rattle.differential.specs.Read.{SmallPlace}

-- ---- the place

unfoldable pub place_in_row_of : ℕ → DifferentialTerm → ℕ
place_in_row_of K t = place_of K t * block_length + pred t.column * coefficient_count

unfoldable pub added_at : ℕ → DifferentialTerm → List ℤ → List ℤ
added_at K t l =
    let at = place_in_row_of K t in
    paste l at (add (take coefficient_count (drop at l)) (term_polynomial t)) coefficient_count

module _ (K : ℕ) (t : DifferentialTerm) (order : K ≤ most_derivative) (low : t.derivative ≤ K) (small : SmallPlace t) where
  block_in : place_of K t < block_count
  unfolding place_of
  block_in = omega (arith, small.before.power_small)

  column-in : pred t.column < column_count
  column-in = omega (arith, small.before.column-small, small.column-low)

  pub place-fits : place_in_row_of K t + coefficient_count ≤ row_length
  unfolding place_in_row_of
  place-fits = omega (arith, block_in, column-in)

-- ---- the polynomial

pub record Trinomial (constant linear square : ℤ) (p : Polynomial) : Type 0 where
  pub are : constant ∷ linear ∷ square ∷ [] ≡ pad_to 3 (pos 0) p
  pub short : length p ≤ 3
  pub constant-small : nat_abs constant ≤ 3
  pub linear-small : nat_abs linear ≤ 3
  pub square-small : nat_abs square ≤ 3

-- A multiple of such a polynomial, with all its sixteen coefficients.
scaled : (a : ℤ) (p : Polynomial) → length p ≤ 3
    → pad_to coefficient_count (pos 0) (scale a p) ≡ scale a (pad_to 3 (pos 0) p) ++ replicate 13 (pos 0)
unfolding pad_to scale
scaled a [] h = rw *ℤ-zero
scaled a (x ∷ []) h = rw *ℤ-zero
scaled a (x ∷ y ∷ []) h = rw *ℤ-zero
scaled a (x ∷ y ∷ z ∷ []) h = refl
scaled a (x ∷ y ∷ z ∷ w ∷ p) h = absurd (omega arith)

module _ (t : DifferentialTerm) (x y z : ℤ) (c : Trinomial x y z (rising (neg_ℤ (pos t.power)) t.derivative)) where
  abbrev a : ℤ
  a = t.factor

  polynomial-is : term_polynomial t ≡ (a *ℤ x) ∷ (a *ℤ y) ∷ (a *ℤ z) ∷ replicate 13 (pos 0)
  unfolding term_polynomial scale
  polynomial-is = scaled a (rising (neg_ℤ (pos t.power)) t.derivative) c.short ∙ ap (λ p. scale a p ++ replicate 13 (pos 0)) (sym c.are)

-- Adding zeros.
add-zeros : (n : ℕ) (l : List ℤ) → length l ≡ n → add l (replicate n (pos 0)) ≡ l
unfolding add
add-zeros zero [] h = refl
add-zeros (suc n) [] h = absurd (suc-ne-zero n (sym h))
add-zeros zero (x ∷ l) h = absurd (suc-ne-zero (length l) h)
add-zeros (suc n) (x ∷ l) h = ap₂ ◌∷◌ (+ℤ_idr x) (add-zeros n l (suc_inj h))

three : (l : List ℤ) (x y z : ℤ) → length l ≡ coefficient_count
    → add l (x ∷ y ∷ z ∷ replicate 13 (pos 0))
    ≡ set (set (set l 0 (get_or l 0 (pos 0) +ℤ x)) 1 (get_or l 1 (pos 0) +ℤ y)) 2 (get_or l 2 (pos 0) +ℤ z)
unfolding add
three [] x y z h = absurd (omega arith)
three (p ∷ []) x y z h = absurd (omega arith)
three (p ∷ q ∷ []) x y z h = absurd (omega arith)
three (p ∷ q ∷ r ∷ l) x y z h =
    ap (λ more. (p +ℤ x) ∷ (q +ℤ y) ∷ (r +ℤ z) ∷ more) (add-zeros 13 l (suc_inj (suc_inj (suc_inj h))))

-- A term's polynomial, added to another of sixteen coefficients, changes the first three.
pub add-three : (t : DifferentialTerm) (x y z : ℤ) → Trinomial x y z (rising (neg_ℤ (pos t.power)) t.derivative) → (l : List ℤ)
    → length l ≡ coefficient_count
    → set (set (set l 0 (get_or l 0 (pos 0) +ℤ t.factor *ℤ x)) 1 (get_or l 1 (pos 0) +ℤ t.factor *ℤ y)) 2
    (get_or l 2 (pos 0) +ℤ t.factor *ℤ z)
    ≡ add l (term_polynomial t)
add-three t x y z c l long =
    sym (ap (add l) (polynomial-is t x y z c) ∙ three l (t.factor *ℤ x) (t.factor *ℤ y) (t.factor *ℤ z) long)

-- ---- the row

module _ (K : ℕ) (t : DifferentialTerm) (order : K ≤ most_derivative) (low : t.derivative ≤ K) (small : SmallPlace t) (l : List ℤ)
    (long : length l ≡ row_length) where
  abbrev at : ℕ
  at = place_in_row_of K t

  part-long : length (take coefficient_count (drop at l)) ≡ coefficient_count
  part-long =
      length-take-le coefficient_count (drop at l) (rw (length-drop at l, long) (omega (arith, place-fits K t order low small)))

  sum-long : length (add (take coefficient_count (drop at l)) (term_polynomial t)) ≡ coefficient_count
  unfolding term_polynomial
  sum-long =
      length-add (take coefficient_count (drop at l)) (term_polynomial t)
      ∙ ap₂ max part-long (length-term_polynomial t)

  pub added-long : length (added_at K t l) ≡ row_length
  unfolding added_at
  added-long =
      length-paste l at (add (take coefficient_count (drop at l)) (term_polynomial t)) coefficient_count (rw long (place-fits K t order low small)) (le_of_eq (sym sum-long)) ∙ long

  pub row_of-added : row_of (added_at K t l) ≡ add_term_of K t (row_of l)
  unfolding added_at place_in_row_of add_term_of
  row_of-added =
      row_of-paste l (add (take coefficient_count (drop at l)) (term_polynomial t)) (place_of K t) (pred t.column) long sum-long (block_in K t order low small) (column-in K t order low small)
      ∙ ap (λ p. record {
        blocks = set (row_of l).blocks (place_of K t) (set (get_or (row_of l).blocks (place_of K t) []) (pred t.column)
            (add p (term_polynomial t)));
        right = (row_of l).right;
      })
      (sym (polynomial-at-row l (place_of K t) (pred t.column) (block_in K t order low small) (column-in K t order low small)))

-- ---- how large the numbers become

module _ (K : ℕ) (t : DifferentialTerm) (n : ℕ) (l : List ℤ) where
  abbrev W : ℤ → Type 0
  W = Within (n + term_bound)

  abbrev sum : List ℤ
  sum = add (take coefficient_count (drop (place_in_row_of K t) l)) (term_polynomial t)

  pub added-within : SmallPlace t → nat_abs t.factor ≤ factor_bound → All (Within n) l → All W (added_at K t l)
  unfolding added_at
  added-within small factor h =
      append-all W (take (place_in_row_of K t) l ++ take coefficient_count sum) (drop (place_in_row_of K t + coefficient_count) l)
      (append-all W (take (place_in_row_of K t) l) (take coefficient_count sum) (all_take W (place_in_row_of K t) l more)
      (all_take W coefficient_count sum
      (add-within n term_bound (take coefficient_count (drop (place_in_row_of K t) l)) (term_polynomial t)
      (all_take (Within n) coefficient_count (drop (place_in_row_of K t) l) (all_drop (Within n) (place_in_row_of K t) l h))
      (term-bounded t small.before.derivative-small small.before.power_small factor))))
      (all_drop W (place_in_row_of K t + coefficient_count) l more)
    where
      more : All W l
      more = all-mono (Within n) W (λ a g. omega arith) l h
