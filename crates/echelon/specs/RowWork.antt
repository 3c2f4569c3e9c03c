-- What the functions on one constant row go by: sizes of factors and combinations, the division, and the first column.
--
-- Main definitions
--   column_found n c      column c, or none where c is not below n
-- Main statements
--   divisor-bounds, factors-negative, factors-positive   rule 2's divisor, and its factors by the sign of a
--   factors-bound        the factors are no larger than the entries
--   product-size, sum-size, combined-below   how large a combination's numbers become
--   combined-place       number j of a combination
--   whole-divided, whole-kept   what the division makes of a row, by its content
--   first_found, first-missing, column-searched   the first nonzero entry
--   reduce-zero, reduce-nonzero   what a settled row does, by the entry at its column
--   reduce-next, reduce-passed   what the settled rows do, by what the first of them does
use Rattle.std.specs.Prelude.{ℕ, zero, suc, ◌*◌, ◌^◌, ◌≤◌, ◌<◌, ◌≡◌, refl, ◌≢◌, Bool, true, false, cond, List, [], ◌∷◌, T, ltb, length, get_or, ℤ, pos, neg_ℤ, nat_abs, ◌+ℤ◌, ◌*ℤ◌}
use Rattle.std.specs.Prelude as Answer
use Rattle.std.specs.Option.{MatchOption, unwrap_or}
use Rattle.std.proofs.Common.{None, Some, sym, ◌∙◌, subst, mul-le-mul, le_trans, pos_of_ne-zero, zero-lt-suc, le_of_suc-le-suc, arith, lt-ltb, le-ltb}
use Rattle.std.proofs.Math.Path.{ap}
use Rattle.std.proofs.Math.Option.{Option, none, some, map}
use Rattle.std.proofs.Math.Nat.{le_of_dvd, pos_of_dvd_of_pos}
use Rattle.std.specs.Int.Signed.{lt_z, quot_z}
use Rattle.algebra.specs.Integers.{nat_abs-zero, nat_abs-neg_ℤ, nat_abs-*ℤ, nat_abs-+ℤ}
use Rattle.algebra.specs.Division.{quot_z-le}
use Rattle.algebra.specs.Gcd.{gcd, content, divide_by, divide_by-one, gcd-divides-left}
use Rattle.algebra.specs.Polynomials.{is_zero_ℤ, is_zero_ℤ-iff, is_zero_ℤ-not-iff}
use Rattle.lists.specs.Tests.{every, cond-passed, cond-not}
use Rattle.rules.specs.Limits.{bound, small}
use Rattle.polynomials.specs.Content.{Below, small_at}
use Rattle.constant_rows.specs.Constants.{fine, passed, and_on}
use Rattle.echelon.specs.Eliminated.{Pivot, at, pivot_of, Factors, the_factors_of, combined, whole, limited, reduce_by_of, reduce_all_of}
use Rattle.echelon.specs.Eliminated.{first_at}
use Rattle.echelon.specs.KernelKept.{at-combined}
use Rattle.echelon.specs.SoundRows.{judged}

-- ---- rule 2's factors

pub divisor-bounds : (a b : ℤ) → nat_abs a ≤ bound → a ≢ pos 0
    → (0 < gcd (nat_abs a) (nat_abs b)) × (gcd (nat_abs a) (nat_abs b) ≤ bound)
divisor-bounds a b h nonzero =
    let positive : 0 < nat_abs a = pos_of_ne-zero (λ e. nonzero (nat_abs-zero e)) in
    let divides = gcd-divides-left (nat_abs a) (nat_abs b) in
    (pos_of_dvd_of_pos divides positive, le_trans (le_of_dvd positive divides) h)

pub factors-negative : (a b : ℤ) → lt_z a (pos 0) ≡ true
    → the_factors_of a b
    ≡ record { g = neg_ℤ (quot_z a (pos (gcd (nat_abs a) (nat_abs b)))); h = quot_z b (pos (gcd (nat_abs a) (nat_abs b))) }
unfolding the_factors_of
factors-negative a b e = rw e

pub factors-positive : (a b : ℤ) → lt_z a (pos 0) ≡ false
    → the_factors_of a b
    ≡ record { g = quot_z a (pos (gcd (nat_abs a) (nat_abs b))); h = neg_ℤ (quot_z b (pos (gcd (nat_abs a) (nat_abs b)))) }
unfolding the_factors_of
factors-positive a b e = rw e

-- The factors of a combination are no larger than the entries (SCOPE 14.42).
pub factors-bound : (a b : ℤ) → (nat_abs (the_factors_of a b).g ≤ nat_abs a) × (nat_abs (the_factors_of a b).h ≤ nat_abs b)
unfolding the_factors_of
factors-bound a b = cases (lt_z a (pos 0))
  where
    d : ℤ
    d = pos (gcd (nat_abs a) (nat_abs b))

    turned : (x y : ℤ) → nat_abs x ≤ nat_abs y → nat_abs (neg_ℤ x) ≤ nat_abs y
    turned x y h = subst (λ k. k ≤ nat_abs y) (sym (nat_abs-neg_ℤ x)) h

    Within : Factors → Type 0
    Within f = (nat_abs f.g ≤ nat_abs a) × (nat_abs f.h ≤ nat_abs b)

    cases : (t : Bool) → Within (cond t (record { g = neg_ℤ (quot_z a d); h = quot_z b d }) (record { g = quot_z a d; h = neg_ℤ (quot_z b d) }))
    cases true = (turned (quot_z a d) a (quot_z-le a d), quot_z-le b d)
    cases false = (quot_z-le a d, turned (quot_z b d) b (quot_z-le b d))

-- ---- a combination

pub product-size : (a b : ℤ) → nat_abs a ≤ bound → nat_abs b ≤ bound → nat_abs (a *ℤ b) ≤ bound * bound
product-size a b h k = subst (λ x. x ≤ bound * bound) (sym (nat_abs-*ℤ a b)) (mul-le-mul h k)

pub sum-size : (g a h b : ℤ) → nat_abs g ≤ bound → nat_abs a ≤ bound → nat_abs h ≤ bound → nat_abs b ≤ bound
    → nat_abs (g *ℤ a +ℤ h *ℤ b) ≤ 2 * (bound * bound)
sum-size g a h b i j k l = omega (arith, nat_abs-+ℤ (g *ℤ a) (h *ℤ b), product-size g a i j, product-size h b k l)

module _ (x : Factors) (r q : List ℤ) (same : length r ≡ length q) where
  pub combined-place : (j : ℕ) → get_or (combined x r q) j (pos 0) ≡ x.g *ℤ get_or r j (pos 0) +ℤ x.h *ℤ get_or q j (pos 0)
  unfolding at
  combined-place j = at-combined x r q same j

  pub combined-below : nat_abs x.g ≤ bound → nat_abs x.h ≤ bound → T (every small r) → T (every small q)
      → Below (2 ^ 63) (combined x r q)
  combined-below g h s t k =
      subst (λ z. nat_abs z < 2 ^ 63) (sym (combined-place k))
      (omega (arith, sum-size x.g (get_or r k (pos 0)) x.h (get_or q k (pos 0)) g (small_at r s k) h (small_at q t k)))

-- ---- the division

pub whole-divided : (r : List ℤ) → 1 < content r → whole r ≡ divide_by (content r) r
unfolding whole
whole-divided r h = go (content r) h
  where
    go : (d : ℕ) → 1 < d → elim d [ zero ↦ r | suc e ↦ divide_by (suc e) r ] ≡ divide_by d r
    go zero h = absurd (omega arith)
    go (suc d) h = refl

pub whole-kept : (r : List ℤ) → content r ≤ 1 → whole r ≡ r
unfolding whole
whole-kept r h = go (content r) h
  where
    go : (d : ℕ) → d ≤ 1 → elim d [ zero ↦ r | suc e ↦ divide_by (suc e) r ] ≡ r
    go zero h = refl
    go (suc zero) h = divide_by-one r
    go (suc (suc d)) h = absurd (omega arith)

-- ---- the first column

unfoldable pub column_found : ℕ → ℕ → Option ℕ
column_found n c = cond (ltb c n) (some c) none

pub column-some : (n c : ℕ) → c < n → column_found n c ≡ some c
unfolding column_found
column-some n c h = rw (lt-ltb c n h)

pub column-none : (n c : ℕ) → n ≤ c → column_found n c ≡ none
unfolding column_found
column-none n c h = rw (le-ltb c n h)

first-at : (r : List ℤ) (c : ℕ) → c < length r → ((k : ℕ) → k < c → get_or r k (pos 0) ≡ pos 0) → get_or r c (pos 0) ≢ pos 0
    → first_at r ≡ some c
unfolding first_at
first-at [] c h z nonzero = absurd (omega arith)
first-at (a ∷ r) zero h z nonzero = cond-not (is_zero_ℤ a) (map suc (first_at r)) (some 0) ((is_zero_ℤ-not-iff a).1 nonzero)
first-at (a ∷ r) (suc c) h z nonzero =
    cond-passed (is_zero_ℤ a) (map suc (first_at r)) (some 0) ((is_zero_ℤ-iff a).1 (z 0 (zero-lt-suc c)))
    ∙ ap (map suc) (first-at r c (le_of_suc-le-suc h) (λ k l. z (suc k) (omega arith)) nonzero)

first-nowhere : (r : List ℤ) → ((k : ℕ) → k < length r → get_or r k (pos 0) ≡ pos 0) → first_at r ≡ none
unfolding first_at
first-nowhere [] z = refl
first-nowhere (a ∷ r) z =
    cond-passed (is_zero_ℤ a) (map suc (first_at r)) (some 0) ((is_zero_ℤ-iff a).1 (z 0 (zero-lt-suc (length r))))
    ∙ ap (map suc) (first-nowhere r (λ k l. z (suc k) (omega arith)))

pub first_found : (r : List ℤ) (c : ℕ) → c < length r → ((k : ℕ) → k < c → get_or r k (pos 0) ≡ pos 0) → get_or r c (pos 0) ≢ pos 0
    → first_at r ≡ column_found (length r) c
first_found r c h z nonzero = first-at r c h z nonzero ∙ sym (column-some (length r) c h)

pub first-missing : (r : List ℤ) (c : ℕ) → length r ≤ c → ((k : ℕ) → k < c → get_or r k (pos 0) ≡ pos 0)
    → first_at r ≡ column_found (length r) c
first-missing r c h z = first-nowhere r (λ k l. z k (omega arith)) ∙ sym (column-none (length r) c h)

-- What a search from the front finds.
abbrev pub FirstOf : List ℤ → Answer.Option ℕ → Type 0
FirstOf r o =
    MatchOption o ((k : ℕ) → k < length r → get_or r k (pos 0) ≡ pos 0)
    (λ c. (c < length r) × (get_or r c (pos 0) ≢ pos 0) × ((k : ℕ) → k < c → get_or r k (pos 0) ≡ pos 0))

pub column-searched : (r : List ℤ) (o : Answer.Option ℕ) → FirstOf r o → first_at r ≡ column_found (length r) (unwrap_or o (length r))
column-searched r None each = first-missing r (length r) (omega arith) each
column-searched r (Some c) at = first_found r c at.0 at.2 at.1

-- ---- one settled row

module _ (p r : List ℤ) (c : ℕ) where
  pub reduce-zero : get_or r c (pos 0) ≡ pos 0 → reduce_by_of (record { numbers = p; column = c }) r ≡ fine r
  unfolding reduce_by_of at
  reduce-zero e = cond-passed (is_zero_ℤ (get_or r c (pos 0))) (fine r) _ ((is_zero_ℤ-iff (get_or r c (pos 0))).1 e)

  pub reduce-nonzero : get_or r c (pos 0) ≢ pos 0 → (q : List ℤ)
      → q ≡ whole (combined (the_factors_of (get_or p c (pos 0)) (get_or r c (pos 0))) r p)
      → reduce_by_of (record { numbers = p; column = c }) r ≡ judged (every small q) q
  unfolding reduce_by_of at pivot_of limited
  reduce-nonzero nonzero q e =
      cond-not (is_zero_ℤ (get_or r c (pos 0))) (fine r) _ ((is_zero_ℤ-not-iff (get_or r c (pos 0))).1 nonzero)
      ∙ ap (λ l. judged (every small l) l) (sym e)

-- ---- all settled rows

module _ (p : Pivot) (rest : List Pivot) (r q : List ℤ) where
  pub reduce-next : reduce_by_of p r ≡ judged true q → reduce_all_of (p ∷ rest) r ≡ reduce_all_of rest q
  unfolding reduce_all_of
  reduce-next e = ap (λ o. and_on o (reduce_all_of rest)) e

  pub reduce-passed : {limit : ℕ} → reduce_by_of p r ≡ passed limit → reduce_all_of (p ∷ rest) r ≡ passed limit
  unfolding reduce_all_of
  reduce-passed e = ap (λ o. and_on o (reduce_all_of rest)) e
