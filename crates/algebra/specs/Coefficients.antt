-- The coefficients of polynomials: those of each operation's result, the highest and the lowest nonzero one.
--
-- Main definitions
--   alternate k a   a for even k, -a for odd k
--   Within p m      every coefficient of p past power m is zero
--
-- Main statements
--   coeff-add, coeff-scale, coeff-negate, coeff-mirror   the coefficients of a sum, a multiple, the negative, the mirror image
--   coeff-shift_by-zero, coeff-shift_by-suc   the coefficients of a shift, from those of the shift of the rest
--   coeff-mul        the coefficients of a product are the convolution of those of the factors
--   ext-coeff        lists of one length with the same coefficients are equal
--   coeff-degree, coeff-past-degree   the leading coefficient stands at the degree, and only zeros stand past it
--   degree-unique    these two properties characterise the degree
--   lead-iff         the leading coefficient is zero exactly if the polynomial is
--   degree-mul, lead-mul, mul-nonzero   degree and leading coefficient of a product; a product of nonzero polynomials is nonzero
--   lowest-iff, lowest-place   the lowest nonzero coefficient and the zeros below its place
use Rattle.std.specs.Prelude.{◌≡◌, refl, ◌≢◌, ◌↔◌, ℕ, zero, suc, ◌+◌, ◌-◌, ◌≤◌, ◌<◌, Bool, true, false, not, cond, [], ◌∷◌, T, length, take, drop, ℤ, pos, neg_ℤ, ◌+ℤ◌, ◌*ℤ◌}
use Rattle.std.proofs.Common.{sym, ◌∙◌, ap, ap₂, not-suc-le-zero, le_of_suc-le-suc, zero-add, suc-add, le_antisymm, T_not, get_or-take, get_or-drop, ext_get_or}
use Rattle.std.proofs.Math.Path.{fun_ext}
use Rattle.std.proofs.Math.Logic.{by_cases}
use Rattle.std.proofs.Math.Nat.{sub-zero, suc-sub-suc}
use native.Mathlib.Omega.{arith, by_contra}
use Rattle.std.proofs.Math.Dec.{not_T}
use Rattle.std.proofs.Math.ListN.{get_or-map, get_or-eq_default}
use Rattle.std.proofs.Math.IntN.{+ℤ_idl, +ℤ_idr, *ℤ-zero, zero-*ℤ}
use Rattle.algebra.specs.Integers.{ringℤ, *ℤ-nonzero}
use Rattle.lists.specs.Tests.{dec-T}
use Rattle.algebra.specs.Sums.{sum_below, sum_below-front, sum_below-zeros}
use Rattle.algebra.specs.Polynomials.{Polynomial, coeff, add, scale, negate, mirror, mul, shift_by}
use Rattle.algebra.specs.Polynomials.{is_zero_ℤ, is_zero_of, degree, lead, lowest}
use Rattle.algebra.specs.Polynomials.{is_zero_ℤ-iff, is_zero_ℤ-not-iff, is_zero-cons, is_zero-coeff, coeff-is_zero}
use Rattle.algebra.specs.Polynomials.{is_zero-mul-left, is_zero-mul-right}

-- ---- coefficients of the operations' results

pub coeff-nil : (k : ℕ) → coeff [] k ≡ pos 0
unfolding coeff
coeff-nil k = refl

pub coeff-past-length : (p : Polynomial) (k : ℕ) → length p ≤ k → coeff p k ≡ pos 0
unfolding coeff
coeff-past-length p k h = get_or-eq_default p (pos 0) h

pub coeff-cons-zero : (a : ℤ) (p : Polynomial) → coeff (a ∷ p) 0 ≡ a
unfolding coeff
coeff-cons-zero a p = refl

pub coeff-cons-suc : (a : ℤ) (p : Polynomial) (k : ℕ) → coeff (a ∷ p) (suc k) ≡ coeff p k
unfolding coeff
coeff-cons-suc a p k = refl

pub coeff-take : (n : ℕ) (p : Polynomial) (k : ℕ) → k < n → coeff (take n p) k ≡ coeff p k
unfolding coeff
coeff-take n p k h = get_or-take n p k (pos 0) h

pub coeff-drop : (n : ℕ) (p : Polynomial) (k : ℕ) → coeff (drop n p) k ≡ coeff p (n + k)
unfolding coeff
coeff-drop n p k = get_or-drop n p k (pos 0)

pub coeff-add : (p q : Polynomial) (k : ℕ) → coeff (add p q) k ≡ coeff p k +ℤ coeff q k
unfolding coeff add
coeff-add [] q k = sym (+ℤ_idl (coeff q k))
coeff-add (a ∷ p) [] k = sym (+ℤ_idr (coeff (a ∷ p) k))
coeff-add (a ∷ p) (b ∷ q) zero = refl
coeff-add (a ∷ p) (b ∷ q) (suc k) = coeff-add p q k

pub coeff-scale : (c : ℤ) (p : Polynomial) (k : ℕ) → coeff (scale c p) k ≡ c *ℤ coeff p k
unfolding coeff scale
coeff-scale c [] k = sym (*ℤ-zero c)
coeff-scale c (a ∷ p) zero = refl
coeff-scale c (a ∷ p) (suc k) = coeff-scale c p k

pub coeff-negate : (p : Polynomial) (k : ℕ) → coeff (negate p) k ≡ neg_ℤ (coeff p k)
unfolding coeff negate
coeff-negate p k = get_or-map neg_ℤ p k (pos 0)

-- a for even k and -a for odd k.
unfoldable pub alternate : ℕ → ℤ → ℤ
alternate zero a = a
alternate (suc k) a = neg_ℤ (alternate k a)

pub coeff-mirror : (p : Polynomial) (k : ℕ) → coeff (mirror p) k ≡ alternate k (coeff p k)
unfolding coeff mirror alternate
coeff-mirror [] zero = refl
coeff-mirror [] (suc k) = ap neg_ℤ (coeff-mirror [] k)
coeff-mirror (a ∷ p) zero = refl
coeff-mirror (a ∷ p) (suc k) = coeff-negate (mirror p) k ∙ ap neg_ℤ (coeff-mirror p k)

pub ext-coeff : (p q : Polynomial) → length p ≡ length q → ((k : ℕ) → coeff p k ≡ coeff q k) → p ≡ q
unfolding coeff
ext-coeff p q e h = ext_get_or (pos 0) p q e (λ i _. h i)

pub coeff-mul-zero : (a : ℤ) (p q : Polynomial) → coeff (mul (a ∷ p) q) 0 ≡ a *ℤ coeff q 0
unfolding mul coeff
coeff-mul-zero a p q = coeff-add (scale a q) (pos 0 ∷ mul p q) 0 ∙ +ℤ_idr (coeff (scale a q) 0) ∙ coeff-scale a q 0

pub coeff-mul-suc : (a : ℤ) (p q : Polynomial) (k : ℕ) → coeff (mul (a ∷ p) q) (suc k) ≡ a *ℤ coeff q (suc k) +ℤ coeff (mul p q) k
unfolding mul coeff
coeff-mul-suc a p q k = coeff-add (scale a q) (pos 0 ∷ mul p q) (suc k) ∙ ap (λ e. e +ℤ coeff (mul p q) k) (coeff-scale a q (suc k))

-- By Horner's rule: the coefficients of a + (n + c) s, where s is the shift of the rest.
pub coeff-shift_by-zero : (c a : ℤ) (p : Polynomial) → coeff (shift_by c (a ∷ p)) 0 ≡ a +ℤ c *ℤ coeff (shift_by c p) 0
unfolding shift_by
coeff-shift_by-zero c a p = step (shift_by c p)
  where
    step : (s : Polynomial) → coeff (add (a ∷ []) (add (pos 0 ∷ s) (scale c s))) 0 ≡ a +ℤ c *ℤ coeff s 0
    step s = simp (coeff-add, coeff-scale, coeff-cons-zero, +ℤ_idl)

pub coeff-shift_by-suc : (c a : ℤ) (p : Polynomial) (k : ℕ)
    → coeff (shift_by c (a ∷ p)) (suc k) ≡ coeff (shift_by c p) k +ℤ c *ℤ coeff (shift_by c p) (suc k)
unfolding shift_by
coeff-shift_by-suc c a p k = step (shift_by c p)
  where
    step : (s : Polynomial) → coeff (add (a ∷ []) (add (pos 0 ∷ s) (scale c s))) (suc k) ≡ coeff s k +ℤ c *ℤ coeff s (suc k)
    step s = simp (coeff-add, coeff-scale, coeff-cons-suc, coeff-nil, +ℤ_idl)

-- The term i of the convolution for the coefficient k of p q.
abbrev term : Polynomial → Polynomial → ℕ → ℕ → ℤ
term p q k i = coeff p i *ℤ coeff q (k - i)

-- The coefficients of a product: the convolution of those of the factors.
pub coeff-mul : (p q : Polynomial) (k : ℕ) → coeff (mul p q) k ≡ sum_below (suc k) (λ i. coeff p i *ℤ coeff q (k - i))
unfolding coeff mul sum_below
coeff-mul [] q k = sym (sum_below-zeros (suc k) (term [] q k) (λ i _. zero-*ℤ (coeff q (k - i))))
coeff-mul (a ∷ p) q zero = coeff-mul-zero a p q ∙ sym (+ℤ_idr (a *ℤ coeff q 0))
coeff-mul (a ∷ p) q (suc k) =
    coeff-mul-suc a p q k ∙ ap₂ ◌+ℤ◌ first (coeff-mul p q k ∙ ap (sum_below (suc k)) (fun_ext later))
    ∙ sym (sum_below-front (suc k) (term (a ∷ p) q (suc k)))
  where
    first : a *ℤ coeff q (suc k) ≡ term (a ∷ p) q (suc k) 0
    first = ap (λ m. a *ℤ coeff q m) (sym (sub-zero (suc k)))

    later : (i : ℕ) → term p q k i ≡ term (a ∷ p) q (suc k) (suc i)
    later i = ap (λ m. coeff p i *ℤ coeff q m) (sym (suc-sub-suc k i))

-- ---- degree and leading coefficient

-- No coefficient of p past power m is left.
abbrev pub Within : Polynomial → ℕ → Type 0
Within p m = (k : ℕ) → m < k → coeff p k ≡ pos 0

pub coeff-degree : (p : Polynomial) → coeff p (degree p) ≡ lead p
unfolding coeff degree lead
coeff-degree [] = refl
coeff-degree (a ∷ p) = cases (is_zero_of p) (coeff-degree p)
  where
    cases : (t : Bool) → coeff p (degree p) ≡ lead p → coeff (a ∷ p) (cond t 0 (suc (degree p))) ≡ cond t a (lead p)
    cases true h = refl
    cases false h = h

pub coeff-past-degree : (p : Polynomial) → Within p (degree p)
unfolding coeff degree
coeff-past-degree [] k h = refl
coeff-past-degree (a ∷ p) zero h = absurd (not-suc-le-zero h)
coeff-past-degree (a ∷ p) (suc k) h = cases (is_zero_of p) (is_zero-coeff p) h (coeff-past-degree p k)
  where
    cases : (t : Bool) → (T t → (i : ℕ) → coeff p i ≡ pos 0) → cond t 0 (suc (degree p)) < suc k → (degree p < k → coeff p k ≡ pos 0)
        → coeff p k ≡ pos 0
    cases true z h r = z tt k
    cases false z h r = r (le_of_suc-le-suc h)

pub lead-is_zero : (p : Polynomial) → T (is_zero_of p) → lead p ≡ pos 0
lead-is_zero p h = sym (coeff-degree p) ∙ is_zero-coeff p h (degree p)

pub is_zero-lead : (p : Polynomial) → lead p ≡ pos 0 → T (is_zero_of p)
unfolding lead is_zero_of
is_zero-lead [] e = tt
is_zero-lead (a ∷ p) e = cases (is_zero_of p) (λ h. h) (T_not (is_zero_of p)) e (is_zero-lead p)
  where
    cases : (t : Bool) → (T t → T (is_zero_of p)) → (T (not t) → T (is_zero_of p) → ⊥) → cond t a (lead p) ≡ pos 0 → (lead p ≡ pos 0 → T (is_zero_of p))
        → T (is_zero_of (a ∷ p))
    cases true z n e r = (is_zero-cons a p).1 (e, z tt)
    cases false z n e r = absurd (n tt (r e))

pub lead-iff : (p : Polynomial) → (lead p ≡ pos 0) ↔ T (is_zero_of p)
lead-iff p = (is_zero-lead p, lead-is_zero p)

pub lead-nonzero : (p : Polynomial) → T (not (is_zero_of p)) ↔ (lead p ≢ pos 0)
lead-nonzero p = (λ h e. T_not (is_zero_of p) h (is_zero-lead p e), λ n. not_T (is_zero_of p) (λ h. n (lead-is_zero p h)))

pub degree-is_zero : (p : Polynomial) → T (is_zero_of p) → degree p ≡ 0
unfolding degree
degree-is_zero [] h = refl
degree-is_zero (a ∷ p) h = cases (is_zero_of p) ((is_zero-cons a p).0 h).1
  where
    cases : (t : Bool) → T t → cond t 0 (suc (degree p)) ≡ 0
    cases true h = refl
    cases false h = absurd h

pub degree-lt-length : (a : ℤ) (p : Polynomial) → degree (a ∷ p) < length (a ∷ p)
unfolding degree
degree-lt-length a [] = omega arith
degree-lt-length a (b ∷ p) = cases (is_zero_of (b ∷ p)) (degree-lt-length b p)
  where
    cases : (t : Bool) → degree (b ∷ p) < suc (length p) → cond t 0 (suc (degree (b ∷ p))) < suc (suc (length p))
    cases true h = omega arith
    cases false h = omega arith

-- The degree is at least every place of a nonzero coefficient ..
pub place-le-degree : (p : Polynomial) (k : ℕ) → coeff p k ≢ pos 0 → k ≤ degree p
place-le-degree p k n = by_contra k (degree p) (λ l. n (coeff-past-degree p k l))

-- .. and at most every bound of such places.
pub degree-le : (p : Polynomial) (n : ℕ) → Within p n → degree p ≤ n
degree-le p n h = by_contra (degree p) n (λ l. above l (h (degree p) l))
  where
    above : n < degree p → coeff p (degree p) ≡ pos 0 → ⊥
    above l e = omega (arith, degree-is_zero p (is_zero-lead p (sym (coeff-degree p) ∙ e)))

pub degree-unique : (p : Polynomial) (n : ℕ) → coeff p n ≢ pos 0 → Within p n → degree p ≡ n
degree-unique p n c h = le_antisymm (degree-le p n h) (place-le-degree p n c)

-- ---- the degree and the leading coefficient of a product

-- A product by a polynomial whose coefficients past power 0 are zero.
coeff-mul-constant : (a : ℤ) (p q : Polynomial) (k : ℕ) → T (is_zero_of p) → coeff (mul (a ∷ p) q) k ≡ a *ℤ coeff q k
coeff-mul-constant a p q zero z = coeff-mul-zero a p q
coeff-mul-constant a p q (suc k) z =
    coeff-mul-suc a p q k ∙ ap (λ e. a *ℤ coeff q (suc k) +ℤ e) (is_zero-coeff (mul p q) (is_zero-mul-left p q z) k)
    ∙ +ℤ_idr (a *ℤ coeff q (suc k))

-- Where no coefficient of q past n is left, the next coefficient of (a + n p) q comes from p q alone.
coeff-mul-tail : (a : ℤ) (p q : Polynomial) (k : ℕ) → coeff q (suc k) ≡ pos 0 → coeff (mul (a ∷ p) q) (suc k) ≡ coeff (mul p q) k
coeff-mul-tail a p q k z = coeff-mul-suc a p q k ∙ ap (λ e. a *ℤ e +ℤ coeff (mul p q) k) z ∙ simp ringℤ

within-zero : (a : ℤ) (p : Polynomial) → Within (a ∷ p) 0 → T (is_zero_of p)
unfolding coeff
within-zero a p h = coeff-is_zero p (λ k. h (suc k) (omega arith))

within-suc : (a : ℤ) (p : Polynomial) (m : ℕ) → Within (a ∷ p) (suc m) → Within p m
unfolding coeff
within-suc a p m h k l = h (suc k) (omega arith)

pub mul-within : (p q : Polynomial) (m n : ℕ) → Within p m → Within q n → Within (mul p q) (m + n)
unfolding mul
mul-within [] q m n h g k l = coeff-nil k
mul-within (a ∷ p) q m n h g zero l = absurd (not-suc-le-zero l)
mul-within (a ∷ p) q zero n h g (suc k) l =
    coeff-mul-constant a p q (suc k) (within-zero a p h) ∙ ap (λ e. a *ℤ e) (g (suc k) (omega arith)) ∙ *ℤ-zero a
mul-within (a ∷ p) q (suc m) n h g (suc k) l =
    coeff-mul-tail a p q k (g (suc k) (omega arith)) ∙ mul-within p q m n (within-suc a p m h) g k (omega arith)

pub coeff-mul-top : (p q : Polynomial) (m n : ℕ) → Within p m → Within q n → coeff (mul p q) (m + n) ≡ coeff p m *ℤ coeff q n
unfolding mul coeff
coeff-mul-top [] q m n h g = sym (zero-*ℤ (coeff q n))
coeff-mul-top (a ∷ p) q zero n h g = ap (coeff (mul (a ∷ p) q)) (zero-add n) ∙ coeff-mul-constant a p q n (within-zero a p h)
coeff-mul-top (a ∷ p) q (suc m) n h g =
    ap (coeff (mul (a ∷ p) q)) (suc-add m n) ∙ coeff-mul-tail a p q (m + n) (g (suc (m + n)) (omega arith))
    ∙ coeff-mul-top p q m n (within-suc a p m h) g

pub coeff-mul-degrees : (p q : Polynomial) → coeff (mul p q) (degree p + degree q) ≡ lead p *ℤ lead q
coeff-mul-degrees p q =
    coeff-mul-top p q (degree p) (degree q) (coeff-past-degree p) (coeff-past-degree q) ∙ ap₂ ◌*ℤ◌ (coeff-degree p) (coeff-degree q)

coeff-mul-nonzero : (p q : Polynomial) → T (not (is_zero_of p)) → T (not (is_zero_of q)) → coeff (mul p q) (degree p + degree q) ≢ pos 0
coeff-mul-nonzero p q f g e = *ℤ-nonzero ((lead-nonzero p).0 f) ((lead-nonzero q).0 g) (sym (coeff-mul-degrees p q) ∙ e)

pub degree-mul : (p q : Polynomial) → T (not (is_zero_of p)) → T (not (is_zero_of q)) → degree (mul p q) ≡ degree p + degree q
degree-mul p q f g =
    degree-unique (mul p q) (degree p + degree q) (coeff-mul-nonzero p q f g)
    (mul-within p q (degree p) (degree q) (coeff-past-degree p) (coeff-past-degree q))

pub mul-nonzero : (p q : Polynomial) → T (not (is_zero_of p)) → T (not (is_zero_of q)) → T (not (is_zero_of (mul p q)))
mul-nonzero p q f g = not_T (is_zero_of (mul p q)) (λ z. coeff-mul-nonzero p q f g (is_zero-coeff (mul p q) z (degree p + degree q)))

-- The leading coefficient of a product, zero or not.
pub lead-mul : (p q : Polynomial) → lead (mul p q) ≡ lead p *ℤ lead q
lead-mul p q = by_cases (dec-T (is_zero_of p)) left (λ f. by_cases (dec-T (is_zero_of q)) right (neither f))
  where
    left : T (is_zero_of p) → lead (mul p q) ≡ lead p *ℤ lead q
    left z = lead-is_zero (mul p q) (is_zero-mul-left p q z) ∙ sym (ap (λ e. e *ℤ lead q) (lead-is_zero p z) ∙ zero-*ℤ (lead q))

    right : T (is_zero_of q) → lead (mul p q) ≡ lead p *ℤ lead q
    right z = lead-is_zero (mul p q) (is_zero-mul-right p q z) ∙ sym (ap (λ e. lead p *ℤ e) (lead-is_zero q z) ∙ *ℤ-zero (lead p))

    neither : ¬ T (is_zero_of p) → ¬ T (is_zero_of q) → lead (mul p q) ≡ lead p *ℤ lead q
    neither f g =
        sym (coeff-degree (mul p q)) ∙ ap (coeff (mul p q)) (degree-mul p q (not_T (is_zero_of p) f) (not_T (is_zero_of q) g))
        ∙ coeff-mul-degrees p q

-- ---- the lowest nonzero coefficient

pub is_zero-lowest : (p : Polynomial) → lowest p ≡ pos 0 → T (is_zero_of p)
unfolding lowest is_zero_of
is_zero-lowest [] e = tt
is_zero-lowest (a ∷ p) e = cases (is_zero_ℤ a) (is_zero_ℤ-iff a).0 (is_zero_ℤ-not-iff a).0 e (is_zero-lowest p)
  where
    cases : (t : Bool) → (T t → a ≡ pos 0) → (T (not t) → a ≢ pos 0) → cond t (lowest p) a ≡ pos 0 → (lowest p ≡ pos 0 → T (is_zero_of p))
        → T (is_zero_of (a ∷ p))
    cases true z n e r = (is_zero-cons a p).1 (z tt, r e)
    cases false z n e r = absurd (n tt e)

pub lowest-is_zero : (p : Polynomial) → T (is_zero_of p) → lowest p ≡ pos 0
unfolding lowest
lowest-is_zero [] h = refl
lowest-is_zero (a ∷ p) h =
    let e = (is_zero-cons a p).0 h in
    cases (is_zero_ℤ a) e.0 (lowest-is_zero p e.1)
  where
    cases : (t : Bool) → a ≡ pos 0 → lowest p ≡ pos 0 → cond t (lowest p) a ≡ pos 0
    cases true e r = r
    cases false e r = e

pub lowest-iff : (p : Polynomial) → (lowest p ≡ pos 0) ↔ T (is_zero_of p)
lowest-iff p = (is_zero-lowest p, lowest-is_zero p)

-- The coefficients below the place of the lowest nonzero one are zero.
pub lowest-place : (p : Polynomial) → T (not (is_zero_of p)) → (k : ℕ) × (coeff p k ≡ lowest p) × ((i : ℕ) → i < k → coeff p i ≡ pos 0)
unfolding lowest is_zero_of coeff
lowest-place [] h = absurd h
lowest-place (a ∷ p) h = cases (is_zero_ℤ a) (is_zero_ℤ-iff a).0 (λ e. lowest-place p (tail e))
  where
    Place : Polynomial → ℤ → Type 0
    Place q c = (k : ℕ) × (coeff q k ≡ c) × ((i : ℕ) → i < k → coeff q i ≡ pos 0)

    tail : a ≡ pos 0 → T (not (is_zero_of p))
    tail e = not_T (is_zero_of p) (λ z. T_not (is_zero_of (a ∷ p)) h ((is_zero-cons a p).1 (e, z)))

    later : a ≡ pos 0 → Place p (lowest p) → Place (a ∷ p) (lowest p)
    later e (k, c, b) = (suc k, c, below)
      where
        below : (i : ℕ) → i < suc k → coeff (a ∷ p) i ≡ pos 0
        below zero l = e
        below (suc i) l = b i (le_of_suc-le-suc l)

    cases : (t : Bool) → (T t → a ≡ pos 0) → (a ≡ pos 0 → Place p (lowest p)) → Place (a ∷ p) (cond t (lowest p) a)
    cases true z r = later (z tt) (r (z tt))
    cases false z r = (0, refl, λ i l. absurd (not-suc-le-zero l))
