-- Where an integer root cannot be, by Horner's rule on the sizes of the coefficients.
--
-- Main definitions
--   Top p n             past place n the polynomial p has no coefficient but 0
--   RootsBelow p n      every integer root of p is smaller in size than n
--   NoneBetween p n m   no integer of size n to m - 1 is a root of p
--   Ranged p n m i e f  at every integer of such a size, the coefficients from i on have a value of size e at least, and f at most
--                       where f is not past C
--
-- Main statements
--   top-degree, top-last          the degree is such a place, and so is the last one
--   degree-inside, top-positive   the highest coefficient of a nonzero polynomial that is not 0 has a place, and is not 0
--   eval-top            the coefficients from it on have its value
--   horner-next         Horner's rule: one coefficient more
--   grows               a value past C is followed by such values only, at an integer of size 2 or more
--   never_back          a value past 16 C is not followed by 0, for 16 coefficients
--   ranged-start, ranged-next   Horner's rule on ranges: its start, and one coefficient more
--   ranged-none, ranged-past    where e is positive at the end, or past C on the way, there is no root
--   none-empty, none-roots      no integer is of a size from n to n - 1; a gap from below every root to above every root
use Rattle.std.specs.Prelude.{ℕ, zero, suc, ◌+◌, ◌*◌, ◌-◌, ◌≤◌, ◌<◌, ◌≡◌, refl, ◌≢◌, ◌⊎◌, Bool, true, false, cond, not, [], ◌∷◌, T, length, drop, pos, neg_ℤ, nat_abs, ◌+ℤ◌, ◌*ℤ◌}
use Rattle.std.proofs.Common.{zero-le, sym, ◌∙◌, ap, inl, inr, le_refl, le_trans, le_of_eq, mul_comm, mul-le-mul, le-mul_of_pos_right, lt_of_not-le, pos_of_ne-zero, arith, length-drop}
use Rattle.std.proofs.Math.Logic.{by_cases}
use Rattle.std.proofs.Math.Decide.{dec_le}
use Rattle.std.proofs.Math.ListN.{get_or}
use Rattle.std.proofs.Math.IntN.{ℤ, +ℤ_comm, +ℤ-neg_ℤ_cancel}
use Rattle.algebra.specs.Integers.{ringℤ, nat_abs-+ℤ, nat_abs-*ℤ, nat_abs-neg_ℤ, nat_abs-zero}
use Rattle.algebra.specs.Polynomials.{Polynomial, coeff, eval, is_zero_of, lead, degree}
use Rattle.algebra.specs.Vanishing.{eval-constant}
use Rattle.algebra.specs.Coefficients.{coeff-degree, degree-lt-length, lead-nonzero}
use Rattle.lists.specs.Taken.{drop-next}
use Rattle.lists.specs.Tests.{every, every_drop, T-&&}
use Rattle.rules.specs.Limits.{bound, small}
use Rattle.polynomials.specs.Content.{small_at}

abbrev pub Top : Polynomial → ℕ → Type 0
Top p n = (n < length p) × ((z : ℤ) → eval (drop n p) z ≡ get_or p n (pos 0))

abbrev pub RootsBelow : Polynomial → ℕ → Type 0
RootsBelow p n = (z : ℤ) → eval p z ≡ pos 0 → nat_abs z < n

abbrev pub NoneBetween : Polynomial → ℕ → ℕ → Type 0
NoneBetween p n m = (z : ℤ) → eval p z ≡ pos 0 → n ≤ nat_abs z → nat_abs z < m → ⊥

abbrev pub Ranged : Polynomial → ℕ → ℕ → ℕ → ℕ → ℕ → Type 0
Ranged p n m i e f =
    (z : ℤ) → n ≤ nat_abs z → nat_abs z < m → (e ≤ nat_abs (eval (drop i p) z)) × (f ≤ bound → nat_abs (eval (drop i p) z) ≤ f)

-- From the highest nonzero coefficient on there is only that one.
pub eval-top : (p : Polynomial) (z : ℤ) → eval (drop (degree p) p) z ≡ lead p
unfolding degree lead eval
eval-top [] z = refl
eval-top (a ∷ p) z = cases (is_zero_of p) (λ t. t) (eval-top p z)
  where
    cases : (b : Bool) → (T b → T (is_zero_of p)) → eval (drop (degree p) p) z ≡ lead p
        → eval (drop (cond b 0 (suc (degree p))) (a ∷ p)) z ≡ cond b a (lead p)
    cases true h _ = eval-constant a p z (h tt)
    cases false _ e = e

pub top-positive : (p : Polynomial) → T (not (is_zero_of p)) → 0 < nat_abs (get_or p (degree p) (pos 0))
unfolding coeff
top-positive p nonzero = pos_of_ne-zero (λ z. (lead-nonzero p).0 nonzero (sym (coeff-degree p) ∙ nat_abs-zero z))

pub degree-inside : (p : Polynomial) → T (not (is_zero_of p)) → degree p < length p
unfolding is_zero_of
degree-inside [] n = absurd n
degree-inside (a ∷ p) n = degree-lt-length a p

-- In size b is at most a + b and a together.
value-and-rest : (a b : ℤ) → nat_abs b ≤ nat_abs (a +ℤ b) + nat_abs a
value-and-rest a b = omega (arith, ap nat_abs split, nat_abs-+ℤ (a +ℤ b) (neg_ℤ a), nat_abs-neg_ℤ a)
  where
    split : b ≡ a +ℤ b +ℤ neg_ℤ a
    split = sym (ap (λ x. x +ℤ neg_ℤ a) (+ℤ_comm a b) ∙ +ℤ-neg_ℤ_cancel b a)

-- And so is a.
rest-and-value : (a b : ℤ) → nat_abs a ≤ nat_abs (a +ℤ b) + nat_abs b
rest-and-value a b = rw (+ℤ_comm a b) (value-and-rest b a)

pub top-degree : (p : Polynomial) → T (not (is_zero_of p)) → Top p (degree p)
unfolding coeff
top-degree p nonzero = (degree-inside p nonzero, λ z. eval-top p z ∙ sym (coeff-degree p))

pub top-last : (p : Polynomial) → 0 < length p → Top p (length p - 1)
unfolding eval
top-last p h = (omega arith, λ z. last p (length p - 1) z (omega arith))
  where
    last : (q : Polynomial) (k : ℕ) (z : ℤ) → length q ≡ suc k → eval (drop k q) z ≡ get_or q k (pos 0)
    last [] k z e = absurd (omega arith)
    last (a ∷ []) zero z e = simp ringℤ
    last (a ∷ b ∷ q) zero z e = absurd (omega arith)
    last (a ∷ q) (suc k) z e = last q k z (omega arith)

-- Horner's rule: one coefficient more.
pub horner-next : (p : Polynomial) (z v : ℤ) (i : ℕ) → i < length p → eval (drop (i + 1) p) z ≡ v
    → eval (drop i p) z ≡ v *ℤ z +ℤ get_or p i (pos 0)
unfolding eval
horner-next p z v i h e = ap (λ q. eval q z) (drop-next p i (pos 0) h) ∙ ap (λ w. get_or p i (pos 0) +ℤ z *ℤ w) e ∙ simp ringℤ

-- ---- values that never come back to 0

-- The size of a value with one coefficient more.
module _ (a z v : ℤ) where
  next-most : nat_abs (a +ℤ z *ℤ v) ≤ nat_abs a + nat_abs z * nat_abs v
  next-most = omega (arith, nat_abs-+ℤ a (z *ℤ v), nat_abs-*ℤ z v)

  next-least : nat_abs z * nat_abs v ≤ nat_abs (a +ℤ z *ℤ v) + nat_abs a
  next-least = omega (arith, value-and-rest a (z *ℤ v), nat_abs-*ℤ z v)

pub grows : (p : Polynomial) (z : ℤ) (i : ℕ) → T (every small p) → 2 ≤ nat_abs z → bound < nat_abs (eval (drop i p) z)
    → bound < nat_abs (eval p z)
unfolding eval every
grows p z zero t two h = h
grows [] z (suc i) t two h = h
grows (a ∷ p) z (suc i) t two h =
    let (here, others) = (T-&& (small a) (every small p)).0 t in
    let more = grows p z i others two h in
    omega (arith, next-least a z (eval p z), mul-le-mul two (le_refl (nat_abs (eval p z))), small_at (a ∷ p) t 0)

-- At -1, 0 and 1 a value has at most the sizes of the coefficients together.
stays : (p : Polynomial) (z : ℤ) → T (every small p) → nat_abs z ≤ 1 → nat_abs (eval p z) ≤ length p * bound
unfolding eval every
stays [] z t one = zero-le
stays (a ∷ p) z t one =
    let (here, others) = (T-&& (small a) (every small p)).0 t in
    let rest = stays p z others one in
    omega (arith, next-most a z (eval p z), mul-le-mul one (le_refl (nat_abs (eval p z))), small_at (a ∷ p) t 0)

pub never_back : (p : Polynomial) (z : ℤ) (i : ℕ) → T (every small p) → length p ≤ 16 → 16 * bound < nat_abs (eval (drop i p) z)
    → eval p z ≢ pos 0
never_back p z i t short h root =
    by_cases (dec_le 2 (nat_abs z))
    (λ two. omega (arith, grows p z i t two (omega arith), ap nat_abs root))
    (λ one. omega (arith, stays (drop i p) z (every_drop small i p t) (omega (arith, lt_of_not-le one)), length-drop i p))

-- ---- Horner's rule on ranges

module _ (p : Polynomial) (n m : ℕ) where
  pub ranged-start : (i : ℕ) → Top p i → Ranged p n m i (nat_abs (get_or p i (pos 0))) (nat_abs (get_or p i (pos 0)))
  ranged-start i top z _ _ = (le_of_eq (ap nat_abs (sym (top.1 z))), λ _. le_of_eq (ap nat_abs (top.1 z)))

  -- e' is a distance of the coefficient's size from the sizes e n to f m, and f' the sum of f m and that size.
  pub ranged-next : (i e f e' f' : ℕ) → T (every small p) → 0 < m → i < length p → Ranged p n m (i + 1) e f
      → (e' + nat_abs (get_or p i (pos 0)) ≤ e * n) ⊎ (e' + f * m ≤ nat_abs (get_or p i (pos 0))) ⊎ (e' ≡ 0)
      → (f' ≤ bound → f' ≡ f * m + nat_abs (get_or p i (pos 0))) → Ranged p n m i e' f'
  unfolding eval
  ranged-next i e f e' f' t positive k ranged apart sum z h below = rw (drop-next p i (pos 0) k) (least apart, most)
    where
      a : ℤ
      a = get_or p i (pos 0)

      rest : ℤ
      rest = eval (drop (i + 1) p) z

      low : e * n ≤ nat_abs z * nat_abs rest
      low = le_trans (mul-le-mul (ranged z h below).0 h) (le_of_eq (mul_comm (nat_abs rest) (nat_abs z)))

      high : f * m ≤ bound → nat_abs z * nat_abs rest ≤ f * m
      high s =
          let inside = (ranged z h below).1 (le_trans (le-mul_of_pos_right f positive) s) in
          le_trans (le_of_eq (mul_comm (nat_abs z) (nat_abs rest))) (mul-le-mul inside (omega arith))

      least : (e' + nat_abs a ≤ e * n) ⊎ (e' + f * m ≤ nat_abs a) ⊎ (e' ≡ 0) → e' ≤ nat_abs (a +ℤ z *ℤ rest)
      least (inl d) = omega (arith, next-least a z rest, low)
      least (inr (inl d)) =
          let w = high (omega (arith, small_at p t i)) in
          omega (arith, rest-and-value a (z *ℤ rest), nat_abs-*ℤ z rest)
      least (inr (inr d)) = omega arith

      most : f' ≤ bound → nat_abs (a +ℤ z *ℤ rest) ≤ f'
      most s = let e = sum s in let w = high (omega arith) in omega (arith, next-most a z rest)

  pub ranged-none : (e f : ℕ) → 0 < e → Ranged p n m 0 e f → NoneBetween p n m
  ranged-none e f positive ranged z root h below = omega (arith, (ranged z h below).0, ap nat_abs root)

  pub ranged-past : (i e f : ℕ) → T (every small p) → 2 ≤ n → bound < e → Ranged p n m i e f → NoneBetween p n m
  ranged-past i e f t two past ranged z root h below =
      omega (arith, grows p z i t (omega arith) (omega (arith, (ranged z h below).0)), ap nat_abs root)

-- ---- gaps

pub none-empty : (p : Polynomial) (n m : ℕ) → m ≤ n → NoneBetween p n m
none-empty p n m e z root h below = omega arith

-- From below the middle to above every root.
pub none-roots : (p : Polynomial) (n k m : ℕ) → NoneBetween p n k → NoneBetween p k m → RootsBelow p m → RootsBelow p n
none-roots p n k m first second below z root =
    by_cases (dec_le n (nat_abs z))
    (λ h. by_cases (dec_le k (nat_abs z)) (λ i. absurd (second z root i (below z root))) (λ i. absurd (first z root h (lt_of_not-le i))))
    lt_of_not-le
