-- Where a polynomial vanishes: the factor theorem, the number of integer roots and their divisibility.
--
-- Main statements
--   factor                  p(x) = (x - r) q(x) + p(r) with q the quotient of p by n - r
--   quotient-length, quotient-last   the quotient is as long as p, and its last entry is 0
--   quotient-nonzero        the quotient of a nonzero polynomial at a root is nonzero
--   degree-quotient         and its degree is one less
--   roots-at-most-degree    a nonzero polynomial has at most as many different integer roots as its degree
--   root-divides-lowest     a nonzero integer root divides the lowest nonzero coefficient
--   lowest-positive         which is indeed not 0 for a nonzero polynomial
--   nonzero-past-lowest     a nonzero polynomial is nonzero at every integer larger in size than that coefficient
--   zero-everywhere         a polynomial is zero exactly when it vanishes at every integer
use Rattle.std.specs.Prelude.{◌≡◌, refl, ◌≢◌, ◌↔◌, suc, ◌*◌, ◌≤◌, ◌<◌, Bool, true, false, not, ◌&&◌, cond, T, length, ℤ, pos, nat_abs, ◌+ℤ◌, ◌-ℤ◌, ◌*ℤ◌}
use Rattle.std.proofs.Common.{sym, ◌∙◌, ap, ap₂, subst, ⊎_elim, zero-le, T_not, pos_of_ne-zero, arith}
use Rattle.std.proofs.Math.Logic.{by_cases}
use Rattle.std.specs.Int.{◌∣◌}
use mathlib.Core.List.{List, [], ◌∷◌, Mem, Nodup, Pairwise-cons, mem-cons_self, mem-cons_of_mem}
use Rattle.std.proofs.Math.Dec.{not_T}
use Rattle.std.proofs.Math.Nat.{dvd-mul_right, le_of_dvd}
use Rattle.std.proofs.Math.IntN.{+ℤ_idl, +ℤ_idr, -ℤ-+ℤ_cancel}
use Rattle.algebra.specs.Integers.{ringℤ, neg_ℤ-unique, nat_abs-neg_ℤ, nat_abs-*ℤ, nat_abs-zero, no-zero-divisors, -ℤ-zero}
use Rattle.lists.specs.Tests.{dec-T, same_test}
use Rattle.algebra.specs.Polynomials.{Polynomial, is_zero_ℤ, coeff, eval, is_zero_of, degree, lowest, quotient}
use Rattle.algebra.specs.Polynomials.{is_zero_ℤ-iff, is_zero-cons, eval-is_zero}
use Rattle.algebra.specs.Coefficients.{is_zero-lowest}

-- ---- tests for zero

-- The two directions of `is_zero_ℤ-iff`.
pub is_zero_ℤ-sound : (a : ℤ) → T (is_zero_ℤ a) → a ≡ pos 0
is_zero_ℤ-sound a = (is_zero_ℤ-iff a).0

pub is_zero_ℤ-complete : (a : ℤ) → a ≡ pos 0 → T (is_zero_ℤ a)
is_zero_ℤ-complete a = (is_zero_ℤ-iff a).1

-- The value is the constant coefficient if the others are zero.
pub eval-constant : (a : ℤ) (p : Polynomial) (x : ℤ) → T (is_zero_of p) → eval (a ∷ p) x ≡ a
unfolding eval
eval-constant a p x z = rw (eval-is_zero p x z) (simp ringℤ)

-- A constant polynomial with a root is zero.
pub constant-root : (a : ℤ) (p : Polynomial) (r : ℤ) → T (is_zero_of p) → eval (a ∷ p) r ≡ pos 0 → T (is_zero_of (a ∷ p))
constant-root a p r z e = (is_zero-cons a p).1 (sym (eval-constant a p r z) ∙ e, z)

-- ---- the factor theorem

factor-at : (r : ℤ) (p : Polynomial) (y : ℤ) → eval p (y +ℤ r) ≡ y *ℤ eval (quotient r p) (y +ℤ r) +ℤ eval p r
unfolding eval quotient
factor-at r [] y = simp ringℤ
factor-at r (a ∷ p) y = ap (λ e. a +ℤ (y +ℤ r) *ℤ e) (factor-at r p y) ∙ step (eval (quotient r p) (y +ℤ r)) (eval p r)
  where
    step : (q e : ℤ) → a +ℤ (y +ℤ r) *ℤ (y *ℤ q +ℤ e) ≡ y *ℤ (e +ℤ (y +ℤ r) *ℤ q) +ℤ (a +ℤ r *ℤ e)
    step q e = simp ringℤ

pub factor : (p : Polynomial) (x r : ℤ) → eval p x ≡ (x -ℤ r) *ℤ eval (quotient r p) x +ℤ eval p r
factor p x r = subst (λ z. eval p z ≡ (x -ℤ r) *ℤ eval (quotient r p) z +ℤ eval p r) (-ℤ-+ℤ_cancel x r) (factor-at r p (x -ℤ r))

pub factor-root : (p : Polynomial) (x r : ℤ) → eval p r ≡ pos 0 → eval p x ≡ (x -ℤ r) *ℤ eval (quotient r p) x
factor-root p x r h = factor p x r ∙ rw h (+ℤ_idr ((x -ℤ r) *ℤ eval (quotient r p) x))

-- ---- the quotient

pub quotient-length : (r : ℤ) (p : Polynomial) → length (quotient r p) ≡ length p
unfolding quotient
quotient-length r [] = refl
quotient-length r (a ∷ p) = ap suc (quotient-length r p)

pub quotient-last : (r a : ℤ) (p : Polynomial) → coeff (quotient r (a ∷ p)) (length p) ≡ pos 0
unfolding quotient coeff eval
quotient-last r a [] = refl
quotient-last r a (b ∷ p) = quotient-last r b p

-- The quotient is zero exactly for a constant polynomial.
constant-of-quotient : (r a : ℤ) (p : Polynomial) → T (is_zero_of (quotient r (a ∷ p))) → T (is_zero_of p)
unfolding quotient is_zero_of
constant-of-quotient r a [] z = tt
constant-of-quotient r a (b ∷ p) z = constant-root b p r (constant-of-quotient r b p split.1) split.0
  where
    split : (eval (b ∷ p) r ≡ pos 0) × T (is_zero_of (quotient r (b ∷ p)))
    split = (is_zero-cons (eval (b ∷ p) r) (quotient r (b ∷ p))).0 z

quotient-of-constant : (r a : ℤ) (p : Polynomial) → T (is_zero_of p) → T (is_zero_of (quotient r (a ∷ p)))
unfolding quotient is_zero_of eval
quotient-of-constant r a [] z = tt
quotient-of-constant r a (b ∷ p) z =
    (is_zero-cons (eval (b ∷ p) r) (quotient r (b ∷ p))).1 (eval-is_zero (b ∷ p) r z, quotient-of-constant r b p ((is_zero-cons b p).0 z).1)

pub quotient-is_zero : (r a : ℤ) (p : Polynomial) → is_zero_of (quotient r (a ∷ p)) ≡ is_zero_of p
quotient-is_zero r a p =
    same_test (is_zero_of (quotient r (a ∷ p))) (is_zero_of p) (constant-of-quotient r a p) (quotient-of-constant r a p)

pub quotient-nonzero : (r : ℤ) (p : Polynomial) → T (not (is_zero_of p)) → eval p r ≡ pos 0 → T (not (is_zero_of (quotient r p)))
unfolding is_zero_of
quotient-nonzero r [] n e = absurd n
quotient-nonzero r (a ∷ p) n e =
    not_T (is_zero_of (quotient r (a ∷ p))) (λ z. T_not (is_zero_of (a ∷ p)) n (constant-root a p r (constant-of-quotient r a p z) e))

degree-of-quotient : (r a : ℤ) (p : Polynomial) → degree (quotient r (a ∷ p)) ≡ degree p
unfolding degree quotient
degree-of-quotient r a [] = refl
degree-of-quotient r a (b ∷ p) = ap₂ (λ z d. cond z 0 (suc d)) (quotient-is_zero r b p) (degree-of-quotient r b p)

pub degree-quotient : (r : ℤ) (p : Polynomial) → T (not (is_zero_of p)) → eval p r ≡ pos 0 → degree p ≡ suc (degree (quotient r p))
unfolding is_zero_of degree
degree-quotient r [] n e = absurd n
degree-quotient r (a ∷ p) n e = cases (is_zero_of p) (rw (quotient-is_zero r a p) at (quotient-nonzero r (a ∷ p) n e))
  where
    cases : (t : Bool) → T (not t) → cond t 0 (suc (degree p)) ≡ suc (degree (quotient r (a ∷ p)))
    cases true h = absurd h
    cases false h = ap suc (sym (degree-of-quotient r a p))

-- ---- the number of roots

pub roots-at-most-degree : (rs : List ℤ) (p : Polynomial) → T (not (is_zero_of p)) → Nodup rs →
    ((r : ℤ) → Mem r rs → eval p r ≡ pos 0) → length rs ≤ degree p
roots-at-most-degree [] p n d h = zero-le
roots-at-most-degree (r ∷ rs) p n d h = step (roots-at-most-degree rs (quotient r p) (quotient-nonzero r p n root) split.1 other)
  where
    root : eval p r ≡ pos 0
    root = h r mem-cons_self

    split : ((x : ℤ) → Mem x rs → r ≢ x) × Nodup rs
    split = Pairwise-cons.0 d

    other : (x : ℤ) → Mem x rs → eval (quotient r p) x ≡ pos 0
    other x m =
        ⊎_elim
        (λ z. absurd (split.0 x m (sym (-ℤ-zero x r z))))
        (λ z. z)
        (no-zero-divisors (x -ℤ r) (eval (quotient r p) x) (sym (factor-root p x r root) ∙ h x (mem-cons_of_mem r m)))

    step : length rs ≤ degree (quotient r p) → suc (length rs) ≤ degree p
    step k = omega (arith, degree-quotient r p n root)

-- ---- the lowest coefficient

pub root-divides-lowest : (p : Polynomial) (r : ℤ) → T (not (is_zero_of p)) → r ≢ pos 0 → eval p r ≡ pos 0 → nat_abs r ∣ nat_abs (lowest p)
unfolding lowest eval is_zero_of
root-divides-lowest [] r n h e = absurd n
root-divides-lowest (a ∷ p) r n h e = cases (is_zero_ℤ a) (is_zero_ℤ-iff a).0 n (λ n'. root-divides-lowest p r n' h)
  where
    size : nat_abs a ≡ nat_abs r * nat_abs (eval p r)
    size = ap nat_abs (neg_ℤ-unique a (r *ℤ eval p r) e) ∙ nat_abs-neg_ℤ (r *ℤ eval p r) ∙ nat_abs-*ℤ r (eval p r)

    tail-root : a ≡ pos 0 → eval p r ≡ pos 0
    tail-root z = ⊎_elim (λ k. absurd (h k)) (λ k. k) (no-zero-divisors r (eval p r) (sym (+ℤ_idl (r *ℤ eval p r)) ∙ (rw z at e)))

    cases : (t : Bool) → (T t → a ≡ pos 0) → T (not (t && is_zero_of p)) →
        (T (not (is_zero_of p)) → eval p r ≡ pos 0 → nat_abs r ∣ nat_abs (lowest p)) → nat_abs r ∣ nat_abs (cond t (lowest p) a)
    cases true z n' below = below n' (tail-root (z tt))
    cases false z n' below = rw size (dvd-mul_right (nat_abs r) (nat_abs (eval p r)))

pub lowest-positive : (p : Polynomial) → T (not (is_zero_of p)) → 0 < nat_abs (lowest p)
lowest-positive p n = pos_of_ne-zero (λ z. T_not (is_zero_of p) n (is_zero-lowest p (nat_abs-zero z)))

pub nonzero-past-lowest : (p : Polynomial) (x : ℤ) → T (not (is_zero_of p)) → nat_abs (lowest p) < nat_abs x → eval p x ≢ pos 0
nonzero-past-lowest p x n h e = omega (arith, le_of_dvd (lowest-positive p n) (root-divides-lowest p x n nonzero e))
  where
    nonzero : x ≢ pos 0
    nonzero z = omega (arith, ap nat_abs z)

pub zero-everywhere : (p : Polynomial) → T (is_zero_of p) ↔ ((x : ℤ) → eval p x ≡ pos 0)
zero-everywhere p = (λ z x. eval-is_zero p x z, λ h. by_cases (dec-T (is_zero_of p)) (λ z. z) (λ n. absurd (missed n h)))
  where
    far : ℤ
    far = pos (suc (nat_abs (lowest p)))

    missed : ¬ T (is_zero_of p) → ((x : ℤ) → eval p x ≡ pos 0) → ⊥
    missed n h = nonzero-past-lowest p far (not_T (is_zero_of p) n) (omega arith) (h far)
