-- Binomial coefficients, and by them the coefficients of a shifted polynomial.
--
-- Main definitions
--   binomial n k    the number of ways to choose k of n things, by Pascal's addition rule
--
-- Main statements
--   binomial-above, binomial-self   zero for k > n, one for k = n
--   binomial-le     each member of row n is at most 2 ^ n; binomial-sum: their sum is 2 ^ n
--   coeff-shift     the coefficients of the shift by 1 are sums with binomial coefficients (SCOPE 2.62)
--   coeff-shift-size   the coefficients of the shift by 1 are at most 2 ^ length times the largest of the polynomial
use Rattle.std.specs.Prelude.{◌≡◌, refl, ℕ, zero, suc, ◌+◌, ◌*◌, ◌^◌, ◌≤◌, ◌<◌, [], ◌∷◌, length, ℤ, pos, negsuc, nat_abs, ◌+ℤ◌, ◌*ℤ◌}
use Rattle.std.proofs.Common.{sym, ◌∙◌, ap, ap₂, subst, not-suc-le-zero, le_of_suc-le-suc, le_of_eq, le_trans, add-le-add, add-mul, mul-le-mul_right, arith}
use Rattle.std.proofs.Math.Path.{fun_ext}
use Rattle.std.proofs.Math.Nat.{one-le-pow, two-pow-succ}
use Rattle.std.proofs.Math.IntN.{+ℤ_idl, zero-*ℤ}
use Rattle.algebra.specs.Integers.{+ℤ-left-comm, +ℤ-*ℤ, one-*ℤ, nat_abs-+ℤ}
use Rattle.algebra.specs.Sums.{sum_below, sum_below-front, sum_below-zero, sum_below-+ℤ}
use Rattle.algebra.specs.Polynomials.{Polynomial, coeff, shift_by, shift}
use Rattle.algebra.specs.Coefficients.{coeff-shift_by-zero, coeff-shift_by-suc}

unfoldable pub binomial : ℕ → ℕ → ℕ
binomial n zero = 1
binomial zero (suc k) = 0
binomial (suc n) (suc k) = binomial n k + binomial n (suc k)

example-row : (binomial 4 0 ≡ 1) × (binomial 4 1 ≡ 4) × (binomial 4 2 ≡ 6) × (binomial 4 3 ≡ 4) × (binomial 4 4 ≡ 1) × (binomial 4 5 ≡ 0)
unfolding binomial
example-row = (refl, refl, refl, refl, refl, refl)

-- (n + 1)^3 - 2 (n + 1) = n^3 + 3 n^2 + n - 1
example-shift : shift (pos 0 ∷ negsuc 1 ∷ pos 0 ∷ pos 1 ∷ []) ≡ negsuc 0 ∷ pos 1 ∷ pos 3 ∷ pos 1 ∷ []
unfolding shift
example-shift = refl

pub binomial-above : (n k : ℕ) → n < k → binomial n k ≡ 0
unfolding binomial
binomial-above n zero h = absurd (not-suc-le-zero h)
binomial-above zero (suc k) h = refl
binomial-above (suc n) (suc k) h = ap₂ ◌+◌ (binomial-above n k (le_of_suc-le-suc h)) (binomial-above n (suc k) (omega arith))

pub binomial-self : (n : ℕ) → binomial n n ≡ 1
unfolding binomial
binomial-self zero = refl
binomial-self (suc n) = ap₂ ◌+◌ (binomial-self n) (binomial-above n (suc n) (omega arith))

pub binomial-le : (n k : ℕ) → binomial n k ≤ 2 ^ n
unfolding binomial
binomial-le n zero = one-le-pow n 2 (omega arith)
binomial-le zero (suc k) = omega arith
binomial-le (suc n) (suc k) = le_trans (add-le-add (binomial-le n k) (binomial-le n (suc k))) (le_of_eq (sym (two-pow-succ n)))

-- Row n of Pascal's triangle.
abbrev row : ℕ → ℕ → ℤ
row n k = pos (binomial n k)

-- The sum of row n, over any bound past n.
pub binomial-sum : (n m : ℕ) → n < m → sum_below m (λ k. pos (binomial n k)) ≡ pos (2 ^ n)
unfolding binomial
binomial-sum n zero h = absurd (not-suc-le-zero h)
binomial-sum zero (suc m) h = sum_below-front m (row 0) ∙ ap (λ e. pos 1 +ℤ e) (sum_below-zero m)
binomial-sum (suc n) (suc m) h =
    sum_below-front m (row (suc n)) ∙ ap (λ e. pos 1 +ℤ e) (sum_below-+ℤ m (row n) (λ k. row n (suc k)))
    ∙ +ℤ-left-comm (pos 1) (sum_below m (row n)) (sum_below m (λ k. row n (suc k)))
    ∙ ap₂ ◌+ℤ◌ (binomial-sum n m (le_of_suc-le-suc h)) (sym (sum_below-front m (row n)) ∙ binomial-sum n (suc m) (omega arith))
    ∙ ap pos (sym (two-pow-succ n))

-- ---- the coefficients of a shift by 1

coeff-shift-zero : (a : ℤ) (p : Polynomial) → coeff (shift (a ∷ p)) 0 ≡ a +ℤ coeff (shift p) 0
unfolding shift
coeff-shift-zero a p = coeff-shift_by-zero (pos 1) a p ∙ ap (λ e. a +ℤ e) (one-*ℤ (coeff (shift_by (pos 1) p) 0))

coeff-shift-suc : (a : ℤ) (p : Polynomial) (k : ℕ) → coeff (shift (a ∷ p)) (suc k) ≡ coeff (shift p) k +ℤ coeff (shift p) (suc k)
unfolding shift
coeff-shift-suc a p k =
    coeff-shift_by-suc (pos 1) a p k ∙ ap (λ e. coeff (shift_by (pos 1) p) k +ℤ e) (one-*ℤ (coeff (shift_by (pos 1) p) (suc k)))

-- The term j of coefficient k of p(n + 1).
abbrev term : Polynomial → ℕ → ℕ → ℤ
term p k j = pos (binomial j k) *ℤ coeff p j

-- The coefficients of p(n + 1), by the addition rule at each coefficient of p.
pub coeff-shift : (p : Polynomial) (k : ℕ) → coeff (shift p) k ≡ sum_below (length p) (λ j. pos (binomial j k) *ℤ coeff p j)
unfolding shift sum_below binomial coeff
coeff-shift [] k = refl
coeff-shift (a ∷ p) zero =
    coeff-shift-zero a p ∙ ap₂ ◌+ℤ◌ (sym (one-*ℤ a)) (coeff-shift p 0) ∙ sym (sum_below-front (length p) (term (a ∷ p) 0))
coeff-shift (a ∷ p) (suc k) =
    coeff-shift-suc a p k ∙ ap₂ ◌+ℤ◌ (coeff-shift p k) (coeff-shift p (suc k)) ∙ sym (sum_below-+ℤ (length p) (term p k) (term p (suc k)))
    ∙ ap (sum_below (length p)) (fun_ext addition) ∙ sym (sum_below-front (length p) (term (a ∷ p) (suc k)) ∙ first)
  where
    addition : (j : ℕ) → term p k j +ℤ term p (suc k) j ≡ term (a ∷ p) (suc k) (suc j)
    addition j = sym (+ℤ-*ℤ (pos (binomial j k)) (pos (binomial j (suc k))) (coeff p j))

    first : pos 0 *ℤ a +ℤ sum_below (length p) (λ j. term (a ∷ p) (suc k) (suc j)) ≡ sum_below (length p) (λ j. term (a ∷ p) (suc k) (suc j))
    first = simp (zero-*ℤ, +ℤ_idl)

size_step : (n b : ℕ) (x y : ℤ) → nat_abs x ≤ 2 ^ n * b → nat_abs y ≤ 2 ^ n * b → nat_abs (x +ℤ y) ≤ 2 ^ suc n * b
size_step n b x y f g = rw (two-pow-succ n, add-mul (2 ^ n) (2 ^ n) b) (omega (arith, nat_abs-+ℤ x y))

-- A shift by 1 makes coefficients of size at most b no larger than 2 ^ length times b.
pub coeff-shift-size : (p : Polynomial) (b : ℕ) → ((j : ℕ) → nat_abs (coeff p j) ≤ b)
    → (k : ℕ) → nat_abs (coeff (shift p) k) ≤ 2 ^ length p * b
unfolding shift coeff
coeff-shift-size [] b h k = omega arith
coeff-shift-size (a ∷ p) b h zero =
    let r = size_step (length p) b a (coeff (shift p) 0) first (coeff-shift-size p b (λ j. h (suc j)) 0) in
    subst (λ e. nat_abs e ≤ 2 ^ suc (length p) * b) (sym (coeff-shift-zero a p)) r
  where
    first : nat_abs a ≤ 2 ^ length p * b
    first = omega (arith, h 0, mul-le-mul_right b (one-le-pow (length p) 2 (omega arith)))
coeff-shift-size (a ∷ p) b h (suc k) =
    let s = coeff-shift-size p b (λ j. h (suc j)) in
    let r = size_step (length p) b (coeff (shift p) k) (coeff (shift p) (suc k)) (s k) (s (suc k)) in
    subst (λ e. nat_abs e ≤ 2 ^ suc (length p) * b) (sym (coeff-shift-suc a p k)) r
