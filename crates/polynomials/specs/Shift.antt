-- A table of Pascal's numbers by its addition rule, and the coefficients of p(n + 1) as the code makes them.
--
-- Main definitions
--   follows_rule table    do the entries of a table of 16 rows of 16 numbers follow Pascal's addition rule?
--   expansion p k n      the sum over j < n of the terms binomial j k * coeff p j
--
-- Main statements
--   small-coeff          the coefficients of a list within ±C are within ±C
--   pascal-entry         a table that follows the rule holds the binomial coefficients
--   expansion-first      the terms below k are zero
--   expansion-next       one term more
--   expansion-all        all terms make the coefficient of n^k in p(n + 1)
--   expansion-size, shift-size   the sizes of the terms' sums and of the coefficients of p(n + 1), for p of degree at most 15 within ±C
use Rattle.std.specs.Prelude.{◌≡◌, Bool, List, [], T, ℤ, pos, nat_abs, ◌-ℤ◌, ◌*ℤ◌, length, get_or}
use Rattle.std.proofs.Common.{sym, ◌∙◌, ap, subst, zero-add, not-suc-le-zero, le_of_suc-le-suc, le_trans, mul-le-mul, mul-le-mul_right, arith, leb→le}
use Rattle.std.proofs.Math.Path.{ap₂}
use Prim.Native.Nat.{ℕ, zero, suc, ◌*◌, ◌^◌, ◌≤◌, ◌<◌}
use Rattle.std.proofs.Math.Nat.{pow-le-pow_right}
use Rattle.std.proofs.Math.IntN.{◌+ℤ◌, zero-*ℤ, *ℤ-zero}
use Rattle.algebra.specs.Integers.{nat_abs-*ℤ, -ℤ-zero}
use Rattle.algebra.specs.Sums.{count_from, sum_below, get_or-count_from, sum_below-last, sum_below-zeros, sum_below-extend, nat_abs-sum_below}
use Rattle.algebra.specs.Polynomials.{Polynomial, coeff, shift, is_zero_ℤ, is_zero_ℤ-iff}
use Rattle.lists.specs.Tests.{T-&&, every, every-get_or}
use Rattle.algebra.specs.Coefficients.{coeff-past-length}
use Rattle.algebra.specs.Binomials.{binomial, binomial-above, binomial-le, coeff-shift, coeff-shift-size}
use Rattle.rules.specs.Limits.{bound, small, coefficient_count}

pub small-coeff : (p : Polynomial) → T (every small p) → (i : ℕ) → nat_abs (coeff p i) ≤ bound
unfolding small coeff
small-coeff p h i = leb→le (nat_abs (get_or p i (pos 0))) bound (every-get_or small p (pos 0) tt h i)

-- ---- the table

every-count_from : (t : ℕ → Bool) (n : ℕ) → T (every t (count_from 0 n)) → (i : ℕ) → i < n → T (t i)
unfolding every count_from
every-count_from t zero e i h = absurd (not-suc-le-zero h)
every-count_from t (suc n) e i h =
    let first = ((T-&& (t 0) (every t (count_from 1 n))).0 e).0 in
    subst (λ m. T (t m)) (get_or-count_from 0 (suc n) i 0 h ∙ zero-add i) (every-get_or t (count_from 0 (suc n)) 0 first e i)

abbrev entry : List (List ℤ) → ℕ → ℕ → ℤ
entry table j k = get_or (get_or table j []) k (pos 0)

-- What the rule asks of row j, number k: 1 at the front, zeros after it in row 0, else the sum of the two entries above.
ruled : List (List ℤ) → ℕ → ℕ → ℤ
ruled table j zero = pos 1
ruled table zero (suc k) = pos 0
ruled table (suc j) (suc k) = entry table j k +ℤ entry table j (suc k)

ruled_at : List (List ℤ) → ℕ → ℕ → Bool
ruled_at table j k = is_zero_ℤ (entry table j k -ℤ ruled table j k)

-- Do all entries of the 16 rows of 16 numbers follow the rule?
unfoldable pub follows_rule : List (List ℤ) → Bool
unfolding every count_from ruled_at ruled is_zero_ℤ
follows_rule table = every (λ j. every (ruled_at table j) (count_from 0 coefficient_count)) (count_from 0 coefficient_count)

module _ (table : List (List ℤ)) (rule : T (follows_rule table)) where
  by-rule : (j k : ℕ) → j < coefficient_count → k < coefficient_count → entry table j k ≡ ruled table j k
  unfolding follows_rule ruled_at
  by-rule j k h l =
      let row = every-count_from (λ i. every (ruled_at table i) (count_from 0 coefficient_count)) coefficient_count rule j h in
      -ℤ-zero (entry table j k) (ruled table j k)
      ((is_zero_ℤ-iff (entry table j k -ℤ ruled table j k)).0 (every-count_from (ruled_at table j) coefficient_count row k l))

  pub pascal-entry : (j k : ℕ) → j < coefficient_count → k < coefficient_count → get_or (get_or table j []) k (pos 0) ≡ pos (binomial j k)
  unfolding ruled binomial
  pascal-entry j zero h l = by-rule j 0 h l
  pascal-entry zero (suc k) h l = by-rule 0 (suc k) h l
  pascal-entry (suc j) (suc k) h l =
      by-rule (suc j) (suc k) h l ∙ ap₂ ◌+ℤ◌ (pascal-entry j k (omega arith) (omega arith)) (pascal-entry j (suc k) (omega arith) l)

-- ---- the coefficients of p(n + 1)

unfoldable pub expansion : Polynomial → ℕ → ℕ → ℤ
expansion p k n = sum_below n (λ j. pos (binomial j k) *ℤ coeff p j)

pub expansion-first : (p : Polynomial) (k : ℕ) → expansion p k k ≡ pos 0
unfolding expansion
expansion-first p k =
    sum_below-zeros k (λ j. pos (binomial j k) *ℤ coeff p j)
    (λ j h. ap (λ b. pos b *ℤ coeff p j) (binomial-above j k h) ∙ zero-*ℤ (coeff p j))

pub expansion-next : (p : Polynomial) (k n : ℕ) → expansion p k (suc n) ≡ expansion p k n +ℤ pos (binomial n k) *ℤ coeff p n
unfolding expansion
expansion-next p k n = sum_below-last n (λ j. pos (binomial j k) *ℤ coeff p j)

pub expansion-all : (p : Polynomial) (k n : ℕ) → length p ≤ n → expansion p k n ≡ coeff (shift p) k
unfolding expansion
expansion-all p k n h =
    sum_below-extend (length p) n (λ j. pos (binomial j k) *ℤ coeff p j) h
    (λ j l _. ap (λ a. pos (binomial j k) *ℤ a) (coeff-past-length p j l) ∙ *ℤ-zero (pos (binomial j k)))
    ∙ sym (coeff-shift p k)

-- The numbers of the rows up to 15 are at most 2 ^ 15.
binomial-size : (j k : ℕ) → j < coefficient_count → binomial j k ≤ 2 ^ 15
binomial-size j k h = le_trans (binomial-le j k) (pow-le-pow_right (omega arith) (le_of_suc-le-suc h))

pub term-size : (p : Polynomial) → T (every small p) → (k j : ℕ) → j < coefficient_count
    → nat_abs (pos (binomial j k) *ℤ coeff p j) ≤ 2 ^ 15 * bound
term-size p s k j h = rw (nat_abs-*ℤ (pos (binomial j k)) (coeff p j)) (mul-le-mul (binomial-size j k h) (small-coeff p s j))

pub expansion-size : (p : Polynomial) → T (every small p) → (k n : ℕ) → n ≤ coefficient_count → nat_abs (expansion p k n) ≤ 2 ^ 19 * bound
unfolding expansion
expansion-size p s k n h =
    omega (arith, nat_abs-sum_below n (2 ^ 15 * bound) (λ j. pos (binomial j k) *ℤ coeff p j) (λ j l. term-size p s k j (omega arith)))

pub shift-size : (p : Polynomial) → T (every small p) → length p ≤ coefficient_count → (k : ℕ)
    → nat_abs (coeff (shift p) k) ≤ 2 ^ coefficient_count * bound
shift-size p s h k =
    le_trans (coeff-shift-size p bound (small-coeff p s) k) (mul-le-mul_right bound (pow-le-pow_right (omega arith) h))
