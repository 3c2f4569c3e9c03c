-- A combination whose coefficients an integer divides: the test of all coefficients, and the row after the division.
--
-- Main definitions
--   sum_of g p h q          g·p + h·q
--   part_at n l e           the n numbers of a polynomial at place e
--   combined, quotient     the combination of the rows that two lists of numbers hold, and that divided by an integer
--
-- Main statements
--   past-sum, sum-divided, sum_left, one-exact   the test of g·p + h·q, coefficient by coefficient; 1 passes it
--   parts-divided, sum-at  the test of a combination of rows, polynomial by polynomial
--   cut-exact              where no degree is past 15, the test of the first 16 coefficients of each polynomial is the test of all
--   degree-divided         the division does not change which polynomials have degrees up to 15
--   divided-past, divided-low   the answer for a quotient whose degrees pass 15, and for one whose degrees do not
--   divided-storable       the quotient is held by its numbers
use Rattle.std.specs.Prelude.{ℕ, ◌*◌, ◌≤◌, ◌<◌, ◌≡◌, ◌↔◌, ◌≢◌, true, false, T, ℤ, pos, nat_abs, ◌+ℤ◌, length, get_or, take, drop}
use Rattle.std.specs.Int.{◌∣◌}
use Rattle.std.proofs.Math.Nat.{dvd-zero, one-dvd}
use Rattle.std.proofs.Common.{arith, sym, ◌∙◌, ap₂, subst, true≢false}
use Rattle.std.proofs.Math.Decide.{dec_lt}
use Rattle.std.proofs.Math.Path.{refl, ap}
use mathlib.Core.List.{List, [], flatten}
use Rattle.std.specs.Int.Signed.{rem_z}
use Rattle.lists.specs.Tests.{every, every_from_all, every-false, every-flatten, same_test, true_of, true-T}
use Rattle.algebra.specs.Divisors.{divides, divides-dvd}
use Rattle.algebra.specs.Gcd.{content, divide_by, divides-content, divides_all-of-content, length-divide_by}
use Rattle.algebra.specs.Polynomials.{Polynomial, coeff, add, mul}
use Rattle.algebra.specs.Coefficients.{coeff-past-length, coeff-add, mul-within}
use Rattle.rules.specs.Limits.{coefficient_count, row_length}
use Rattle.rules.specs.Rows.{Row, map_row, coefficients_of, combine, low_degrees, cut}
use Rattle.rules.specs.Stores.{row_of, StoreRow}
use Rattle.rules.specs.Elimination.{beyond, limit_coefficients, limit_degrees}
use Rattle.stores.specs.Flat.{part_count, polynomials_of, polynomials-map_row, numbers-polynomials}
use Rattle.working_rows.specs.Worked.{held}
use Rattle.combinations.specs.Primitive.{is_low, low_degrees-every, divided-every, content-cut, degrees-within}
use Rattle.combinations.specs.Combination.{combinations, combination-at, polynomials-combination, StoreRow-cut}
use Rattle.reduction.specs.NewRows.{Storable, degrees-storable}
use Rattle.log_steps.specs.Logs.{divides_all}
use Rattle.log_steps.specs.Changes.{divides_all-all}
use Rattle.log_steps.specs.Divided.{remainder-none, remainder-some}

-- ---- one polynomial

abbrev pub sum_of : Polynomial → Polynomial → Polynomial → Polynomial → Polynomial
sum_of g p h q = add (mul g p) (mul h q)

-- No coefficient is left past the largest sum of degrees.
pub past-sum : (g p h q : Polynomial) → length g ≤ coefficient_count → length p ≤ coefficient_count → length h ≤ coefficient_count
    → length q ≤ coefficient_count → (k : ℕ) → 31 ≤ k → coeff (sum_of g p h q) k ≡ pos 0
past-sum g p h q a b c d k l =
    coeff-add (mul g p) (mul h q) k ∙ ap₂ ◌+ℤ◌ (past g p a b) (past h q c d)
  where
    past : (f q : Polynomial) → length f ≤ coefficient_count → length q ≤ coefficient_count → coeff (mul f q) k ≡ pos 0
    past f q a b =
        mul-within f q 15 15 (λ i m. coeff-past-length f i (omega arith)) (λ i m. coeff-past-length q i (omega arith)) k (omega arith)

-- The first k coefficients are divided, and there are no others.
pub sum-divided : (d : ℤ) (l : Polynomial) (k : ℕ) → ((j : ℕ) → j < k → rem_z (coeff l j) d ≡ pos 0)
    → ((j : ℕ) → k ≤ j → coeff l j ≡ pos 0) → divides_all (nat_abs d) l ≡ true
unfolding divides_all coeff
sum-divided d l k below past =
    true_of _ (every_from_all (λ a. divides (nat_abs d) (nat_abs a)) l (pos 0) 0 (λ j _ _. cases j (dec_lt j k)))
  where
    cases : (j : ℕ) → Dec (j < k) → T (divides (nat_abs d) (nat_abs (get_or l j (pos 0))))
    cases j (yes h) = true-T _ (remainder-none (get_or l j (pos 0)) d (below j h))
    cases j (no h) =
        subst (λ a. T (divides (nat_abs d) (nat_abs a))) (sym (past j (omega arith))) ((divides-dvd (nat_abs d) 0).1 (dvd-zero (nat_abs d)))

pub sum_left : (d : ℤ) (l : Polynomial) (j : ℕ) → rem_z (coeff l j) d ≢ pos 0 → divides_all (nat_abs d) l ≡ false
unfolding divides_all coeff
sum_left d l j n = cases (dec_lt j (length l))
  where
    cases : Dec (j < length l) → every (λ a. divides (nat_abs d) (nat_abs a)) l ≡ false
    cases (yes h) = every-false (λ a. divides (nat_abs d) (nat_abs a)) l j (pos 0) h (remainder-some (get_or l j (pos 0)) d n)
    cases (no h) =
        let nothing = remainder-some (pos 0) d (λ e. n (ap (λ a. rem_z a d) (coeff-past-length l j (omega arith)) ∙ e)) in
        absurd (true≢false (sym (true_of _ ((divides-dvd (nat_abs d) 0).1 (dvd-zero (nat_abs d)))) ∙ nothing))

-- 1 divides every number.
pub one-exact : (l : List ℤ) → divides_all 1 l ≡ true
unfolding divides_all
one-exact l = true_of _ (every_from_all (λ a. divides 1 (nat_abs a)) l (pos 0) 0 (λ j _ _. (divides-dvd 1 (nat_abs (get_or l j (pos 0)))).1 (one-dvd (nat_abs (get_or l j (pos 0))))))

-- ---- a row

-- The n numbers of a polynomial at place e.
abbrev pub part_at : ℕ → List ℤ → ℕ → Polynomial
part_at n l e = take n (drop (e * coefficient_count) l)

module _ (g h : Polynomial) (t u : List ℤ) where
  abbrev pub combined : Row
  combined = combine g h (row_of t) (row_of u)

  pub parts-divided : (d : ℕ) → divides_all d (coefficients_of combined) ≡ every (divides_all d) (combinations part_count g h t u)
  unfolding divides_all
  parts-divided d =
      ap (divides_all d) (numbers-polynomials combined ∙ ap flatten (polynomials-combination g h t u))
      ∙ every-flatten (λ a. divides d (nat_abs a)) (combinations part_count g h t u)

  pub sum-at : (e n : ℕ) → e < part_count → n ≡ coefficient_count
      → get_or (combinations part_count g h t u) e [] ≡ sum_of g (part_at n t e) h (part_at n u e)
  sum-at e n l w = combination-at part_count g h t u e l ∙ ap (λ k. sum_of g (part_at k t e) h (part_at k u e)) (sym w)

-- Whether d divides all numbers depends on their content alone.
pub content-exact : (d : ℕ) (l : List ℤ) → T (divides_all d l) ↔ (d ∣ content l)
unfolding divides_all
content-exact d l = (λ t. divides-content d l (divides_all-all d l t), back)
  where
    back : d ∣ content l → T (divides_all d l)
    back h = every_from_all (λ a. divides d (nat_abs a)) l (pos 0) 0 (λ k _ _. (divides-dvd d _).1 (divides_all-of-content d l h k))

pub cut-exact : (d : ℕ) (r : Row) → low_degrees r ≡ true → divides_all d (coefficients_of (cut r)) ≡ divides_all d (coefficients_of r)
cut-exact d r low =
    let same = content-cut r (true-T _ low) in
    same_test (divides_all d (coefficients_of (cut r))) (divides_all d (coefficients_of r))
    (λ t. (content-exact d (coefficients_of r)).1 (subst (λ n. d ∣ n) same ((content-exact d (coefficients_of (cut r))).0 t)))
    (λ t. (content-exact d (coefficients_of (cut r))).1 (subst (λ n. d ∣ n) (sym same) ((content-exact d (coefficients_of r)).0 t)))

-- ---- the division

module _ (d : ℕ) (positive : 0 < d) (r : Row) (divided : T (divides_all d (coefficients_of r))) where
  pub degree-divided : low_degrees (map_row (divide_by d) r) ≡ low_degrees r
  degree-divided =
      low_degrees-every (map_row (divide_by d) r) ∙ ap (every is_low) (polynomials-map_row (divide_by d) r)
      ∙ divided-every d positive (polynomials_of r)
      (subst (λ l. d ∣ content l) (numbers-polynomials r)
      (divides-content d (coefficients_of r) (divides_all-all d (coefficients_of r) divided)))
      ∙ sym (low_degrees-every r)

  pub divided-past : low_degrees r ≡ false → limit_degrees (map_row (divide_by d) r) ≡ beyond 7
  unfolding limit_degrees
  divided-past e = rw (degree-divided, e) refl

  pub divided-low : low_degrees r ≡ true → limit_degrees (map_row (divide_by d) r) ≡ limit_coefficients (cut (map_row (divide_by d) r))
  unfolding limit_degrees
  divided-low e = rw (degree-divided, e) refl

module _ (g h : Polynomial) (t u : List ℤ) (some : 0 < length g) (long : length t ≡ row_length) (d : ℕ) where
  abbrev pub quotient : Row
  quotient = map_row (divide_by d) (combine g h (row_of t) (row_of u))

  quotient-shaped : StoreRow (cut quotient)
  quotient-shaped = StoreRow-cut g h t u some long (divide_by d) (length-divide_by d)

  pub divided-storable : Storable (limit_degrees quotient)
  divided-storable = degrees-storable quotient (λ r e. held (cut quotient) r quotient-shaped (degrees-within quotient r e))
