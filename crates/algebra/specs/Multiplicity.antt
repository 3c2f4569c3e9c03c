-- How often an integer root occurs in a polynomial.
--
-- Main definitions
--   linear r              the polynomial n - r
--   power r k             (n - r)^k
--   multiplicity p r      how often n - r divides p, for a nonzero polynomial p; of the zero polynomial nothing is claimed
--   Occurs p r k          p is (n - r)^k times a polynomial that does not vanish at r
--
-- Main statements
--   multiplicity-occurs, occurs-unique, occurs-same   r occurs as often as its multiplicity says, and not otherwise, by the values
--   multiplicity-root     a root occurs at least once, and what is no root not at all
--   power_divides         (n - r)^k divides p exactly for k up to the multiplicity
--   multiplicity-mul      multiplicities add over products
--   total_multiplicity, multiplicities-few   the sum of the multiplicities of different roots is at most the degree
use Rattle.std.specs.Prelude.{ℕ, zero, suc, ◌+◌, ◌-◌, ◌≤◌, ◌<◌, ◌≡◌, refl, ◌≢◌, ◌↔◌, Bool, true, false, not, cond, T, length, ℤ, pos, neg_ℤ, nat_abs, ◌+ℤ◌, ◌-ℤ◌, ◌*ℤ◌}
use Rattle.std.proofs.Common.{zero-le, sym, ◌∙◌, ap, ap₂, not-suc-le-zero, zero-lt-suc, zero-add, arith, T_not}
use mathlib.Core.List.{List, [], ◌∷◌, Mem, Nodup, mem-cons_self, mem-cons_of_mem, Pairwise-cons}
use Rattle.std.proofs.Math.Dec.{not_T}
use Rattle.std.proofs.Math.IntN.{*ℤ-zero, zero-*ℤ, +ℤ_invr}
use Rattle.algebra.specs.Integers.{ringℤ, *ℤ-assoc, one-*ℤ, *ℤ-nonzero, -ℤ-zero}
use Rattle.algebra.specs.Polynomials.{Polynomial, eval, is_zero_of, is_zero_ℤ, degree, add, mul, negate, quotient, eval_add, eval_mul}
use Rattle.algebra.specs.Polynomials.{eval-negate, eval-is_zero, is_zero-cons, is_zero_ℤ-iff, is_zero_ℤ-not-iff}
use Rattle.algebra.specs.Coefficients.{degree-lt-length, mul-nonzero}
use Rattle.algebra.specs.Vanishing.{factor-root, quotient-nonzero, degree-quotient, zero-everywhere}

abbrev pub linear : ℤ → Polynomial
linear r = neg_ℤ r ∷ pos 1 ∷ []

pub linear-nonzero : (r : ℤ) → T (not (is_zero_of (linear r)))
unfolding is_zero_of is_zero_ℤ
linear-nonzero r = not_T (is_zero_of (linear r)) (λ z. ((is_zero-cons (neg_ℤ r) (pos 1 ∷ [])).0 z).1)

pub eval-linear : (r x : ℤ) → eval (linear r) x ≡ x -ℤ r
unfolding eval
eval-linear r x = simp ringℤ

unfoldable pub power : ℤ → ℕ → Polynomial
unfolding mul
power r zero = pos 1 ∷ []
power r (suc k) = mul (linear r) (power r k)

-- At most k divisions by n - r, as long as there is no rest.
unfoldable pub divisions : ℕ → Polynomial → ℤ → ℕ
unfolding eval is_zero_ℤ quotient
divisions zero p r = 0
divisions (suc k) p r =
    let more = suc (divisions k (quotient r p) r) in
    cond (is_zero_ℤ (eval p r)) more 0

unfoldable pub multiplicity : Polynomial → ℤ → ℕ
unfolding divisions
multiplicity p r = divisions (length p) p r

pub record Occurs (p : Polynomial) (r : ℤ) (k : ℕ) : Type 0 where
  pub rest : Polynomial
  pub no-root : eval rest r ≢ pos 0
  pub factored : (x : ℤ) → eval p x ≡ eval (power r k) x *ℤ eval rest x

-- ---- powers

pub power_zero : (r x : ℤ) → eval (power r 0) x ≡ pos 1
unfolding power eval
power_zero r x = simp ringℤ

pub power-suc : (r : ℤ) (k : ℕ) (x : ℤ) → eval (power r (suc k)) x ≡ (x -ℤ r) *ℤ eval (power r k) x
unfolding power
power-suc r k x = eval_mul (linear r) (power r k) x ∙ ap (λ a. a *ℤ eval (power r k) x) (eval-linear r x)

pub power-add : (r : ℤ) (j k : ℕ) (x : ℤ) → eval (power r (j + k)) x ≡ eval (power r j) x *ℤ eval (power r k) x
power-add r zero k x =
    ap (λ n. eval (power r n) x) (zero-add k) ∙ sym (ap (λ a. a *ℤ eval (power r k) x) (power_zero r x) ∙ one-*ℤ (eval (power r k) x))
power-add r (suc j) k x =
    let same : suc j + k ≡ suc (j + k) = omega arith in
    ap (λ n. eval (power r n) x) same ∙ power-suc r (j + k) x ∙ ap (λ a. (x -ℤ r) *ℤ a) (power-add r j k x)
    ∙ sym (*ℤ-assoc (x -ℤ r) (eval (power r j) x) (eval (power r k) x))
    ∙ ap (λ a. a *ℤ eval (power r k) x) (sym (power-suc r j x))

pub power-nonzero : (r : ℤ) (k : ℕ) → T (not (is_zero_of (power r k)))
unfolding power is_zero_of is_zero_ℤ
power-nonzero r zero = tt
power-nonzero r (suc k) = mul-nonzero (linear r) (power r k) (linear-nonzero r) (power-nonzero r k)

-- At another index a power does not vanish.
power-elsewhere : (r x : ℤ) → x ≢ r → (k : ℕ) → eval (power r k) x ≢ pos 0
power-elsewhere r x apart zero e = absurd (one-nonzero (sym (power_zero r x) ∙ e))
  where
    one-nonzero : pos 1 ≡ pos 0 → ⊥
    one-nonzero e = let z : ◌≡◌ {A = ℕ} 1 0 = ap nat_abs e in omega arith
power-elsewhere r x apart (suc k) e =
    *ℤ-nonzero (λ z. apart (-ℤ-zero x r z)) (power-elsewhere r x apart k) (sym (power-suc r k x) ∙ e)

-- ---- the multiplicity of a nonzero polynomial

-- What is no root does not occur.
abbrev pub occurs-none : (p : Polynomial) (r : ℤ) → eval p r ≢ pos 0 → Occurs p r 0
occurs-none p r n =
    record {
      rest = p;
      no-root = n;
      factored = λ x. sym (ap (λ a. a *ℤ eval p x) (power_zero r x) ∙ one-*ℤ (eval p x));
    }

abbrev occurs-again : (p : Polynomial) (r : ℤ) (k : ℕ) → eval p r ≡ pos 0 → Occurs (quotient r p) r k → Occurs p r (suc k)
occurs-again p r k e o =
    record {
      rest = o.rest;
      no-root = o.no-root;
      factored = λ x. factor-root p x r e ∙ ap (λ a. (x -ℤ r) *ℤ a) (o.factored x)
          ∙ sym (*ℤ-assoc (x -ℤ r) (eval (power r k) x) (eval o.rest x))
          ∙ ap (λ a. a *ℤ eval o.rest x) (sym (power-suc r k x));
    }

-- r occurs so often in p, and the rest has so much less of a degree.
abbrev Counted : Polynomial → ℤ → ℕ → Type 0
Counted p r k = (o : Occurs p r k) × (degree p ≡ k + degree o.rest)

-- With more divisions than the degree the last one has a rest.
divisions-occur : (k : ℕ) (p : Polynomial) (r : ℤ) → T (not (is_zero_of p)) → degree p < k → Counted p r (divisions k p r)
unfolding divisions
divisions-occur zero p r n h = absurd (not-suc-le-zero h)
divisions-occur (suc k) p r n h =
    go (is_zero_ℤ (eval p r)) (λ t. (is_zero_ℤ-iff (eval p r)).0 t) (λ t. (is_zero_ℤ-not-iff (eval p r)).0 t)
    (λ e. divisions-occur k (quotient r p) r (quotient-nonzero r p n e) (omega (arith, degree-quotient r p n e)))
  where
    go : (t : Bool) → (T t → eval p r ≡ pos 0) → (T (not t) → eval p r ≢ pos 0)
        → (eval p r ≡ pos 0 → Counted (quotient r p) r (divisions k (quotient r p) r))
        → Counted p r (cond t (suc (divisions k (quotient r p) r)) 0)
    go true root rest more =
        let (o, less) = more (root tt) in
        (occurs-again p r (divisions k (quotient r p) r) (root tt) o, omega (arith, less, degree-quotient r p n (root tt)))
    go false root rest more = (occurs-none p r (rest tt), sym (zero-add (degree p)))

nonzero-degree : (p : Polynomial) → T (not (is_zero_of p)) → degree p < length p
unfolding is_zero_of
nonzero-degree [] n = absurd n
nonzero-degree (a ∷ p) n = degree-lt-length a p

multiplicity-counted : (p : Polynomial) (r : ℤ) → T (not (is_zero_of p)) → Counted p r (multiplicity p r)
unfolding multiplicity
multiplicity-counted p r n = divisions-occur (length p) p r n (nonzero-degree p n)

pub multiplicity-occurs : (p : Polynomial) (r : ℤ) → T (not (is_zero_of p)) → Occurs p r (multiplicity p r)
multiplicity-occurs p r n = (multiplicity-counted p r n).0

-- ---- r occurs in one way only

-- A polynomial that n - r turns into zero is zero.
cancel-linear : (p : Polynomial) (r : ℤ) → ((x : ℤ) → (x -ℤ r) *ℤ eval p x ≡ pos 0) → T (is_zero_of p)
cancel-linear p r h = by-test (is_zero_of p) (λ n. T_not (is_zero_of (mul (linear r) p)) (mul-nonzero (linear r) p (linear-nonzero r) n)
    ((zero-everywhere (mul (linear r) p)).1 (λ x. eval_mul (linear r) p x ∙ ap (λ a. a *ℤ eval p x) (eval-linear r x) ∙ h x)))
  where
    by-test : (t : Bool) → (T (not t) → ⊥) → T t
    by-test true f = tt
    by-test false f = f tt

spread : (a b c : ℤ) → a *ℤ (b +ℤ neg_ℤ c) ≡ a *ℤ b +ℤ neg_ℤ (a *ℤ c)
spread a b c = simp ringℤ

-- Values that agree after a multiplication by n - r agree, of polynomials.
cancel-values : (p q : Polynomial) (r : ℤ) → ((x : ℤ) → (x -ℤ r) *ℤ eval p x ≡ (x -ℤ r) *ℤ eval q x) → (x : ℤ) → eval p x ≡ eval q x
cancel-values p q r h x =
    let zero-there = eval-is_zero (add p (negate q)) x (cancel-linear (add p (negate q)) r (λ y. difference y)) in
    -ℤ-zero (eval p x) (eval q x) (sym (eval_add p (negate q) x ∙ ap (λ a. eval p x +ℤ a) (eval-negate q x)) ∙ zero-there)
  where
    difference : (y : ℤ) → (y -ℤ r) *ℤ eval (add p (negate q)) y ≡ pos 0
    difference y =
        ap (λ a. (y -ℤ r) *ℤ a) (eval_add p (negate q) y ∙ ap (λ a. eval p y +ℤ a) (eval-negate q y))
        ∙ spread (y -ℤ r) (eval p y) (eval q y)
        ∙ ap (λ a. a +ℤ neg_ℤ ((y -ℤ r) *ℤ eval q y)) (h y) ∙ +ℤ_invr ((y -ℤ r) *ℤ eval q y)

-- A power of n - r that is not the first vanishes at r.
power_at : (r : ℤ) (k : ℕ) (a : ℤ) → eval (power r (suc k)) r *ℤ a ≡ pos 0
power_at r k a =
    ap (λ b. b *ℤ a) (power-suc r k r ∙ ap (λ b. b *ℤ eval (power r k) r) (+ℤ_invr r) ∙ zero-*ℤ (eval (power r k) r)) ∙ zero-*ℤ a

power-none : (r : ℤ) (a : ℤ) → eval (power r 0) r *ℤ a ≡ a
power-none r a = ap (λ b. b *ℤ a) (power_zero r r) ∙ one-*ℤ a

power-step : (r : ℤ) (k : ℕ) (p : Polynomial) (x : ℤ) → (x -ℤ r) *ℤ eval (mul (power r k) p) x ≡ eval (power r (suc k)) x *ℤ eval p x
power-step r k p x =
    ap (λ a. (x -ℤ r) *ℤ a) (eval_mul (power r k) p x) ∙ sym (*ℤ-assoc (x -ℤ r) (eval (power r k) x) (eval p x))
    ∙ ap (λ a. a *ℤ eval p x) (sym (power-suc r k x))

same-exponent : (j k : ℕ) (p q : Polynomial) (r : ℤ) → eval p r ≢ pos 0 → eval q r ≢ pos 0
    → ((x : ℤ) → eval (power r j) x *ℤ eval p x ≡ eval (power r k) x *ℤ eval q x) → j ≡ k
same-exponent zero zero p q r m n h = refl
same-exponent zero (suc k) p q r m n h = absurd (m (sym (power-none r (eval p r)) ∙ h r ∙ power_at r k (eval q r)))
same-exponent (suc j) zero p q r m n h = absurd (n (sym (power-none r (eval q r)) ∙ sym (h r) ∙ power_at r j (eval p r)))
same-exponent (suc j) (suc k) p q r m n h =
    ap suc (same-exponent j k p q r m n (λ x. sym (eval_mul (power r j) p x)
    ∙ cancel-values (mul (power r j) p) (mul (power r k) q) r (λ y. power-step r j p y ∙ h y ∙ sym (power-step r k q y)) x
    ∙ eval_mul (power r k) q x))

pub occurs-unique : {p : Polynomial} {r : ℤ} {j k : ℕ} → Occurs p r j → Occurs p r k → j ≡ k
occurs-unique {r = r} {j} {k} a b = same-exponent j k a.rest b.rest r a.no-root b.no-root (λ x. sym (a.factored x) ∙ b.factored x)

-- A root occurs, and what is no root does not.
pub multiplicity-root : (p : Polynomial) (r : ℤ) → T (not (is_zero_of p)) → (eval p r ≡ pos 0) ↔ (0 < multiplicity p r)
multiplicity-root p r n = (forth (multiplicity p r) (multiplicity-occurs p r n), back (multiplicity p r) (multiplicity-occurs p r n))
  where
    forth : (k : ℕ) → Occurs p r k → eval p r ≡ pos 0 → 0 < k
    forth zero o e = absurd (o.no-root (sym (power-none r (eval o.rest r)) ∙ sym (o.factored r) ∙ e))
    forth (suc k) o e = zero-lt-suc k

    back : (k : ℕ) → Occurs p r k → 0 < k → eval p r ≡ pos 0
    back zero o h = absurd (not-suc-le-zero h)
    back (suc k) o h = o.factored r ∙ power_at r k (eval o.rest r)

-- ---- products, and divisors

pub occurs-mul : {p q : Polynomial} {r : ℤ} {j k : ℕ} → Occurs p r j → Occurs q r k → Occurs (mul p q) r (j + k)
occurs-mul {p} {q} {r} {j} {k} a b =
    record {
      rest = mul a.rest b.rest;
      no-root = λ e. *ℤ-nonzero a.no-root b.no-root (sym (eval_mul a.rest b.rest r) ∙ e);
      factored = λ x. eval_mul p q x ∙ ap₂ ◌*ℤ◌ (a.factored x) (b.factored x)
          ∙ pairs (eval (power r j) x) (eval a.rest x) (eval (power r k) x) (eval b.rest x)
          ∙ ap₂ ◌*ℤ◌ (sym (power-add r j k x)) (sym (eval_mul a.rest b.rest x));
    }
  where
    pairs : (a b c d : ℤ) → (a *ℤ b) *ℤ (c *ℤ d) ≡ (a *ℤ c) *ℤ (b *ℤ d)
    pairs a b c d = simp ringℤ

-- It is a matter of the values.
pub occurs-same : {p q : Polynomial} {r : ℤ} {k : ℕ} → ((x : ℤ) → eval p x ≡ eval q x) → Occurs q r k → Occurs p r k
occurs-same h o = record { rest = o.rest; no-root = o.no-root; factored = λ x. h x ∙ o.factored x }

pub multiplicity-mul : (p q : Polynomial) (r : ℤ) → T (not (is_zero_of p)) → T (not (is_zero_of q))
    → multiplicity (mul p q) r ≡ multiplicity p r + multiplicity q r
multiplicity-mul p q r m n =
    occurs-unique (multiplicity-occurs (mul p q) r (mul-nonzero p q m n))
    (occurs-mul (multiplicity-occurs p r m) (multiplicity-occurs q r n))

-- (n - r)^k divides p.
pub record PowerDivides (p : Polynomial) (r : ℤ) (k : ℕ) : Type 0 where
  pub cofactor : Polynomial
  pub product : (x : ℤ) → eval p x ≡ eval (power r k) x *ℤ eval cofactor x

-- Where (n - r)^k times a polynomial is p, r occurs k times more often in p than there.
times_power : (p q : Polynomial) (r : ℤ) (k : ℕ) → ((x : ℤ) → eval p x ≡ eval (power r k) x *ℤ eval q x) → {j : ℕ} → Occurs q r j
    → Occurs p r (k + j)
times_power p q r k h {j} o =
    record {
      rest = o.rest;
      no-root = o.no-root;
      factored = λ x. h x ∙ ap (λ a. eval (power r k) x *ℤ a) (o.factored x)
          ∙ sym (*ℤ-assoc (eval (power r k) x) (eval (power r j) x) (eval o.rest x))
          ∙ ap (λ a. a *ℤ eval o.rest x) (sym (power-add r k j x));
    }

-- A factor of a nonzero polynomial is nonzero.
cofactor-nonzero : (p q f : Polynomial) → T (not (is_zero_of p)) → ((x : ℤ) → eval p x ≡ eval f x *ℤ eval q x) → T (not (is_zero_of q))
cofactor-nonzero p q f n h =
    not_T (is_zero_of q) (λ z. T_not (is_zero_of p) n ((zero-everywhere p).1
    (λ x. h x ∙ ap (λ a. eval f x *ℤ a) (eval-is_zero q x z) ∙ *ℤ-zero (eval f x))))

pub power_divides : (p : Polynomial) (r : ℤ) (k : ℕ) → T (not (is_zero_of p)) → PowerDivides p r k ↔ (k ≤ multiplicity p r)
power_divides p r k n = (forth, back)
  where
    forth : PowerDivides p r k → k ≤ multiplicity p r
    forth d =
        let left = cofactor-nonzero p d.cofactor (power r k) n d.product in
        omega (
          arith,
          occurs-unique (multiplicity-occurs p r n)
              (times_power p d.cofactor r k d.product (multiplicity-occurs d.cofactor r left)),
        )

    back : k ≤ multiplicity p r → PowerDivides p r k
    back h =
        let o = multiplicity-occurs p r n in
        let more = multiplicity p r - k in
        let whole : k + more ≡ multiplicity p r = omega arith in
        record {
          cofactor = mul (power r more) o.rest;
          product = λ x. o.factored x ∙ ap (λ m. eval (power r m) x *ℤ eval o.rest x) (sym whole)
              ∙ ap (λ a. a *ℤ eval o.rest x) (power-add r k more x)
              ∙ *ℤ-assoc (eval (power r k) x) (eval (power r more) x) (eval o.rest x)
              ∙ ap (λ a. eval (power r k) x *ℤ a) (sym (eval_mul (power r more) o.rest x));
        }

-- ---- the sum of the multiplicities

unfoldable pub total_multiplicity : Polynomial → List ℤ → ℕ
unfolding multiplicity
total_multiplicity p [] = 0
total_multiplicity p (r ∷ rs) = multiplicity p r + total_multiplicity p rs

-- At another root the power of n - r does not count.
occurs-elsewhere : {p : Polynomial} {r : ℤ} {k : ℕ} (o : Occurs p r k) (s : ℤ) → s ≢ r → {j : ℕ} → Occurs o.rest s j → Occurs p s j
occurs-elsewhere {p} {r} {k} o s apart {j} a =
    record {
      rest = mul (power r k) a.rest;
      no-root = λ e. *ℤ-nonzero (power-elsewhere r s apart k) a.no-root (sym (eval_mul (power r k) a.rest s) ∙ e);
      factored = λ x. o.factored x ∙ ap (λ b. eval (power r k) x *ℤ b) (a.factored x)
          ∙ moved (eval (power r k) x) (eval (power s j) x) (eval a.rest x)
          ∙ ap (λ b. eval (power s j) x *ℤ b) (sym (eval_mul (power r k) a.rest x));
    }
  where
    moved : (a b c : ℤ) → a *ℤ (b *ℤ c) ≡ b *ℤ (a *ℤ c)
    moved a b c = simp ringℤ

rest-nonzero : {p : Polynomial} {r : ℤ} {k : ℕ} (o : Occurs p r k) → T (not (is_zero_of p)) → T (not (is_zero_of o.rest))
rest-nonzero {p} {r} {k} o n = cofactor-nonzero p o.rest (power r k) n o.factored

-- The multiplicities at other roots are those of the rest.
total-rest : {p : Polynomial} {r : ℤ} {k : ℕ} (o : Occurs p r k) → T (not (is_zero_of p)) → (rs : List ℤ)
    → ((s : ℤ) → Mem s rs → r ≢ s) → total_multiplicity p rs ≡ total_multiplicity o.rest rs
unfolding total_multiplicity
total-rest o n [] apart = refl
total-rest {p} {r} o n (s ∷ rs) apart =
    let other : s ≢ r = λ e. apart s mem-cons_self (sym e) in
    ap₂ ◌+◌ (occurs-unique (multiplicity-occurs p s n) (occurs-elsewhere o s other (multiplicity-occurs o.rest s (rest-nonzero o n))))
    (total-rest o n rs (λ q m. apart q (mem-cons_of_mem s m)))

pub multiplicities-few : (rs : List ℤ) (p : Polynomial) → T (not (is_zero_of p)) → Nodup rs → total_multiplicity p rs ≤ degree p
unfolding total_multiplicity
multiplicities-few [] p n d = zero-le
multiplicities-few (r ∷ rs) p n d =
    let (o, less) = multiplicity-counted p r n in
    let different = Pairwise-cons.0 d in
    omega (arith, less, total-rest o n rs different.0, multiplicities-few rs o.rest (rest-nonzero o n) different.1)
