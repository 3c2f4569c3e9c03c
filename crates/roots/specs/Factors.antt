-- The factors of a whole number, found by trial division up to a limit.
--
-- Main definitions
--   product l          the product of the numbers of l
--   Simple n f         f is above 1, and of its divisors below n there are only 1 and f
--   Factored n a l     the product of l is a, and each number of l is simple
--   Factoring n a l rest q   the numbers of l and the rest have the product a, and q is at most every divisor of the rest but 1
--   Gap q gap          after q, q + gap is tried
--   Run q l m          l is m after some numbers q
--   Remaining n d l    simple factors l, whose product with d is at most C
--
-- Main statements
--   factoring-start, factoring-take, factoring-pass   the turns of the trial division
--   factoring-last, factoring-done   its end, where the rest is a factor and where it is 1
--   rest-positive, rest-small, few-factors   the rest is at most the number, and of a number up to C fewer than 28 factors are found
--   simple-coprime     a simple number is coprime to a number below the limit that it does not divide
--   run-next, run-divides   a run passed, and what divides the product and is coprime to the run
--   remaining-none, remaining-all, remaining-with, remaining-without   no factor left; all factors; those after the first; those after the run of the first
use Rattle.std.specs.Prelude.{ℕ, ◌+◌, ◌*◌, ◌-◌, ◌/◌, ◌%◌, ◌^◌, ◌≤◌, ◌<◌, ◌≡◌, refl, ◌≢◌, ◌⊎◌, length}
use Rattle.std.specs.Int.{◌∣◌}
use Rattle.std.proofs.Common.{sym, ◌∙◌, ap, subst, inl, inr, ⊎_elim, le_refl, le_trans, le_of_eq, eq-or-lt_of_le, eq-zero-or-pos, pos_of_ne-zero, lt_of_not-le, mul-one, one-mul, mul_assoc, mul_comm, mul-zero, mul-pos, mul-le-mul, mul-le-mul_left, le-mul_of_pos_right, le-div_iff_mul-le, arith}
use Rattle.std.proofs.Math.Logic.{by_cases}
use mathlib.Core.List.{List, [], ◌∷◌, ◌++◌, prod, prod-append}
use mathlib.Core.List.Memᴰ
use mathlib.Core.List.{Memᴰ}
use Rattle.std.proofs.Math.Nat.{two-pow-succ, pow-le-pow_right, dvd_refl, dvd-zero, dvd_trans, dvd-mul_left, le_of_dvd, pos_of_dvd_of_pos, mul-div_cancel', dvd_of_mod-eq-zero, div-mul_cancel}
use Rattle.std.proofs.Math.Decide.{dec_le}
use Rattle.algebra.specs.Gcd.{gcd, gcd-divides-left, gcd-divides-right, gcd-le-left, divides-gcd, gcd-mul}
use Rattle.rules.specs.Limits.{bound}

abbrev pub product : List ℕ → ℕ
product l = prod ◌*◌ 1 l

pub record Simple (n f : ℕ) : Type 0 where
  pub large : 1 < f
  pub divisors : (g : ℕ) → g ∣ f → g < n → (g ≡ 1) ⊎ (g ≡ f)

abbrev pub AllSimple : ℕ → List ℕ → Type 0
AllSimple n l = (f : ℕ) → Memᴰ f l → Simple n f

pub record Factored (n a : ℕ) (l : List ℕ) : Type 0 where
  pub whole : product l ≡ a
  pub simple : AllSimple n l

pub product-cons : (f : ℕ) (l : List ℕ) → product (f ∷ l) ≡ f * product l
unfolding prod
product-cons f l = refl

product-snoc : (l : List ℕ) (f : ℕ) → product (l ++ (f ∷ [])) ≡ product l * f
unfolding prod
product-snoc l f = prod-append ◌*◌ 1 one-mul mul_assoc l (f ∷ []) ∙ ap (λ k. product l * k) (mul-one f)

simple-snoc : {n : ℕ} (l : List ℕ) {f : ℕ} → AllSimple n l → Simple n f → AllSimple n (l ++ (f ∷ []))
simple-snoc {n} l s t g m =
    ⊎_elim (s g) (λ k. subst (Simple n) (sym (Memᴰ.eq_of_singleton k)) t) (Memᴰ.append_cases l m)

-- Each factor doubles the product at least.
product-large : {n : ℕ} (l : List ℕ) → AllSimple n l → 2 ^ length l ≤ product l
unfolding prod
product-large [] s = le_refl 1
product-large (f ∷ l) s =
    let rest = product-large l (λ g m. s g (Memᴰ.tail m)) in
    omega (arith, two-pow-succ (length l), mul-le-mul (s f (Memᴰ.head refl)).large rest)

pub product-positive : {n : ℕ} (l : List ℕ) → AllSimple n l → 0 < product l
product-positive l s = le_trans (pow-le-pow_right {n = 2} (omega arith) {i = 0} {j = length l} (omega arith)) (product-large l s)

-- ---- trial division

pub record Factoring (n a : ℕ) (l : List ℕ) (rest q : ℕ) : Type 0 where
  pub whole : product l * rest ≡ a
  pub simple : AllSimple n l
  pub low : 2 ≤ q
  pub least : (g : ℕ) → g ∣ rest → 1 < g → q ≤ g

-- From q to the number that is tried after it: 2, 3, and then those that neither 2 nor 3 divides.
pub data Gap : ℕ → ℕ → Type 0 where
  two : Gap 2 1
  three : Gap 3 2
  five : {q : ℕ} → q % 6 ≡ 5 → Gap q 2
  seven : {q : ℕ} → 3 < q → q % 6 ≡ 1 → Gap q 4

pub gap-bounds : {q gap : ℕ} → Gap q gap → (0 < gap) × (gap ≤ 4)
gap-bounds two = omega arith
gap-bounds three = omega arith
gap-bounds (five e) = omega arith
gap-bounds (seven h e) = omega arith

pub gap-early : {q gap : ℕ} → Gap q gap → q < 5 → Gap (q + gap) 2
gap-early two h = three
gap-early three h = five refl
gap-early (five e) h = absurd (omega arith)
gap-early (seven k e) h = absurd (omega arith)

pub gap-late : {q gap : ℕ} → Gap q gap → 5 ≤ q → Gap (q + gap) (6 - gap)
gap-late two h = absurd (omega arith)
gap-late three h = absurd (omega arith)
gap-late {q} (five e) h = seven {q = q + 2} (omega arith) (omega arith)
gap-late {q} (seven k e) h = five {q = q + 4} (omega arith)

-- What is between has the divisor 2 or 3.
gap-between : {q gap : ℕ} → Gap q gap → (g : ℕ) → q < g → g < q + gap → ((2 < q) × (g % 2 ≡ 0)) ⊎ ((3 < q) × (g % 3 ≡ 0))
gap-between two g k m = absurd (omega arith)
gap-between three g k m = inl (omega arith, omega arith)
gap-between (five e) g k m = inl (omega arith, omega arith)
gap-between (seven h e) g k m =
    by_cases (dec_le (g % 2) 0)
    (λ even. inl (omega arith, omega arith))
    (λ odd. let o = lt_of_not-le odd in inr (omega arith, omega arith))

pub factoring-start : (n a : ℕ) → Factoring n a [] a 2
unfolding prod
factoring-start n a =
    record { whole = one-mul a; simple = λ f m. absurd (Memᴰ.not-nil m); low = le_refl 2; least = λ g h k. k }

module _ {n a : ℕ} {l : List ℕ} {rest q : ℕ} (s : Factoring n a l rest q) where
  -- The least divisor but 1 is simple.
  pub factoring-take : rest / q * q ≡ rest → Factoring n a (l ++ (q ∷ [])) (rest / q) q
  factoring-take h =
      record {
        whole = ap (λ k. k * (rest / q)) (product-snoc l q) ∙ mul_assoc (product l) q (rest / q) ∙ ap (λ k. product l * k) exact ∙ s.whole;
        simple = simple-snoc l s.simple (record { large = s.low; divisors = simple });
        low = s.low;
        least = λ g k. s.least g (subst (λ r. g ∣ r) exact (dvd_trans g k (dvd-mul_left (rest / q) q)));
      }
    where
      divides : q ∣ rest
      divides = subst (λ r. q ∣ r) h (dvd-mul_left q (rest / q))

      exact : q * (rest / q) ≡ rest
      exact = mul_comm q (rest / q) ∙ h

      simple : (g : ℕ) → g ∣ q → g < n → (g ≡ 1) ⊎ (g ≡ q)
      simple g k _ =
          let positive = pos_of_dvd_of_pos k (omega (arith, s.low)) in
          let small = le_of_dvd (omega (arith, s.low)) k in
          ⊎_elim (λ e. inl (sym e)) (λ m. inr (omega (arith, s.least g (dvd_trans g k divides) m))) (eq-or-lt_of_le positive)

  -- A divisor between would have the smaller divisor 2 or 3.
  pub factoring-pass : {gap : ℕ} → Gap q gap → rest / q * q ≢ rest → Factoring n a l rest (q + gap)
  factoring-pass {gap} t h = record { whole = s.whole; simple = s.simple; low = omega (arith, s.low); least = next }
    where
      multiple : (g m : ℕ) → g ∣ rest → 1 < m → m < q → g % m ≡ 0 → ⊥
      multiple g m d k o e = omega (arith, s.least m (dvd_trans m (dvd_of_mod-eq-zero m e) d) k)

      passed : (g : ℕ) → g ∣ rest → q < g → g < q + gap → ⊥
      passed g d k o =
          ⊎_elim
          (λ e. multiple g 2 d (omega arith) e.0 e.1)
          (λ e. multiple g 3 d (omega arith) e.0 e.1)
          (gap-between t g k o)

      next : (g : ℕ) → g ∣ rest → 1 < g → q + gap ≤ g
      next g d k =
          by_cases (dec_le (q + gap) g) (λ m. m)
          (λ m.
          ⊎_elim (λ e. absurd (h (div-mul_cancel q (subst (λ i. i ∣ rest) (sym e) d)))) (λ o. absurd (passed g d o (lt_of_not-le m)))
          (eq-or-lt_of_le (s.least g d k)))

  pub factoring-done : rest ≡ 1 → Factored n a l
  factoring-done e = record { whole = sym (mul-one (product l)) ∙ ap (λ r. product l * r) (sym e) ∙ s.whole; simple = s.simple }

  -- A proper divisor of the rest and its cofactor are both at least q.
  pub factoring-last : 1 < rest → (rest / q < q) ⊎ (n ≤ q) → Factored n a (l ++ (rest ∷ []))
  factoring-last h end =
      record {
        whole = product-snoc l rest ∙ s.whole;
        simple = simple-snoc l s.simple (record { large = h; divisors = simple });
      }
    where
      proper : (g : ℕ) → g ∣ rest → g < n → 1 < g → 1 < rest / g → ⊥
      proper g d k m o =
          let exact = mul-div_cancel' g d in
          let first = s.least g d m in
          let second = s.least (rest / g) (subst (λ r. rest / g ∣ r) exact (dvd-mul_left (rest / g) g)) o in
          let square = subst (λ r. q * q ≤ r) exact (mul-le-mul first second) in
          let more = (le-div_iff_mul-le {k = q} {x = q} {y = rest} (omega (arith, s.low))).1 square in
          ⊎_elim (λ e. omega arith) (λ e. omega arith) end

      simple : (g : ℕ) → g ∣ rest → g < n → (g ≡ 1) ⊎ (g ≡ rest)
      simple g d k =
          let exact = mul-div_cancel' g d in
          let positive = pos_of_dvd_of_pos d (omega arith) in
          ⊎_elim (λ e. inl (sym e))
          (λ m.
          ⊎_elim
          (λ z. absurd (omega (arith, exact, ap (λ c. g * c) z, mul-zero g)))
          (λ c. ⊎_elim (λ e. inr (sym (mul-one g) ∙ ap (λ c. g * c) e ∙ exact)) (λ o. absurd (proper g d k m o)) (eq-or-lt_of_le c))
          (eq-zero-or-pos (rest / g)))
          (eq-or-lt_of_le positive)

  pub rest-positive : 0 < a → 0 < rest
  rest-positive h = pos_of_ne-zero (λ z. omega (arith, s.whole, ap (λ r. product l * r) z, mul-zero (product l)))

  pub rest-small : rest ≤ a
  rest-small = omega (arith, s.whole, le-mul_of_pos_right rest (product-positive l s.simple), mul_comm rest (product l))

  -- 2^28 is past C.
  pub few-factors : 0 < a → a ≤ bound → length l < 28
  few-factors h small = by_cases (dec_le 28 (length l)) (λ k. absurd (full k)) lt_of_not-le
    where
      full : 28 ≤ length l → ⊥
      full k =
          let large = le_trans (pow-le-pow_right {n = 2} (omega arith) k) (product-large l s.simple) in
          omega (arith, s.whole, le-mul_of_pos_right (product l) (rest-positive h))

-- ---- the divisors of a product

coprime-divides : (e q c : ℕ) → gcd e q ≡ 1 → e ∣ q * c → e ∣ c
coprime-divides e q c h k =
    ⊎_elim (λ z. subst (λ m. e ∣ m) (sym z) (dvd-zero e))
    (λ p.
    subst (λ m. e ∣ m) (gcd-mul c e q p ∙ ap (λ g. c * g) h ∙ mul-one c)
    (divides-gcd e (c * e) (c * q) (dvd-mul_left e c) (subst (λ m. e ∣ m) (mul_comm q c) k)))
    (eq-zero-or-pos c)

pub simple-coprime : {n q : ℕ} (e : ℕ) → Simple n q → 0 < e → e < n → (q ∣ e → ⊥) → gcd e q ≡ 1
simple-coprime {n} {q} e s positive small other =
    ⊎_elim (λ h. h) (λ h. absurd (other (subst (λ g. g ∣ e) h (gcd-divides-left e q))))
    (s.divisors (gcd e q) (gcd-divides-right e q) (omega (arith, gcd-le-left e q positive)))

pub data Run (q : ℕ) : List ℕ → List ℕ → Type 0 where
  stop : {l : List ℕ} → Run q l l
  pass : {l m : List ℕ} → Run q l m → Run q (q ∷ l) m

-- Where what comes after the run is known to begin with q.
run-next-of : {q : ℕ} {m l k : List ℕ} → Run q l k → k ≡ q ∷ m → Run q l m
run-next-of {q} {m} stop e = subst (λ l. Run q l m) (sym e) (pass stop)
run-next-of (pass r) e = pass (run-next-of r e)

pub run-next : {q : ℕ} {l m : List ℕ} → Run q l (q ∷ m) → Run q l m
run-next r = run-next-of r refl

run-simple : {n q : ℕ} {l m : List ℕ} → Run q l m → AllSimple n l → AllSimple n m
run-simple stop s = s
run-simple (pass r) s = run-simple r (λ f m. s f (Memᴰ.tail m))

run-product : {q : ℕ} {l m : List ℕ} → Run q l m → product m ∣ product l
run-product {l} stop = dvd_refl (product l)
run-product {q} {m} (pass {l} r) = rw (product-cons q l) (dvd_trans (product m) (run-product r) (dvd-mul_left (product l) q))

pub run-divides : {q : ℕ} {l m : List ℕ} (e : ℕ) → gcd e q ≡ 1 → Run q l m → e ∣ product l → e ∣ product m
run-divides e h stop d = d
run-divides {q} e h (pass {l} r) d = run-divides e h r (coprime-divides e q (product l) h (subst (λ k. e ∣ k) (product-cons q l) d))

-- ---- the factors that are left

-- d and simple factors l, whose product with d is at most C.
pub record Remaining (n d : ℕ) (l : List ℕ) : Type 0 where
  pub positive : 0 < d
  pub simple : AllSimple n l
  pub small : d * product l ≤ bound

pub remaining-none : {n d : ℕ} → Remaining n d [] → d ≤ bound
unfolding prod
remaining-none {d} r = le_trans (le_of_eq (sym (mul-one d))) r.small

pub remaining-all : {n a : ℕ} {l : List ℕ} → Factored n a l → a ≤ bound → Remaining n 1 l
remaining-all {l} f h =
    record { positive = le_refl 1; simple = f.simple; small = le_trans (le_of_eq (one-mul (product l) ∙ f.whole)) h }

module _ {n d q : ℕ} {l : List ℕ} (r : Remaining n d (q ∷ l)) where
  others-simple : AllSimple n l
  others-simple f m = r.simple f (Memᴰ.tail m)

  all_small : d * q * product l ≤ bound
  all_small = le_trans (le_of_eq (mul_assoc d q (product l) ∙ ap (λ k. d * k) (sym (product-cons q l)))) r.small

  pub remaining-with : Remaining n (d * q) l
  remaining-with =
      let large = (r.simple q (Memᴰ.head refl)).large in
      record { positive = mul-pos r.positive (omega arith); simple = others-simple; small = all_small }

  pub next_small : d * q ≤ bound
  next_small = le_trans (le-mul_of_pos_right (d * q) (product-positive l others-simple)) all_small

pub remaining-without : {n d q : ℕ} {l m : List ℕ} → Remaining n d l → Run q l m → Remaining n d m
remaining-without {d} {l} r run =
    let fewer = le_of_dvd (product-positive l r.simple) (run-product run) in
    record { positive = r.positive; simple = run-simple run r.simple; small = le_trans (mul-le-mul_left d fewer) r.small }
