-- The greatest common divisor of whole numbers and of a list of integers.
--
-- Main definitions
--   gcd a b         Euclid's recursion: the second operand falls at each call (SCOPE 8.9)
--   content p       the largest number by which all coefficients are divisible (SCOPE 2.23, 2.42); 0 if all are 0
--   divide_by d p    every coefficient divided by d
--   DividesAll d p  d divides every coefficient of p
--   IsContent p c   c is positive, divides every coefficient of p, and no greater number does
--
-- Main statements
--   gcd-zero, gcd-step                                  the recursion, without the bound on the number of calls
--   gcd-divides-left, gcd-divides-right, divides-gcd    the common divisor that every common divisor divides
--   gcd-unique                                          these facts determine it
--   gcd-comm, gcd-assoc, gcd-mul, gcd-eq-zero           the laws of gcd
--   content-divides, divides-content                    the content divides every coefficient; every common divisor divides it
--   content-zero                                        the content is 0 exactly if every coefficient is
--   content-greatest, content-unique                    the content is the greatest common divisor, and only it is
--   content-append, content-scale                       the content of two lists together, and of a multiple
--   scale-divide_by, divide_by-scale                      division by a common divisor and its inverse
--   eval-divide_by, is_zero-divide_by, divide_by-le         values, zeros and sizes after the division
--   content-primitive                                   the content divided out leaves content 1
use Rattle.std.specs.Prelude.{◌≡◌, refl, ◌≢◌, ◌↔◌, ◌⊎◌, not, List, [], ◌∷◌, ◌++◌, map, ℕ, zero, suc, ◌*◌, ◌%◌, ◌/◌, ◌≤◌, ◌<◌, T, ℤ, pos, negsuc, nat_abs, ◌*ℤ◌, length, get_or}
use Rattle.std.proofs.Common.{sym, ◌∙◌, ap, ap₂, inl, inr, not-suc-le-zero, le_refl, le_antisymm, lt_irrefl, pos_of_ne-zero, zero-lt-suc, eq-zero-or-pos, mul-zero, mul-one, mod-lt, arith, T_not}
use Rattle.std.specs.Int.{◌∣◌}
use Rattle.std.proofs.Math.Nat.{eq_of_mul-eq-mul_left, zero-div, mul-div_cancel', dvd_refl, dvd-zero, dvd_trans, dvd-mul_right, dvd-mod_iff, dvd_antisymm, mul-dvd-mul_left, dvd_of_mul-dvd-mul_left, le_of_dvd, eq-zero_of_zero-dvd, pos_of_dvd_of_pos}
use Rattle.std.proofs.Math.IntN.{*ℤ_comm}
use Rattle.std.proofs.lemmas.List.{length-map}
use Rattle.std.proofs.Math.ListN.{get_or-map}
use Rattle.std.specs.Int.Signed.{quot_z}
use Rattle.algebra.specs.Integers.{nat_abs-zero, nat_abs-*ℤ, pos-nonzero}
use Rattle.algebra.specs.Division.{DividesZ, quot_z-le, quot_z-exact, quot_z-divides_z}
use Rattle.algebra.specs.Polynomials.{is_zero_of, scale, eval, eval-scale, is_zero-cons, is_zero-scale, scale_one}

-- The first argument bounds the number of calls; the second operand is always enough (`gcd-step`).
unfoldable pub euclid : ℕ → ℕ → ℕ → ℕ
euclid zero a b = a
euclid (suc k) a zero = a
euclid (suc k) a (suc b) = euclid k (suc b) (a % suc b)

unfoldable pub gcd : ℕ → ℕ → ℕ
unfolding euclid
gcd a b = euclid b a b

unfoldable pub content : List ℤ → ℕ
unfolding gcd
content [] = 0
content (a ∷ p) = gcd (nat_abs a) (content p)

unfoldable pub divide_by : ℕ → List ℤ → List ℤ
divide_by d p = map (λ a. quot_z a (pos d)) p

abbrev pub DividesAll : ℕ → List ℤ → Type 0
DividesAll d p = (k : ℕ) → DividesZ d (get_or p k (pos 0))

-- What the content of p is, where p has a nonzero coefficient.
pub record IsContent (p : List ℤ) (c : ℕ) : Type 0 where
  pub positive : 0 < c
  pub divides : DividesAll c p
  pub greatest : (d : ℕ) → DividesAll d p → d ≤ c

-- ---- Euclid's recursion

remainder-fits : (a b k : ℕ) → suc b ≤ suc k → a % suc b ≤ k
remainder-fits a b k h = omega (arith, mod-lt a (zero-lt-suc b))

-- Two bounds that both are at least the second operand give the same number.
pub euclid-bound : (k l a b : ℕ) → b ≤ k → b ≤ l → euclid k a b ≡ euclid l a b
unfolding euclid
euclid-bound zero zero a b h g = refl
euclid-bound zero (suc l) a zero h g = refl
euclid-bound zero (suc l) a (suc b) h g = absurd (not-suc-le-zero h)
euclid-bound (suc k) zero a zero h g = refl
euclid-bound (suc k) zero a (suc b) h g = absurd (not-suc-le-zero g)
euclid-bound (suc k) (suc l) a zero h g = refl
euclid-bound (suc k) (suc l) a (suc b) h g = euclid-bound k l (suc b) (a % suc b) (remainder-fits a b k h) (remainder-fits a b l g)

pub gcd-zero : (a : ℕ) → gcd a 0 ≡ a
unfolding gcd
gcd-zero a = refl

pub gcd-step : (a b : ℕ) → gcd a (suc b) ≡ gcd (suc b) (a % suc b)
unfolding gcd
gcd-step a b = euclid-bound b (a % suc b) (suc b) (a % suc b) (remainder-fits a b b (le_refl (suc b))) (le_refl (a % suc b))

pub gcd-step-pos : (a b : ℕ) → 0 < b → gcd a b ≡ gcd b (a % b)
gcd-step-pos a zero h = absurd (not-suc-le-zero h)
gcd-step-pos a (suc b) h = gcd-step a b

-- Induction along the recursion: what holds at (a, 0), and at (a, b) if it holds at the next pair, holds everywhere.
pub euclid-induction : (P : ℕ → ℕ → Type 0) → ((a : ℕ) → P a 0) → ((a b : ℕ) → P (suc b) (a % suc b) → P a (suc b)) → (a b : ℕ) → P a b
euclid-induction P base step a b = go b a b (le_refl b)
  where
    go : (k a b : ℕ) → b ≤ k → P a b
    go zero a zero h = base a
    go zero a (suc b) h = absurd (not-suc-le-zero h)
    go (suc k) a zero h = base a
    go (suc k) a (suc b) h = step a b (go k (suc b) (a % suc b) (remainder-fits a b k h))

-- ---- the greatest common divisor of two whole numbers

pub gcd-divides : (a b : ℕ) → (gcd a b ∣ a) × (gcd a b ∣ b)
gcd-divides = euclid-induction (λ a b. (gcd a b ∣ a) × (gcd a b ∣ b)) base step
  where
    base : (a : ℕ) → (gcd a 0 ∣ a) × (gcd a 0 ∣ 0)
    base a = (rw (gcd-zero a) (dvd_refl a), dvd-zero (gcd a 0))

    step : (a b : ℕ) → (gcd (suc b) (a % suc b) ∣ suc b) × (gcd (suc b) (a % suc b) ∣ a % suc b)
        → (gcd a (suc b) ∣ a) × (gcd a (suc b) ∣ suc b)
    step a b h = rw (gcd-step a b) ((dvd-mod_iff (gcd (suc b) (a % suc b)) h.0).0 h.1, h.0)

pub gcd-divides-left : (a b : ℕ) → gcd a b ∣ a
gcd-divides-left a b = (gcd-divides a b).0

pub gcd-divides-right : (a b : ℕ) → gcd a b ∣ b
gcd-divides-right a b = (gcd-divides a b).1

pub divides-gcd : (d a b : ℕ) → d ∣ a → d ∣ b → d ∣ gcd a b
divides-gcd d = euclid-induction (λ a b. d ∣ a → d ∣ b → d ∣ gcd a b) base step
  where
    base : (a : ℕ) → d ∣ a → d ∣ 0 → d ∣ gcd a 0
    base a h g = rw (gcd-zero a) h

    step : (a b : ℕ) → (d ∣ suc b → d ∣ a % suc b → d ∣ gcd (suc b) (a % suc b)) → d ∣ a → d ∣ suc b → d ∣ gcd a (suc b)
    step a b next h g = rw (gcd-step a b) (next g ((dvd-mod_iff d g).1 h))

-- The two facts determine the number.
pub gcd-unique : (g a b : ℕ) → g ∣ a → g ∣ b → ((d : ℕ) → d ∣ a → d ∣ b → d ∣ g) → g ≡ gcd a b
gcd-unique g a b left right greatest =
    dvd_antisymm (divides-gcd g a b left right) (greatest (gcd a b) (gcd-divides-left a b) (gcd-divides-right a b))

pub gcd-comm : (a b : ℕ) → gcd a b ≡ gcd b a
gcd-comm a b = gcd-unique (gcd a b) b a (gcd-divides-right a b) (gcd-divides-left a b) (λ d h g. divides-gcd d a b g h)

pub zero-gcd : (a : ℕ) → gcd 0 a ≡ a
zero-gcd a = gcd-comm 0 a ∙ gcd-zero a

pub gcd-assoc : (a b c : ℕ) → gcd (gcd a b) c ≡ gcd a (gcd b c)
gcd-assoc a b c = gcd-unique (gcd (gcd a b) c) a (gcd b c)
    (dvd_trans _ inner (gcd-divides-left a b))
    (divides-gcd _ b c (dvd_trans _ inner (gcd-divides-right a b)) (gcd-divides-right (gcd a b) c))
    greatest
  where
    inner : gcd (gcd a b) c ∣ gcd a b
    inner = gcd-divides-left (gcd a b) c

    greatest : (d : ℕ) → d ∣ a → d ∣ gcd b c → d ∣ gcd (gcd a b) c
    greatest d h g =
        divides-gcd d (gcd a b) c (divides-gcd d a b h (dvd_trans d g (gcd-divides-left b c))) (dvd_trans d g (gcd-divides-right b c))

pub gcd-eq-zero : (a b : ℕ) → (gcd a b ≡ 0) ↔ ((a ≡ 0) × (b ≡ 0))
gcd-eq-zero a b = (zeros, λ h. ap₂ gcd h.0 h.1 ∙ gcd-zero 0)
  where
    zeros : gcd a b ≡ 0 → (a ≡ 0) × (b ≡ 0)
    zeros h = (eq-zero_of_zero-dvd (rw h at (gcd-divides-left a b)), eq-zero_of_zero-dvd (rw h at (gcd-divides-right a b)))

pub gcd-pos-left : (a b : ℕ) → 0 < a → 0 < gcd a b
gcd-pos-left a b h = pos_of_dvd_of_pos (gcd-divides-left a b) h

pub gcd-pos-right : (a b : ℕ) → 0 < b → 0 < gcd a b
gcd-pos-right a b h = pos_of_dvd_of_pos (gcd-divides-right a b) h

pub gcd-le-left : (a b : ℕ) → 0 < a → gcd a b ≤ a
gcd-le-left a b h = le_of_dvd h (gcd-divides-left a b)

pub gcd-le-right : (a b : ℕ) → 0 < b → gcd a b ≤ b
gcd-le-right a b h = le_of_dvd h (gcd-divides-right a b)

pub gcd-mul : (d a b : ℕ) → 0 < d → gcd (d * a) (d * b) ≡ d * gcd a b
gcd-mul d a b h = dvd_antisymm (rw (← split) (mul-dvd-mul_left (common / d) d (divides-gcd (common / d) a b left right))) back
  where
    common : ℕ
    common = gcd (d * a) (d * b)

    split : d * (common / d) ≡ common
    split = mul-div_cancel' d (divides-gcd d (d * a) (d * b) (dvd-mul_right d a) (dvd-mul_right d b))

    left : common / d ∣ a
    left = dvd_of_mul-dvd-mul_left (common / d) h (rw split (gcd-divides-left (d * a) (d * b)))

    right : common / d ∣ b
    right = dvd_of_mul-dvd-mul_left (common / d) h (rw split (gcd-divides-right (d * a) (d * b)))

    back : d * gcd a b ∣ common
    back = divides-gcd (d * gcd a b) (d * a) (d * b)
        (mul-dvd-mul_left (gcd a b) d (gcd-divides-left a b)) (mul-dvd-mul_left (gcd a b) d (gcd-divides-right a b))

-- ---- the content of a list of integers

divides_all-tail : (d : ℕ) (a : ℤ) (p : List ℤ) → DividesAll d (a ∷ p) → DividesAll d p
divides_all-tail d a p h k = h (suc k)

pub content-divides : (p : List ℤ) → DividesAll (content p) p
unfolding content
content-divides [] k = dvd-zero 0
content-divides (a ∷ p) zero = gcd-divides-left (nat_abs a) (content p)
content-divides (a ∷ p) (suc k) = dvd_trans _ (gcd-divides-right (nat_abs a) (content p)) (content-divides p k)

pub divides-content : (d : ℕ) (p : List ℤ) → DividesAll d p → d ∣ content p
unfolding content
divides-content d [] h = dvd-zero d
divides-content d (a ∷ p) h = divides-gcd d (nat_abs a) (content p) (h 0) (divides-content d p (divides_all-tail d a p h))

-- A divisor of the content divides every coefficient.
pub divides_all-of-content : (d : ℕ) (p : List ℤ) → d ∣ content p → DividesAll d p
divides_all-of-content d p h k = dvd_trans d h (content-divides p k)

pub content-zero : (p : List ℤ) → (content p ≡ 0) ↔ T (is_zero_of p)
unfolding content is_zero_of
content-zero [] = (λ h. tt, λ h. refl)
content-zero (a ∷ p) = (forth (content-zero p).0, back (content-zero p).1)
  where
    forth : (content p ≡ 0 → T (is_zero_of p)) → gcd (nat_abs a) (content p) ≡ 0 → T (is_zero_of (a ∷ p))
    forth rest h = let zeros = (gcd-eq-zero (nat_abs a) (content p)).0 h in (is_zero-cons a p).1 (nat_abs-zero zeros.0, rest zeros.1)

    back : (T (is_zero_of p) → content p ≡ 0) → T (is_zero_of (a ∷ p)) → gcd (nat_abs a) (content p) ≡ 0
    back rest h =
        let zeros = (is_zero-cons a p).0 h in
        (gcd-eq-zero (nat_abs a) (content p)).1 (ap nat_abs zeros.0, rest zeros.1)

pub content-pos : (p : List ℤ) → T (not (is_zero_of p)) → 0 < content p
content-pos p h = pos_of_ne-zero (λ e. T_not (is_zero_of p) h ((content-zero p).0 e))

-- A nonzero coefficient is enough.
pub content-pos-at : (p : List ℤ) (k : ℕ) → get_or p k (pos 0) ≢ pos 0 → 0 < content p
content-pos-at p k h = pos_of_ne-zero (λ e. h (nat_abs-zero (eq-zero_of_zero-dvd (rw e at (content-divides p k)))))

pub content-greatest : (p : List ℤ) → T (not (is_zero_of p)) → IsContent p (content p)
content-greatest p h =
    record {
      positive = content-pos p h;
      divides = content-divides p;
      greatest = λ d g. le_of_dvd (content-pos p h) (divides-content d p g);
    }

-- If every coefficient were 0, every number would divide all of them and none were the greatest.
pub content-unique : (p : List ℤ) (c : ℕ) → IsContent p c → c ≡ content p
content-unique p c h = cases (eq-zero-or-pos (content p))
  where
    cases : (content p ≡ 0) ⊎ (0 < content p) → c ≡ content p
    cases (inl e) = absurd (lt_irrefl c (h.greatest (suc c) (divides_all-of-content (suc c) p (rw e (dvd-zero (suc c))))))
    cases (inr n) = le_antisymm (le_of_dvd n (divides-content c p h.divides)) (h.greatest (content p) (content-divides p))

pub content-append : (p q : List ℤ) → content (p ++ q) ≡ gcd (content p) (content q)
unfolding content
content-append [] q = sym (zero-gcd (content q))
content-append (a ∷ p) q = ap (gcd (nat_abs a)) (content-append p q) ∙ sym (gcd-assoc (nat_abs a) (content p) (content q))

-- ---- division by a common divisor

pub length-divide_by : (d : ℕ) (p : List ℤ) → length (divide_by d p) ≡ length p
unfolding divide_by
length-divide_by d p = length-map p (λ a. quot_z a (pos d))

pub divide_by-get_or : (d : ℕ) (p : List ℤ) (k : ℕ) → get_or (divide_by d p) k (pos 0) ≡ quot_z (get_or p k (pos 0)) (pos d)
unfolding divide_by
divide_by-get_or d p k =
    ap (λ n. get_or (map (λ a. quot_z a (pos d)) p) k (pos n)) (sym (zero-div d)) ∙ get_or-map (λ a. quot_z a (pos d)) p k (pos 0)

pub divide_by-le : (d : ℕ) (p : List ℤ) (k : ℕ) → nat_abs (get_or (divide_by d p) k (pos 0)) ≤ nat_abs (get_or p k (pos 0))
divide_by-le d p k = rw (divide_by-get_or d p k) (quot_z-le (get_or p k (pos 0)) (pos d))

pub scale-divide_by : (d : ℕ) (p : List ℤ) → DividesAll d p → scale (pos d) (divide_by d p) ≡ p
unfolding scale divide_by
scale-divide_by d [] h = refl
scale-divide_by d (a ∷ p) h =
    ap₂ ◌∷◌ (*ℤ_comm (pos d) (quot_z a (pos d)) ∙ quot_z-divides_z d a (h 0)) (scale-divide_by d p (divides_all-tail d a p h))

pub divide_by-scale : (d : ℕ) (p : List ℤ) → 0 < d → divide_by d (scale (pos d) p) ≡ p
unfolding scale divide_by
divide_by-scale d [] h = refl
divide_by-scale d (a ∷ p) h =
    ap₂ ◌∷◌ (ap (λ e. quot_z e (pos d)) (*ℤ_comm (pos d) a) ∙ quot_z-exact a (pos d) (pos-nonzero h)) (divide_by-scale d p h)

pub divide_by-one : (p : List ℤ) → divide_by 1 p ≡ p
divide_by-one p = ap (divide_by 1) (sym (scale_one p)) ∙ divide_by-scale 1 p (zero-lt-suc 0)

pub eval-divide_by : (d : ℕ) (p : List ℤ) (x : ℤ) → DividesAll d p → pos d *ℤ eval (divide_by d p) x ≡ eval p x
eval-divide_by d p x h = sym (eval-scale (pos d) (divide_by d p) x) ∙ ap (λ q. eval q x) (scale-divide_by d p h)

pub is_zero-divide_by : (d : ℕ) (p : List ℤ) → 0 < d → DividesAll d p → is_zero_of (divide_by d p) ≡ is_zero_of p
is_zero-divide_by d p n h = sym (is_zero-scale (pos d) (pos-nonzero n) (divide_by d p)) ∙ ap is_zero_of (scale-divide_by d p h)

pub content-scale : (d : ℕ) (p : List ℤ) → 0 < d → content (scale (pos d) p) ≡ d * content p
unfolding content scale
content-scale d [] h = sym (mul-zero d)
content-scale d (a ∷ p) h = ap₂ gcd (nat_abs-*ℤ (pos d) a) (content-scale d p h) ∙ gcd-mul d (nat_abs a) (content p) h

-- What is left after the content is divided out has content 1.
pub content-primitive : (p : List ℤ) → T (not (is_zero_of p)) → content (divide_by (content p) p) ≡ 1
content-primitive p h = eq_of_mul-eq-mul_left c n (content (divide_by c p)) 1
    (sym (content-scale c (divide_by c p) n) ∙ ap content (scale-divide_by c p (content-divides p)) ∙ sym (mul-one c))
  where
    c : ℕ
    c = content p

    n : 0 < c
    n = content-pos p h

-- ---- examples

gcd-example : gcd 12 18 ≡ 6
unfolding gcd
gcd-example = refl

gcd-both-zero : gcd 0 0 ≡ 0
unfolding gcd
gcd-both-zero = refl

gcd-zero-left : gcd 0 268435455 ≡ 268435455
unfolding gcd
gcd-zero-left = refl

-- 268435455 = 2^28 - 1 and 65535 = 2^16 - 1: the greatest common divisor is 2^4 - 1.
gcd-large : gcd 268435455 65535 ≡ 15
unfolding gcd
gcd-large = refl

content-example : content (negsuc 5 ∷ pos 0 ∷ pos 15 ∷ pos 9 ∷ []) ≡ 3
unfolding content
content-example = refl

content-of-zeros : content (pos 0 ∷ pos 0 ∷ []) ≡ 0
unfolding content
content-of-zeros = refl

content-large : content (pos 268435455 ∷ negsuc 268435454 ∷ []) ≡ 268435455
unfolding content
content-large = refl

divide_by-example : divide_by 3 (negsuc 5 ∷ pos 0 ∷ pos 15 ∷ []) ≡ negsuc 1 ∷ pos 0 ∷ pos 5 ∷ []
unfolding divide_by
divide_by-example = refl
