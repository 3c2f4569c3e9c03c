-- What the functions on one polynomial's coefficients go by: loops from the front and from the top, coefficients read from and stored
-- as i64, and the sizes that keep them in range.
--
-- Main definitions
--   Below n p              every coefficient of p has a size below n
--
-- Main statements
--   read_back, zero_bits, nonzero-bits   an i64 and its bits
--   skip-zero              one coefficient more from the front that is zero and changes nothing
--   is_zero-tested         a test of every coefficient for zero is that of the polynomial
--   is_zero-false, lowest-first   a nonzero coefficient makes p nonzero; at the front it is the lowest
--   or-zero, join-next     joined bits are 0 exactly if both are; one coefficient more is joined
--   degree-below           there is a coefficient at the degree
--   zeros-part, zeros_within   several zero coefficients less from the top; no power past the others
--   degree-bottom, degree-found   none left past power 0: the degree is 0; what a search from the top finds is the degree
--   content-front          zeros at the top leave the content
--   content-next, one-gcd  a coefficient joins the greatest common divisor of those passed; 1 stays 1
--   quotient-stored        the quotient by a positive i64, stored, is a coefficient of `divide_by`
--   small_at, below-of-small, below-divide_by   sizes of coefficients and of quotients
--   content-bounds         the content of two polynomials within ±C that are not both zero is positive and at most C
--   signs-turned, signs-kept   the two cases of rule 2's signs
use Rattle.std.specs.Prelude.{◌≡◌, refl, ◌≢◌, ◌↔◌, IsTrue, EachIndex, MatchOption, Option, Bool, true, false, not, cond, ◌&&◌, [], ◌∷◌, ◌++◌, ℕ, zero, suc, ◌+◌, ◌-◌, ◌^◌, ◌≤◌, ◌<◌, T, eqb, ℤ, pos, negsuc, nat_abs, length, get_or, take, drop}
use Rattle.std.proofs.Common.{sym, ◌∙◌, ap, ap₂, subst, ⊎_elim, pos_of_ne-zero, le_trans, not-suc-le-zero, arith, ltb→lt, leb→le, take-append-drop, SFits, of_z, to_z, to_z-of_z, ne_eqb}
use Rattle.std.specs.Option.{unwrap_or}
use Rattle.std.proofs.Common.{None, Some}
use Rattle.std.proofs.lemmas.Bool.{cases_lt}
use Rattle.std.proofs.lemmas.List.{get_or-take, length-take-le}
use Rattle.std.proofs.Math.Bool.{and_assoc}
use Rattle.std.proofs.Math.Nat.{le_of_dvd, dvd-one}
use Rattle.std.specs.Int.Bits.{bit_or, or_add_and}
use Rattle.std.proofs.lemmas.Nat.{and_le_r}
use Rattle.std.proofs.Math.Dec.{eqb-suc-zero}
use Rattle.std.specs.Int.Signed.{mag, lt_z, quot_z}
use Rattle.std.specs.Int.{w64}
use Rattle.std.proofs.Math.Facts.{sfits_lit}
use borrow.Author.Rules.{sfits_of}
use Rattle.algebra.specs.Integers.{nat_abs-zero}
use Rattle.algebra.specs.Polynomials.{Polynomial, coeff, negate, is_zero_ℤ, is_zero_of, lead, lowest, degree, is_zero_ℤ-not-iff, is_zero-coeff, coeff-is_zero, is_zero-append}
use Rattle.algebra.specs.Coefficients.{Within, coeff-drop, coeff-degree, coeff-past-length, lead-nonzero, degree-le, degree-unique, degree-lt-length}
use Rattle.algebra.specs.Gcd.{gcd, content, content-append, content-zero, gcd-zero, divide_by, gcd-comm, gcd-assoc, gcd-divides-left}
use Rattle.algebra.specs.Gcd.{content-divides, content-pos, divide_by-get_or, divide_by-le}
use Rattle.rules.specs.Limits.{bound, small}
use Rattle.lists.specs.Tests.{every, every-get_or, every-join, T-&&}
use Rattle.lists.specs.Taken.{drop-next, rest-past}
use Rattle.rules.specs.Elimination.{turn_signs_of}
use Rattle.integers.specs.Ranges.{of_z-inj, of_z-zero}

-- Every coefficient has a size below n.
abbrev pub Below : ℕ → Polynomial → Type 0
Below n p = (k : ℕ) → nat_abs (get_or p k (pos 0)) < n

-- ---- an i64 and its bits

pub read_back : (a : ℤ) → mag a < 2 ^ 63 → to_z w64 (of_z w64 a) ≡ a
read_back a h = to_z-of_z {w = w64} (sfits_of h)

-- The machine tests the bits.
pub zero_bits : {a : ℤ} → SFits w64 a → of_z w64 a ≡ 0 → a ≡ pos 0
zero_bits f e = of_z-inj {z = pos 0} f (sfits_lit tt) e

pub nonzero-bits : {a : ℤ} → (of_z w64 a ≡ 0 → ⊥) → a ≢ pos 0
nonzero-bits h e = h (ap (of_z w64) e)

-- ---- from the front

pub skip-zero : {A : Type 0} (f : Polynomial → A) → ((q : Polynomial) → f (pos 0 ∷ q) ≡ f q)
    → (p : Polynomial) (i : ℕ) → i < length p → get_or p i (pos 0) ≡ pos 0 → f (drop i p) ≡ f (drop (i + 1) p)
skip-zero f h p i l e = ap f (drop-next p i (pos 0) l ∙ ap (λ a. a ∷ drop (i + 1) p) e) ∙ h (drop (i + 1) p)

-- A test of every coefficient for zero is that of the polynomial.
pub is_zero-tested : (b : Bool) (p : Polynomial) → IsTrue b ↔ EachIndex p (λ k. get_or p k (pos 0) ≡ pos 0) → b ≡ is_zero_of p
unfolding coeff
is_zero-tested b p h = tested b (is_zero_of p) (λ e. coeff-is_zero p (zero-at (h.0 e))) (λ z. h.1 (λ k l. is_zero-coeff p z k))
  where
    zero-at : EachIndex p (λ k. get_or p k (pos 0) ≡ pos 0) → (k : ℕ) → coeff p k ≡ pos 0
    zero-at each k = ⊎_elim (each k) (coeff-past-length p k) (cases_lt k (length p))

    tested : (b t : Bool) → (IsTrue b → T t) → (T t → IsTrue b) → b ≡ t
    tested true true f g = refl
    tested true false f g = absurd (f refl)
    tested false true f g = g tt
    tested false false f g = refl

pub is_zero-false : (p : Polynomial) (k : ℕ) → get_or p k (pos 0) ≢ pos 0 → is_zero_of p ≡ false
unfolding coeff
is_zero-false p k n = cases (is_zero_of p) (λ z. n (is_zero-coeff p z k))
  where
    cases : (t : Bool) → (T t → ⊥) → t ≡ false
    cases true h = absurd (h tt)
    cases false h = refl

pub lowest-first : (a : ℤ) (q : Polynomial) → a ≢ pos 0 → lowest (a ∷ q) ≡ a
unfolding lowest
lowest-first a q n = cases (is_zero_ℤ a) ((is_zero_ℤ-not-iff a).1 n)
  where
    cases : (t : Bool) → T (not t) → cond t (lowest q) a ≡ a
    cases true h = absurd h
    cases false h = refl

pub or-zero : (a b : ℕ) → eqb (bit_or a b) 0 ≡ (eqb a 0 && eqb b 0)
or-zero zero b = refl
or-zero (suc a) b =
    ne_eqb (bit_or (suc a) b) 0 (λ e. omega (arith, or_add_and (suc a) b, and_le_r (suc a) b))
    ∙ sym (ap (λ t. t && eqb b 0) (eqb-suc-zero a))

-- The bits of coefficient i are joined to those of the coefficients before it.
pub join-next : (joined : ℕ) (p : Polynomial) (i : ℕ) → i < length p → SFits w64 (get_or p i (pos 0))
    → (eqb joined 0 && is_zero_of (drop i p)) ≡ (eqb (bit_or joined (of_z w64 (get_or p i (pos 0)))) 0 && is_zero_of (drop (i + 1) p))
unfolding is_zero_of is_zero_ℤ
join-next joined p i h f =
    let a = get_or p i (pos 0) in
    let rest = is_zero_of (drop (i + 1) p) in
    ap (λ q. eqb joined 0 && is_zero_of q) (drop-next p i (pos 0) h) ∙ ap (λ t. eqb joined 0 && (t && rest)) (sym (of_z-zero a f))
    ∙ sym (and_assoc (eqb joined 0) (eqb (of_z w64 a) 0) rest) ∙ ap (λ t. t && rest) (sym (or-zero joined (of_z w64 a)))

-- Coefficient i is joined to the greatest common divisor d of those before it.
pub content-next : (d : ℕ) (p : Polynomial) (i : ℕ) → i < length p
    → gcd d (content (drop i p)) ≡ gcd (gcd (nat_abs (get_or p i (pos 0))) d) (content (drop (i + 1) p))
unfolding content
content-next d p i h =
    let a = nat_abs (get_or p i (pos 0)) in
    let rest = content (drop (i + 1) p) in
    ap (λ q. gcd d (content q)) (drop-next p i (pos 0) h) ∙ sym (gcd-assoc d a rest) ∙ ap (λ e. gcd e rest) (gcd-comm d a)

-- Where the coefficients from n on are zero, those before have the content.
pub content-front : (p : Polynomial) (n : ℕ) → T (is_zero_of (drop n p)) → content p ≡ content (take n p)
content-front p n z =
    ap content (sym (take-append-drop n p)) ∙ content-append (take n p) (drop n p)
    ∙ ap (gcd (content (take n p))) ((content-zero (drop n p)).1 z) ∙ gcd-zero (content (take n p))

pub one-gcd : (n : ℕ) → gcd 1 n ≡ 1
one-gcd n = dvd-one.0 (gcd-divides-left 1 n)

-- ---- from the top

-- Zeros taken off the top, from `from` on.
pub zeros-part : (p : Polynomial) (from n : ℕ) → from ≤ n → T (is_zero_of (take (n - from) (drop from p))) → T (is_zero_of (drop n p))
    → T (is_zero_of (drop from p))
zeros-part p from n h part rest =
    let first = take (n - from) (drop from p) in
    let last = drop (n - from) (drop from p) in
    subst (λ q. T (is_zero_of q)) (take-append-drop (n - from) (drop from p))
    (rw (is_zero-append first last) ((T-&& (is_zero_of first) (is_zero_of last)).1 (part, rw (rest-past from n h p) at rest)))

-- Where the coefficients from n on are zero, no power past n - 1 is left.
pub zeros_within : (p : Polynomial) (n : ℕ) → T (is_zero_of (drop n p)) → Within p (n - 1)
zeros_within p n z k l =
    let place : n + (k - n) ≡ k = omega arith in
    ap (coeff p) (sym place) ∙ sym (coeff-drop n p (k - n)) ∙ is_zero-coeff (drop n p) z (k - n)

-- There is a coefficient at the degree.
pub degree-below : (p : Polynomial) → 0 < length p → degree p < length p
degree-below [] h = absurd (not-suc-le-zero h)
degree-below (a ∷ p) h = degree-lt-length a p

pub degree-bottom : (p : Polynomial) (n : ℕ) → n ≤ 1 → Within p (n - 1) → degree p ≡ 0
degree-bottom p n h w = omega (arith, degree-le p 0 (λ k l. w k (omega arith)))

-- What a search from the top finds among the first n coefficients, where those past them are zero, is the degree, or 0 where it finds none.
abbrev pub TopOf : Polynomial → Option ℕ → Type 0
TopOf p o =
    MatchOption o (EachIndex p (λ k. get_or p k (pos 0) ≡ pos 0))
    (λ i. (i < length p) × (get_or p i (pos 0) ≢ pos 0) × ((k : ℕ) → i < k → k < length p → get_or p k (pos 0) ≡ pos 0))

pub degree-found : (p : Polynomial) (n : ℕ) (o : Option ℕ) → n ≤ length p → T (is_zero_of (drop n p)) → TopOf (take n p) o → unwrap_or o 0 ≡ degree p
unfolding coeff
degree-found p n o h z = cases o
  where
    long : length (take n p) ≡ n
    long = length-take-le n p h

    within : (i : ℕ) → ((k : ℕ) → i < k → k < length (take n p) → get_or (take n p) k (pos 0) ≡ pos 0) → Within p i
    within i each k l =
        ⊎_elim (λ b. sym (get_or-take n p k (pos 0) b) ∙ each k l (omega (arith, long))) (λ b. zeros_within p n z k (omega arith))
        (cases_lt k n)

    cases : (o : Option ℕ) → TopOf (take n p) o → unwrap_or o 0 ≡ degree p
    cases None each = sym (degree-bottom p 1 (omega arith) (within 0 (λ k l. each k)))
    cases (Some i) at =
        sym (degree-unique p i (λ e. at.1 (get_or-take n p i (pos 0) (omega (arith, long, at.0)) ∙ e)) (within i at.2))

-- ---- division, and sizes

pub positive : (d : ℤ) → T (lt_z (pos 0) d) → (pos (nat_abs d) ≡ d) × (0 < nat_abs d)
positive (pos n) h = (refl, ltb→lt 0 n h)
positive (negsuc n) h = absurd h

-- The quotient b of coefficient a by a positive d, stored as an i64, is a place of the divided polynomial.
pub quotient-stored : (d : ℤ) → T (lt_z (pos 0) d) → (p : Polynomial) (i : ℕ) {a b : ℤ} → mag b < 2 ^ 63 → b ≡ quot_z a d
    → a ≡ get_or p i (pos 0) → to_z w64 (of_z w64 b) ≡ get_or (divide_by (nat_abs d) p) i (pos 0)
quotient-stored d h p i {b = b} fits e at =
    read_back b fits ∙ e ∙ ap₂ quot_z at (sym (positive d h).0) ∙ sym (divide_by-get_or (nat_abs d) p i)

pub small_at : (p : Polynomial) → T (every small p) → (k : ℕ) → nat_abs (get_or p k (pos 0)) ≤ bound
unfolding small
small_at p h k = leb→le (nat_abs (get_or p k (pos 0))) bound (every-get_or small p (pos 0) tt h k)

pub below-of-small : (p : Polynomial) → T (every small p) → Below (2 ^ 63) p
below-of-small p h k = omega (arith, small_at p h k)

pub below-divide_by : {n : ℕ} (d : ℕ) (p : Polynomial) → Below n p → Below n (divide_by d p)
below-divide_by d p h k = omega (arith, divide_by-le d p k, h k)

-- ---- the multipliers of rule 2

content-le : (p : Polynomial) → T (every small p) → T (not (is_zero_of p)) → content p ≤ bound
unfolding coeff
content-le p h n =
    let nonzero = pos_of_ne-zero (λ e. (lead-nonzero p).0 n (sym (coeff-degree p) ∙ nat_abs-zero e)) in
    le_trans (le_of_dvd nonzero (content-divides p (degree p))) (small_at p h (degree p))

-- The common content of two polynomials within the bound, not both zero, is positive and within the bound.
pub content-bounds : (a b : Polynomial) → T (every small a) → T (every small b) → T (not (is_zero_of (a ++ b)))
    → (0 < content (a ++ b)) × (content (a ++ b) ≤ bound)
content-bounds a b h g n = (content-pos (a ++ b) n, content-le (a ++ b) (every-join small a b h g) n)

pub signs-turned : (g h : Polynomial) → lt_z (lead g) (pos 0) ≡ true → turn_signs_of g h ≡ record { g = negate g; h = negate h }
unfolding turn_signs_of
signs-turned g h e = rw e

pub signs-kept : (g h : Polynomial) → lt_z (lead g) (pos 0) ≡ false → turn_signs_of g h ≡ record { g = g; h = h }
unfolding turn_signs_of
signs-kept g h e = rw e
