-- Horner's rule with a limit on every value on the way.
--
-- Main definitions
--   value_limit, within   2^40, and a value unless it is past it
--   after                what follows a value, and nothing where there is none
--   used p               how many coefficients there are up to the highest that is not 0
--   horner n p           the value of p at n by Horner's rule, none where a value on the way is past the limit
--   formed_of             the value that a call gives, none where a value is past the limit
--   Front p r            r is a front of p, as a walk from the top leaves it
--   farthest             no n at which a program evaluates is farther from 0
--
-- Main statements
--   within-yes, within-no, within-size   a value that is kept is within the limit
--   after-some                  what comes after a value that is there
--   used-length, used-zero      no more than there are, and only zeros behind them
--   reach-none, reach-same, reach-next, reach-used   how far the coefficients that are not 0 reach, one looked at after the other
--   front-whole, front-less     a walk from the top: its beginning, and a step
--   horner-last                 the highest coefficient is the first value
--   horner-zero, horner-front   zeros leave the value at 0, and those at the top leave it as it is
--   horner-next, horner-past    a coefficient more, at the low end; what is past the limit stays so
--   horner-size                 a value that is formed is within the limit
--   horner-eval                 where Horner's rule gives a value, it is that of the polynomial
use Rattle.std.specs.Prelude.{ℕ, zero, suc, ◌+◌, ◌-◌, ◌≤◌, ◌<◌, ◌≡◌, refl, Bool, true, false, cond, ◌≢◌, [], ◌∷◌, ◌++◌, T, leb, length, take, drop, get_or, ℤ, pos, nat_abs, ◌+ℤ◌, ◌*ℤ◌}
use Rattle.std.specs.Prelude as Answer
use Rattle.std.proofs.Common.{Some, None, zero-le, arith, sym, ◌∙◌, ap, leb→le, le→leb, lit≤}
use Rattle.std.proofs.Math.Decide.{dec_lt}
use Rattle.std.proofs.Math.Option.{Option, none, some}
use Rattle.std.proofs.Math.Seq.{drop-length, take_at}
use Rattle.std.proofs.lemmas.List.{length-append, length-take, take_all, take-take, get_or_push, get_or-take}
use Rattle.std.proofs.Math.IntN.{*ℤ-zero, +ℤ_idr}
use Rattle.algebra.specs.Coefficients.{coeff-drop, coeff-past-degree, coeff-past-length, degree-unique}
use Rattle.algebra.specs.Polynomials.{Polynomial, coeff, eval, is_zero_of, degree, is_zero-cons, is_zero-coeff, coeff-is_zero}
use Rattle.lists.specs.Taken.{drop-next}
use Rattle.lists.specs.Tests.{true_of, false_of}
use Rattle.polynomials.specs.Content.{degree-below}

-- No value of Horner's rule may pass ±2^40 (SCOPE 12.31, 14.33).
abbrev pub value_limit : ℕ
value_limit = 1099511627776

unfoldable pub within : ℤ → Option ℤ
within v = cond (leb (nat_abs v) value_limit) (some v) none

-- What follows a value, and nothing where there is none.
unfoldable pub after : {A B : Type 0} → (A → Option B) → Option A → Option B
after f none = none
after f (some v) = f v

-- None of a polynomial of zeros.
unfoldable pub used : Polynomial → ℕ
unfolding is_zero_of degree
used p = cond (is_zero_of p) 0 (suc (degree p))

-- From the highest power down, over all coefficients that are there: zeros at the top leave the value at 0.
unfoldable pub horner : ℤ → Polynomial → Option ℤ
unfolding after within
horner n [] = some (pos 0)
horner n (a ∷ p) = after (λ v. within (a +ℤ n *ℤ v)) (horner n p)

abbrev pub formed_of : Answer.Option ℤ → Option ℤ
formed_of (Some v) = some v
formed_of None = none

-- 2^21: the indices of a record are within ±2^20, and blocks reach 64 further; solutions stay nearer to 0.
abbrev pub farthest : ℕ
farthest = 2097152

-- ---- laws

pub within-yes : (v : ℤ) → nat_abs v ≤ value_limit → within v ≡ some v
unfolding within
within-yes v h = ap (λ t. cond t (some v) none) (true_of (leb (nat_abs v) value_limit) (le→leb (nat_abs v) value_limit h))

pub within-no : (v : ℤ) → value_limit < nat_abs v → within v ≡ none
unfolding within
within-no v h =
    ap (λ t. cond t (some v) none)
    (false_of (leb (nat_abs v) value_limit) (λ t. let k = leb→le (nat_abs v) value_limit t in absurd (omega arith)))

pub within-size : (v w : ℤ) → within v ≡ some w → (w ≡ v) × (nat_abs v ≤ value_limit)
unfolding within
within-size v w e = go (leb (nat_abs v) value_limit) (leb→le (nat_abs v) value_limit) e
  where
    go : (t : Bool) → (T t → nat_abs v ≤ value_limit) → cond t (some v) none ≡ some w → (w ≡ v) × (nat_abs v ≤ value_limit)
    go true h e = (cc, h tt)
    go false h e = absurd (let z : ◌≡◌ {A = ℕ} 0 1 = cc in omega arith)

pub some-none : {A : Type 0} {v : A} → some v ≡ none → ⊥
some-none e = let z : ◌≡◌ {A = ℕ} 0 1 = cc in omega arith

-- What follows a value that is there.
pub after-some : {A B : Type 0} (f : A → Option B) (o : Option A) (q : B) → after f o ≡ some q → (v : A) × (o ≡ some v) × (f v ≡ some q)
unfolding after
after-some f none q e = absurd (some-none (sym e))
after-some f (some v) q e = (v, refl, e)

pub horner-next : (n : ℤ) (p : Polynomial) (i : ℕ) (v : ℤ) → i < length p → horner n (drop (i + 1) p) ≡ some v
    → horner n (drop i p) ≡ within (get_or p i (pos 0) +ℤ n *ℤ v)
unfolding horner after
horner-next n p i v h e =
    ap (horner n) (drop-next p i (pos 0) h) ∙ ap (after (λ v. within (get_or p i (pos 0) +ℤ n *ℤ v))) e

-- Zeros leave the value at 0.
pub horner-zero : (n : ℤ) (p : Polynomial) → T (is_zero_of p) → horner n p ≡ some (pos 0)
unfolding horner after
horner-zero n [] z = refl
horner-zero n (a ∷ p) z =
    let both = (is_zero-cons a p).0 z in
    ap (after (λ v. within (a +ℤ n *ℤ v))) (horner-zero n p both.1)
    ∙ ap within (ap (λ b. b +ℤ n *ℤ pos 0) both.0 ∙ ap (λ b. pos 0 +ℤ b) (*ℤ-zero n))
    ∙ within-yes (pos 0) (lit≤ tt)

-- Zeros at the top leave the value as it is.
pub horner-front : (n : ℤ) (p : Polynomial) (k : ℕ) → T (is_zero_of (drop k p)) → horner n (take k p) ≡ horner n p
unfolding horner after
horner-front n p zero z = sym (horner-zero n p z)
horner-front n [] (suc k) z = refl
horner-front n (a ∷ p) (suc k) z = ap (after (λ v. within (a +ℤ n *ℤ v))) (horner-front n p k z)

pub used-length : (p : Polynomial) → used p ≤ length p
unfolding used is_zero_of
used-length [] = zero-le
used-length (a ∷ p) = go (is_zero_of (a ∷ p))
  where
    go : (t : Bool) → cond t 0 (suc (degree (a ∷ p))) ≤ length (a ∷ p)
    go true = zero-le
    go false = degree-below (a ∷ p) (omega arith)

pub used-zero : (p : Polynomial) → T (is_zero_of (drop (used p) p))
unfolding used
used-zero p = go (is_zero_of p) (λ z. z)
  where
    go : (t : Bool) → (T t → T (is_zero_of p)) → T (is_zero_of (drop (cond t 0 (suc (degree p))) p))
    go true z = z tt
    go false z =
        coeff-is_zero (drop (suc (degree p)) p) (λ k. coeff-drop (suc (degree p)) p k ∙ coeff-past-degree p (suc (degree p) + k) (omega arith))

-- Among the first i coefficients the last that is not 0 is the one before r; there is none where r is 0.
pub record Reaches (p : Polynomial) (i r : ℕ) : Type 0 where
  pub few : r ≤ i
  pub zeros : (k : ℕ) → r ≤ k → k < i → coeff p k ≡ pos 0
  pub last : 0 < r → coeff p (r - 1) ≢ pos 0

pub reach-none : (p : Polynomial) → Reaches p 0 0
reach-none p = record { few = zero-le; zeros = λ k h l. absurd (omega arith); last = λ h. absurd (omega arith) }

pub reach-same : (p : Polynomial) (i r : ℕ) → Reaches p i r → coeff p i ≡ pos 0 → Reaches p (i + 1) r
reach-same p i r w e = record { few = omega (arith, w.few); zeros = zeros; last = w.last }
  where
    zeros : (k : ℕ) → r ≤ k → k < i + 1 → coeff p k ≡ pos 0
    zeros k h l = cases (dec_lt k i)
      where
        cases : Dec (k < i) → coeff p k ≡ pos 0
        cases (yes below) = w.zeros k h below
        cases (no other) = let z : k ≡ i = omega arith in ap (coeff p) z ∙ e

pub reach-next : (p : Polynomial) (i : ℕ) → coeff p i ≢ pos 0 → Reaches p (i + 1) (i + 1)
reach-next p i h =
    let z : i + 1 - 1 ≡ i = omega arith in
    record { few = omega arith; zeros = λ k l m. absurd (omega arith); last = λ l e. h (ap (coeff p) (sym z) ∙ e) }

pub reach-used : (p : Polynomial) (i r : ℕ) → length p ≤ i → Reaches p i r → r ≡ used p
unfolding used
reach-used p i r h w = cases r w
  where
    past : (r : ℕ) → Reaches p i r → (k : ℕ) → r ≤ k → coeff p k ≡ pos 0
    past r w k l = cases (dec_lt k i)
      where
        cases : Dec (k < i) → coeff p k ≡ pos 0
        cases (yes below) = w.zeros k l below
        cases (no other) = coeff-past-length p k (omega arith)

    cases : (r : ℕ) → Reaches p i r → r ≡ cond (is_zero_of p) 0 (suc (degree p))
    cases zero w = sym (ap (λ t. cond t 0 (suc (degree p))) (true_of (is_zero_of p) (coeff-is_zero p (λ k. past zero w k zero-le))))
    cases (suc r) w =
        let z : suc r - 1 ≡ r = omega arith in
        let last : coeff p r ≢ pos 0 = λ e. w.last (omega arith) (ap (coeff p) z ∙ e) in
        ap suc (sym (degree-unique p r last (λ k l. past (suc r) w k (omega arith))))
        ∙ sym (ap (λ t. cond t 0 (suc (degree p))) (false_of (is_zero_of p) (λ t. last (is_zero-coeff p t r))))

-- What is left of p when it is walked from the top: its front.
abbrev pub Front : Polynomial → Polynomial → Type 0
Front p r = r ≡ take (length r) p

-- A front of p that ends with a, and the front before it.
pub front-less : (p r s : Polynomial) (a : ℤ) → Front p r → r ≡ s ++ (a ∷ [])
    → Front p s × (length r ≡ length s + 1) × (length s < length p) × (a ≡ get_or p (length s) (pos 0))
front-less p r s a f e =
    let long : length r ≡ length s + 1 = ap length e ∙ length-append s (a ∷ []) in
    let few : length r ≤ length p = omega (arith, ap length f, length-take (length r) p) in
    let whole : s ++ (a ∷ []) ≡ take (length s + 1) p = sym e ∙ f ∙ ap (λ k. take k p) long in (
      sym (take_at s (a ∷ []) (length s) refl) ∙ ap (take (length s)) whole ∙ take-take (length s) (length s + 1) p (omega arith),
      long,
      omega arith,
      sym (get_or_push s a (pos 0) (length s) refl) ∙ ap (λ q. get_or q (length s) (pos 0)) whole
          ∙ get_or-take (length s + 1) p (length s) (pos 0) (omega arith),
    )

pub front-whole : (p : Polynomial) → Front p p
front-whole p = sym (take_all (length p) p (omega arith))

-- The highest coefficient is the first value.
pub horner-last : (n : ℤ) (p : Polynomial) (i : ℕ) → i + 1 ≡ length p → nat_abs (get_or p i (pos 0)) ≤ value_limit
    → horner n (drop i p) ≡ some (get_or p i (pos 0))
unfolding horner
horner-last n p i e h =
    let a = get_or p i (pos 0) in
    let none_left : horner n (drop (i + 1) p) ≡ some (pos 0) = ap (λ k. horner n (drop k p)) e ∙ ap (horner n) (drop-length p) in
    horner-next n p i (pos 0) (omega arith) none_left
    ∙ ap within (ap (λ b. a +ℤ b) (*ℤ-zero n) ∙ +ℤ_idr a) ∙ within-yes a h

pub horner-past : (n : ℤ) (p : Polynomial) (i : ℕ) → horner n (drop i p) ≡ none → horner n p ≡ none
unfolding horner after
horner-past n p zero e = e
horner-past n [] (suc i) e = e
horner-past n (a ∷ p) (suc i) e = ap (after (λ v. within (a +ℤ n *ℤ v))) (horner-past n p i e)

pub horner-size : (n : ℤ) (p : Polynomial) (v : ℤ) → horner n p ≡ some v → nat_abs v ≤ value_limit
unfolding horner
horner-size n [] v e = let z : v ≡ pos 0 = cc in rw z (omega arith)
horner-size n (a ∷ p) v e =
    let w = after-some (λ v. within (a +ℤ n *ℤ v)) (horner n p) v e in
    let both = within-size (a +ℤ n *ℤ w.0) v w.2 in
    rw both.0 both.1

pub horner-eval : (n : ℤ) (p : Polynomial) (v : ℤ) → horner n p ≡ some v → v ≡ eval p n
unfolding horner eval
horner-eval n [] v e = cc
horner-eval n (a ∷ p) v e =
    let w = after-some (λ v. within (a +ℤ n *ℤ v)) (horner n p) v e in
    (within-size (a +ℤ n *ℤ w.0) v w.2).0 ∙ ap (λ x. a +ℤ n *ℤ x) (horner-eval n p w.0 w.1)
