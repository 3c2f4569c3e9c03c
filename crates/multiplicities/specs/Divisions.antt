-- The division of a polynomial by n - r, coefficient by coefficient from the top, as often as there is no rest.
--
-- Main definitions
--   weight n              2^n times C
--   Weighted p            coefficient i of p is at most C times 2 to the number of the coefficients above it
--   Sized r p             p is within ±C where r is 2 or more in size, and weighted otherwise: what every quotient keeps
--   Limited r n           n is the limit of the values at r: C, or 2^16 C where r is -1, 0 or 1
--   within n z            is z within ±n?
--   divides n r p         does p vanish at r, and is every coefficient of the quotient within ±n?
--   quotient_within n r p the quotient where that is so
--   Divisible n r p       p has 16 coefficients below 2^44, and n times r is no large number: what a division asks of p
--   Dividing n r p q v i  q holds the coefficients of the quotient from i on, all within ±n, and v is the next
--
-- Main statements
--   sized-small, sized-quotient   a small polynomial is so, and the quotient of one that vanishes at r
--   sized-at, sized_past          its coefficients are below 2^44; a value past the limit does not come back to 0
--   sized-divisible, sized-divides   .. so it can be divided, and is divided where it vanishes
--   dividing-start, dividing-next, dividing-past, dividing-end   Horner's rule: its start, one coefficient more, one past ±n, its end
--   divided-some, divided-none   what a division that was made says, and one that was not
--   divisions-none, divisions-more   the count ends at a rest, and is one more where there is none
--   multiplicity-most             nothing occurs more often than the polynomial has coefficients
use Rattle.std.specs.Prelude.{ℕ, zero, suc, ◌+◌, ◌*◌, ◌-◌, ◌≤◌, ◌<◌, ◌≡◌, refl, ◌≢◌, ◌⊎◌, Bool, true, false, cond, [], ◌∷◌, T, ℤ, nat_abs, ◌+ℤ◌, ◌*ℤ◌, length, get_or, set, take, drop, replicate}
use Rattle.std.proofs.Common.{zero-le, suc-le-suc, ◌∙◌, ap₂, subst, inl, inr, ⊎_elim, zero-add, not-suc-le-zero, le_of_suc-le-suc, le_of_eq, le_refl, le_trans, mul-le-mul, lt_of_not-le, add-one, arith, le→leb, length-set, length-drop, drop_of_length-le, drop_at, length-take-le}
use Rattle.std.proofs.Math.Path.{sym, ap}
use Rattle.std.proofs.Math.Logic.{by_cases}
use Rattle.std.proofs.Math.Decide.{dec_le}
use Rattle.std.proofs.Math.IntN.{pos}
use Rattle.std.proofs.Math.Bool.{and-false}
use Rattle.std.proofs.Math.Dec.{leb→le}
use Rattle.std.proofs.lemmas.Option.{none-some, cond_some}
use Rattle.std.specs.Prelude.{Option, None, Some, leb, ◌&&◌}
use Rattle.algebra.specs.Vanishing.{is_zero_ℤ-sound}
use Rattle.lists.specs.Taken.{drop-next}
use Rattle.lists.specs.Tests.{every-false, true_of, false_of}
use Rattle.std.proofs.lemmas.List.{set_split}
use Rattle.algebra.specs.Integers.{nat_abs-+ℤ, nat_abs-*ℤ}
use Rattle.algebra.specs.Polynomials.{Polynomial, eval, is_zero_ℤ, quotient}
use Rattle.algebra.specs.Vanishing.{quotient-length}
use Rattle.algebra.specs.Multiplicity.{divisions, multiplicity}
use Rattle.lists.specs.Tests.{every, T-&&}
use Rattle.rules.specs.Limits.{bound, small, coefficient_count}
use Rattle.polynomials.specs.Content.{small_at}
use Rattle.roots.specs.Bound.{horner-next, grows}

-- ---- the sizes

unfoldable pub weight : ℕ → ℕ
weight zero = bound
weight (suc n) = weight n + weight n

unfoldable pub Weighted : Polynomial → Type 0
unfolding weight
Weighted [] = Unit {0}
Weighted (a ∷ p) = (nat_abs a ≤ weight (length p)) × Weighted p

abbrev pub Sized : ℤ → Polynomial → Type 0
Sized r p = ((2 ≤ nat_abs r) × T (every small p)) ⊎ ((nat_abs r ≤ 1) × Weighted p)

-- 2^16 times C, and C.
abbrev pub largest : ℕ
largest = 17592185978880

abbrev pub Limited : ℤ → ℕ → Type 0
Limited r n = ((2 ≤ nat_abs r) × (n ≡ bound)) ⊎ ((nat_abs r ≤ 1) × (n ≡ largest))

weight-grows : (n k : ℕ) → weight n ≤ weight (n + k)
unfolding weight
weight-grows n zero = let same : n ≡ n + 0 = omega arith in le_of_eq (ap weight same)
weight-grows n (suc k) =
    let next : suc (n + k) ≡ n + suc k = omega arith in
    subst (λ m. weight n ≤ weight m) next (le_trans (weight-grows n k) (twice (weight (n + k))))
  where
    twice : (a : ℕ) → a ≤ a + a
    twice a = omega arith

weight-least : (n : ℕ) → bound ≤ weight n
unfolding weight
weight-least n = subst (λ m. bound ≤ weight m) (zero-add n) (weight-grows 0 n)

weight-most : (n : ℕ) → n ≤ 16 → weight n ≤ largest
unfolding weight
weight-most n h = let whole : n + (16 - n) ≡ 16 = omega arith in subst (λ m. weight n ≤ weight m) whole (weight-grows n (16 - n))

weighted-small : (p : Polynomial) → T (every small p) → Weighted p
unfolding Weighted weight every
weighted-small [] t = tt
weighted-small (a ∷ p) t =
    (le_trans (small_at (a ∷ p) t 0) (weight-least (length p)), weighted-small p ((T-&& (small a) (every small p)).0 t).1)

weighted-at : (p : Polynomial) (i : ℕ) → Weighted p → nat_abs (get_or p i (pos 0)) ≤ weight (length p)
unfolding Weighted weight
weighted-at [] i w = zero-le
weighted-at (a ∷ p) zero w = omega (arith, w.0)
weighted-at (a ∷ p) (suc i) w = omega (arith, weighted-at p i w.1)

weighted-value : (p : Polynomial) (r : ℤ) → nat_abs r ≤ 1 → Weighted p → nat_abs (eval p r) ≤ weight (length p)
unfolding Weighted weight eval
weighted-value [] r one w = zero-le
weighted-value (a ∷ p) r one w =
    omega (
      arith,
      nat_abs-+ℤ a (r *ℤ eval p r),
      nat_abs-*ℤ r (eval p r),
      mul-le-mul one (le_refl (nat_abs (eval p r))),
      weighted-value p r one w.1,
      w.0,
    )

weighted-drop : (p : Polynomial) (i : ℕ) → Weighted p → Weighted (drop i p)
unfolding Weighted
weighted-drop p zero w = w
weighted-drop [] (suc i) w = w
weighted-drop (a ∷ p) (suc i) w = weighted-drop p i w.1

weighted-quotient : (p : Polynomial) (r : ℤ) → nat_abs r ≤ 1 → Weighted p → Weighted (quotient r p)
unfolding Weighted quotient
weighted-quotient [] r one w = w
weighted-quotient (a ∷ p) r one w =
    (rw (quotient-length r p) (weighted-value p r one w.1), weighted-quotient p r one w.1)

abbrev pub within : ℕ → ℤ → Bool
within n z = leb (nat_abs z) n

-- Coefficient i of the quotient is the value of the coefficients after i.
quotient-within : (n : ℕ) (r : ℤ) (p : Polynomial) → ((i : ℕ) → nat_abs (eval (drop i p) r) ≤ n) → T (every (within n) (quotient r p))
unfolding quotient every
quotient-within n r [] h = tt
quotient-within n r (a ∷ p) h =
    (T-&& (within n (eval p r)) (every (within n) (quotient r p))).1
    (le→leb (nat_abs (eval p r)) n (h 1), quotient-within n r p (λ i. h (suc i)))

quotient-small : (r : ℤ) (p : Polynomial) → ((i : ℕ) → nat_abs (eval (drop i p) r) ≤ bound) → T (every small (quotient r p))
unfolding small
quotient-small r p h = quotient-within bound r p h

-- A polynomial within ±C that vanishes at r has no value past C on the way, where r is 2 or more in size.
values-small : (p : Polynomial) (r : ℤ) → T (every small p) → 2 ≤ nat_abs r → eval p r ≡ pos 0 → (i : ℕ) → nat_abs (eval (drop i p) r) ≤ bound
values-small p r t two root i =
    by_cases (dec_le (nat_abs (eval (drop i p) r)) bound) (λ h. h)
    (λ h. absurd (omega (arith, grows p r i t two (lt_of_not-le h), ap nat_abs root)))

pub sized-small : (r : ℤ) (p : Polynomial) → T (every small p) → Sized r p
sized-small r p t =
    by_cases (dec_le 2 (nat_abs r)) (λ two. inl (two, t)) (λ one. inr (omega (arith, lt_of_not-le one), weighted-small p t))

pub sized-quotient : (r : ℤ) (p : Polynomial) → Sized r p → eval p r ≡ pos 0 → Sized r (quotient r p)
sized-quotient r p s root =
    ⊎_elim (λ h. inl (h.0, quotient-small r p (values-small p r h.1 h.0 root)))
    (λ h. inr (h.0, weighted-quotient p r h.0 h.1)) s

pub sized-at : (r : ℤ) (p : Polynomial) → length p ≡ coefficient_count → Sized r p → (i : ℕ) → nat_abs (get_or p i (pos 0)) ≤ largest
sized-at r p long s i =
    ⊎_elim (λ h. omega (arith, small_at p h.1 i))
    (λ h. omega (arith, weighted-at p i h.1, weight-most (length p) (omega arith))) s

pub sized_past : (r : ℤ) (p : Polynomial) (n : ℕ) → length p ≡ coefficient_count → Sized r p → Limited r n → (i : ℕ)
    → n < nat_abs (eval (drop i p) r) → eval p r ≢ pos 0
sized_past r p n long s l i h root = ⊎_elim (λ a. far a.0 a.1) (λ a. near a.0 a.1) s
  where
    far : 2 ≤ nat_abs r → T (every small p) → ⊥
    far two t = ⊎_elim (λ b. omega (arith, values-small p r t two root i, b.1)) (λ b. omega (arith, b.0)) l

    near : nat_abs r ≤ 1 → Weighted p → ⊥
    near one w =
        let value = weighted-value (drop i p) r one (weighted-drop p i w) in
        let most = weight-most (length (drop i p)) (omega (arith, length-drop i p)) in
        ⊎_elim (λ b. omega (arith, b.0)) (λ b. omega (arith, value, most, b.1)) l

-- ---- what can be divided, and is

abbrev pub divides : ℕ → ℤ → Polynomial → Bool
divides n r p = is_zero_ℤ (eval p r) && every (within n) (quotient r p)

abbrev pub quotient_within : ℕ → ℤ → Polynomial → Option Polynomial
quotient_within n r p = cond (divides n r p) (Some (quotient r p)) None

pub record Divisible (n : ℕ) (r : ℤ) (p : Polynomial) : Type 0 where
  pub long : length p ≡ coefficient_count
  pub coefficients : (i : ℕ) → nat_abs (get_or p i (pos 0)) ≤ largest
  pub product : n * nat_abs r ≤ bound * bound

pub sized-divisible : (r : ℤ) (p : Polynomial) (n : ℕ) → length p ≡ coefficient_count → Sized r p → Limited r n → nat_abs r ≤ bound
    → Divisible n r p
sized-divisible r p n long s l inside =
    record {
      long = long;
      coefficients = sized-at r p long s;
      product =
          ⊎_elim (λ a. subst (λ k. k * nat_abs r ≤ bound * bound) (sym a.1) (mul-le-mul (le_refl bound) inside))
          (λ a. subst (λ k. k * nat_abs r ≤ bound * bound) (sym a.1) (omega (arith, a.0))) l;
    }

pub sized-divides : (r : ℤ) (p : Polynomial) (n : ℕ) → length p ≡ coefficient_count → Sized r p → Limited r n
    → divides n r p ≡ is_zero_ℤ (eval p r)
sized-divides r p n long s l = cases (is_zero_ℤ (eval p r)) (is_zero_ℤ-sound (eval p r))
  where
    inside : eval p r ≡ pos 0 → every (within n) (quotient r p) ≡ true
    inside root =
        true_of (every (within n) (quotient r p)) (quotient-within n r p
        (λ i. by_cases (dec_le (nat_abs (eval (drop i p) r)) n) (λ h. h) (λ h. absurd (sized_past r p n long s l i (lt_of_not-le h) root))))

    cases : (t : Bool) → (T t → eval p r ≡ pos 0) → (t && every (within n) (quotient r p)) ≡ t
    cases true root = inside (root tt)
    cases false root = refl

module _ (n : ℕ) (r : ℤ) (p : Polynomial) where
  pub divided-some : {q : Polynomial} → Some q ≡ quotient_within n r p → (divides n r p ≡ true) × (q ≡ quotient r p)
  divided-some {q} e = let (t, same) = cond_some (divides n r p) (quotient r p) q (sym e) in (t, sym same)

  pub divided-none : ◌≡◌ {A = Option Polynomial} None (quotient_within n r p) → divides n r p ≡ false
  divided-none e = cases (divides n r p) e
    where
      cases : (t : Bool) → ◌≡◌ {A = Option Polynomial} None (cond t (Some (quotient r p)) None) → t ≡ false
      cases true e = absurd (none-some (quotient r p) e)
      cases false e = refl

-- ---- coefficient by coefficient

quotient-from : (r : ℤ) (p : Polynomial) (i : ℕ) → i < length p
    → drop i (quotient r p) ≡ eval (drop (suc i) p) r ∷ drop (suc i) (quotient r p)
unfolding quotient
quotient-from r [] i h = absurd (not-suc-le-zero h)
quotient-from r (a ∷ p) zero h = refl
quotient-from r (a ∷ p) (suc i) h = quotient-from r p i (le_of_suc-le-suc h)

pub record Dividing (n : ℕ) (r : ℤ) (p q : Polynomial) (v : ℤ) (i : ℕ) : Type 0 where
  pub inside : i < coefficient_count
  pub long : length q ≡ coefficient_count
  pub size : nat_abs v ≤ n
  pub value : eval (drop (i + 1) p) r ≡ v
  pub behind : drop i q ≡ drop i (quotient r p)
  pub passed : every (within n) (drop i (quotient r p)) ≡ true

module _ (n : ℕ) (r : ℤ) (p : Polynomial) (long : length p ≡ coefficient_count) where
  -- From i on the quotient has one coefficient more than from i + 1 on.
  from : (i : ℕ) → i < coefficient_count → drop i (quotient r p) ≡ eval (drop (i + 1) p) r ∷ drop (i + 1) (quotient r p)
  from i h = rw (add-one i) (quotient-from r p i (omega arith))

  pub dividing-start : Dividing n r p (replicate coefficient_count (pos 0)) (pos 0) 15
  unfolding eval every
  dividing-start =
      record {
        inside = omega arith;
        long = refl;
        size = zero-le;
        value = nothing;
        behind = sym last;
        passed = ap (every (within n)) last ∙ ap (λ b. b && true) (true_of (leb 0 n) (le→leb 0 n zero-le));
      }
    where
      nothing : eval (drop 16 p) r ≡ pos 0
      nothing = ap (λ q. eval q r) (drop_of_length-le p (le_of_eq long))

      last : drop 15 (quotient r p) ≡ pos 0 ∷ []
      last = from 15 (omega arith)
          ∙ ap₂ ◌∷◌ nothing (drop_of_length-le (quotient r p) (le_of_eq (quotient-length r p ∙ long)))

  module _ {q : Polynomial} {v : ℤ} {i : ℕ} (d : Dividing n r p q v i) (more : 0 < i) where
    -- The next value.
    abbrev pub next : ℤ
    next = v *ℤ r +ℤ get_or p i (pos 0)

    before : i - 1 + 1 ≡ i
    before = omega arith

    next-value : eval (drop i p) r ≡ next
    next-value = horner-next p r v i (omega (arith, d.inside)) d.value

    next-from : drop (i - 1) (quotient r p) ≡ next ∷ drop i (quotient r p)
    next-from =
        subst (λ k. drop (i - 1) (quotient r p) ≡ eval (drop k p) r ∷ drop k (quotient r p)) before
        (from (i - 1) (omega (arith, d.inside)))
        ∙ ap (λ a. a ∷ drop i (quotient r p)) next-value

    pub dividing-next : nat_abs next ≤ n → Dividing n r p (set q (i - 1) next) next (i - 1)
    unfolding every
    dividing-next h =
        record {
          inside = omega (arith, d.inside);
          long = length-set q (i - 1) next ∙ d.long;
          size = h;
          value = rw before next-value;
          behind = stored ∙ ap (λ l. next ∷ l) d.behind ∙ sym next-from;
          passed = ap (every (within n)) next-from ∙ ap₂ ◌&&◌ (true_of (within n next) (le→leb (nat_abs next) n h)) d.passed;
        }
      where
        place : i - 1 < length q
        place = omega (arith, d.inside, d.long)

        stored : drop (i - 1) (set q (i - 1) next) ≡ next ∷ drop i q
        stored =
            ap (drop (i - 1)) (set_split q (i - 1) next place)
            ∙ drop_at (take (i - 1) q) (next ∷ drop (suc (i - 1)) q) (i - 1) (length-take-le (i - 1) q (omega arith))
            ∙ ap (λ k. next ∷ drop k q) (sym (add-one (i - 1)) ∙ before)

    -- A coefficient past ±n.
    pub dividing-past : n < nat_abs next → divides n r p ≡ false
    dividing-past h = ap (λ b. is_zero_ℤ (eval p r) && b) failed ∙ and-false (is_zero_ℤ (eval p r))
      where
        place : i - 1 < length (quotient r p)
        place = omega (arith, d.inside, quotient-length r p)

        here : get_or (quotient r p) (i - 1) (pos 0) ≡ next
        here = ap (λ l. get_or l 0 (pos 0)) (sym (drop-next (quotient r p) (i - 1) (pos 0) place) ∙ next-from)

        failed : every (within n) (quotient r p) ≡ false
        failed = every-false (within n) (quotient r p) (i - 1) (pos 0) place (ap (within n) here ∙ false_of (leb (nat_abs next) n) (λ t. omega (arith, leb→le (nat_abs next) n t)))

  -- The rest is the value of p.
  pub dividing-end : {q : Polynomial} {v : ℤ} → Dividing n r p q v 0
      → (q ≡ quotient r p) × (is_zero_ℤ (v *ℤ r +ℤ get_or p 0 (pos 0)) ≡ divides n r p)
  dividing-end {q} {v} d =
      (d.behind, ap is_zero_ℤ (sym whole) ∙ right (is_zero_ℤ (eval p r)) ∙ ap (λ b. is_zero_ℤ (eval p r) && b) (sym d.passed))
    where
      whole : eval p r ≡ v *ℤ r +ℤ get_or p 0 (pos 0)
      whole = horner-next p r v 0 (omega arith) d.value

      right : (b : Bool) → b ≡ (b && true)
      right true = refl
      right false = refl

-- ---- as often as there is no rest

pub divisions-none : (k : ℕ) (p : Polynomial) (r : ℤ) → is_zero_ℤ (eval p r) ≡ false → divisions k p r ≡ 0
unfolding divisions
divisions-none zero p r t = refl
divisions-none (suc k) p r t = ap (λ b. cond b (suc (divisions k (quotient r p) r)) 0) t

pub divisions-more : (k : ℕ) (p : Polynomial) (r : ℤ) → 0 < k → is_zero_ℤ (eval p r) ≡ true
    → divisions k p r ≡ suc (divisions (k - 1) (quotient r p) r)
unfolding divisions
divisions-more zero p r h t = absurd (not-suc-le-zero h)
divisions-more (suc k) p r h t =
    let less : k ≡ suc k - 1 = omega arith in
    ap (λ b. cond b (suc (divisions k (quotient r p) r)) 0) t ∙ ap (λ j. suc (divisions j (quotient r p) r)) less

divisions-most : (k : ℕ) (p : Polynomial) (r : ℤ) → divisions k p r ≤ k
unfolding divisions
divisions-most zero p r = zero-le
divisions-most (suc k) p r = cases (is_zero_ℤ (eval p r)) (divisions-most k (quotient r p) r)
  where
    cases : (t : Bool) → divisions k (quotient r p) r ≤ k → cond t (suc (divisions k (quotient r p) r)) 0 ≤ suc k
    cases true h = suc-le-suc h
    cases false h = zero-le

-- Nothing occurs more often than the polynomial has coefficients.
pub multiplicity-most : (p : Polynomial) (r : ℤ) → multiplicity p r ≤ length p
unfolding multiplicity
multiplicity-most p r = divisions-most (length p) p r
