-- Dependence of equations by the values that they make: a nonzero combination of shifted equations vanishes at every
-- sequence and index. Nothing is said here of how an equation is written.
--
-- Main definitions
--   put i a f                   the family f with a at place i
--   sum_within N f               f summed over the shifts from -N to N
--   Values                      the value of equation i at n, for each sequence
--   DependentValues m E         a nonzero combination of the first m equations vanishes
--
-- Main statements
--   sum_below-apart, sum_below-pair        sums below a bound with one or two terms apart
--   sum_within-below, place_of            the sum over the shifts by their places
--   combination-congr, combination-sum, combination-scale, combination-+ℤ   a combination is linear in the equations
--   extended                             the reach of a dependence is extended by zero multipliers
--   moved-iff                            dependence survives, both ways, that one equation is taken at n + 1 for n
use Rattle.std.specs.Prelude.{◌≡◌, refl, ◌≢◌, ◌↔◌, not, [], ◌∷◌, T, ℤ, pos, negsuc, neg_ℤ, nat_abs, ◌+ℤ◌, ◌-ℤ◌, ◌*ℤ◌}
use Rattle.std.proofs.Math.Path.{sym}
use Rattle.std.proofs.Common.{◌∙◌, ap, ap₂, subst, le_refl, add-one, arith}
use Rattle.std.proofs.Math.Logic.{ite, if_pos, if_neg, by_cases}
use Prim.Native.Nat.{ℕ, suc, ◌+◌, ◌-◌, ◌≤◌, ◌<◌}
use Rattle.std.proofs.Math.Decide.{ℕ_discrete, dec_le, dec_lt}
use Rattle.std.proofs.Math.Dec.{not_T}
use Rattle.std.proofs.Math.IntN.{+ℤ_idl, +ℤ_idr, +ℤ_assoc, +ℤ_comm, +ℤ_invr, zero-*ℤ, +ℤ-neg_ℤ_cancel, neg_ℤ-+ℤ, -ℤ-+ℤ_cancel}
use Rattle.algebra.specs.Integers.{ringℤ, nat_abs-neg_ℤ, nat_abs-+ℤ, *ℤ-+ℤ}
use Rattle.algebra.specs.Order.{≤ℤ-witness, ≤ℤ-intro, nat_abs-≤-iff}
use Rattle.algebra.specs.Sums.{count_from, sum_over, sum_over-map, sum_over-+ℤ, sum_over-*ℤ, sum_over-zero, sum_over-congr, sum_over-exchange}
use Rattle.algebra.specs.Sums.{sum_below, sum_below-congr, sum_below-+ℤ, sum_below-*ℤ, sum_below-exchange, sum_below-front, sum_below-last}
use Rattle.algebra.specs.Sums.{sum_below-single}
use Rattle.algebra.specs.Polynomials.{Polynomial, eval, is_zero_of, is_zero-cons}
use Rattle.rules.specs.Sequences.{Sequence, shifts_within}

-- ---- one member of a family replaced

pub put : {A : Type 0} → ℕ → A → (ℕ → A) → ℕ → A
put i a f k = ite (ℕ_discrete k i) a (f k)

pub put_same : {A : Type 0} (i : ℕ) (a : A) (f : ℕ → A) → put i a f i ≡ a
unfolding put
put_same i a f = if_pos (ℕ_discrete i i) refl a (f i)

pub put_other : {A : Type 0} (i : ℕ) (a : A) (f : ℕ → A) (k : ℕ) → k ≢ i → put i a f k ≡ f k
unfolding put
put_other i a f k n = if_neg (ℕ_discrete k i) n a (f k)

-- ---- sums below a bound, one or two terms apart

-- The term at i apart.
pub sum_below-apart : (m i : ℕ) (f : ℕ → ℤ) → i < m → sum_below m f ≡ f i +ℤ sum_below m (put i (pos 0) f)
sum_below-apart m i f h =
    sum_below-congr m f (λ k. put i (f i) (λ _. pos 0) k +ℤ put i (pos 0) f k) (λ k _. parts k)
    ∙ sum_below-+ℤ m (put i (f i) (λ _. pos 0)) (put i (pos 0) f)
    ∙ ap (λ s. s +ℤ sum_below m (put i (pos 0) f)) alone
  where
    parts : (k : ℕ) → f k ≡ put i (f i) (λ _. pos 0) k +ℤ put i (pos 0) f k
    parts k = by_cases (ℕ_discrete k i)
        (λ e. rw e (rw (put_same i (f i) (λ _. pos 0), put_same i (pos 0) f) (sym (+ℤ_idr (f i)))))
        (λ n. sym (ap₂ (λ a b. a +ℤ b) (put_other i _ _ k n) (put_other i _ _ k n) ∙ +ℤ_idl (f k)))

    alone : sum_below m (put i (f i) (λ _. pos 0)) ≡ f i
    alone = sum_below-single m i _ h (λ k _ n. put_other i _ _ k n) ∙ put_same i _ _

sum_below-apart-two : (m i j : ℕ) (f : ℕ → ℤ) → i < m → j < m → i ≢ j
    → sum_below m f ≡ f i +ℤ f j +ℤ sum_below m (put j (pos 0) (put i (pos 0) f))
sum_below-apart-two m i j f p q n =
    sum_below-apart m i f p
    ∙ ap (λ s. f i +ℤ s) (sum_below-apart m j (put i (pos 0) f) q ∙ ap (λ a. a +ℤ rest) (put_other i _ _ j (λ e. n (sym e))))
    ∙ sym (+ℤ_assoc (f i) (f j) rest)
  where
    rest : ℤ
    rest = sum_below m (put j (pos 0) (put i (pos 0) f))

-- Two sums are equal whose terms differ at i and j only, if those two add up to the same.
pub sum_below-pair : (m i j : ℕ) (f g : ℕ → ℤ) → i < m → j < m → i ≢ j → f i +ℤ f j ≡ g i +ℤ g j
    → ((k : ℕ) → k ≢ i → k ≢ j → f k ≡ g k) → sum_below m f ≡ sum_below m g
sum_below-pair m i j f g p q n two others =
    sum_below-apart-two m i j f p q n ∙ ap₂ (λ a s. a +ℤ s) two (sum_below-congr m (rest f) (rest g) (λ k _. same k))
    ∙ sym (sum_below-apart-two m i j g p q n)
  where
    rest : (ℕ → ℤ) → ℕ → ℤ
    rest u = put j (pos 0) (put i (pos 0) u)

    same : (k : ℕ) → rest f k ≡ rest g k
    same k = by_cases (ℕ_discrete k j)
        (λ e. rw e (put_same j _ _ ∙ sym (put_same j _ _)))
        (λ d. put_other j _ _ k d ∙ by_cases (ℕ_discrete k i)
        (λ e. rw e (put_same i _ _ ∙ sym (put_same i _ _)))
        (λ c. put_other i _ _ k c ∙ others k c d ∙ sym (put_other i _ _ k c)) ∙ sym (put_other j _ _ k d))

-- ---- sums over the shifts from -N to N

unfoldable pub sum_within : ℕ → (ℤ → ℤ) → ℤ
sum_within N f = sum_over f (shifts_within N)

pub sum_within-below : (N : ℕ) (f : ℤ → ℤ) → sum_within N f ≡ sum_below (suc (N + N)) (λ j. f (pos j -ℤ pos N))
unfolding sum_within shifts_within sum_below
sum_within-below N f = sum_over-map f (λ j. pos j -ℤ pos N) (count_from 0 (suc (N + N)))

pub cancel-common : (a b c : ℤ) → a +ℤ c -ℤ (b +ℤ c) ≡ a -ℤ b
cancel-common a b c = regroup ∙ ap (λ d. a -ℤ b +ℤ d) (+ℤ_invr c) ∙ +ℤ_idr (a -ℤ b)
  where
    regroup : a +ℤ c -ℤ (b +ℤ c) ≡ a -ℤ b +ℤ (c -ℤ c)
    regroup = simp ringℤ

pos-suc : (n : ℕ) → pos (suc n) ≡ pos n +ℤ pos 1
pos-suc n = ap pos (sym (add-one n))

suc-place : (j N : ℕ) → pos (suc j) -ℤ pos (suc N) ≡ pos j -ℤ pos N
suc-place j N = ap₂ (λ a b. a -ℤ b) (pos-suc j) (pos-suc N) ∙ cancel-common (pos j) (pos N) (pos 1)

pos-injective : {a b : ℕ} → pos a ≡ pos b → a ≡ b
pos-injective e = ap nat_abs e

later : (a N : ℕ) → pos (suc a) -ℤ pos N ≡ pos a -ℤ pos N +ℤ pos 1
later a N = ap (λ k. k -ℤ pos N) (pos-suc a) ∙ swap (pos a) (pos 1) (pos N)
  where
    swap : (a b c : ℤ) → a +ℤ b -ℤ c ≡ a -ℤ c +ℤ b
    swap a b c = simp ringℤ

-- The shift at place j is j - N: from there 2N - j steps lead to N.
pub place_rest : (N j : ℕ) → j < suc (N + N) → pos j -ℤ pos N +ℤ pos (N + N - j) ≡ pos N
place_rest N j h = regroup (pos j) (pos N) (pos (N + N - j)) ∙ ap (λ k. pos k -ℤ pos N) whole ∙ +ℤ-neg_ℤ_cancel (pos N) (pos N)
  where
    regroup : (a b c : ℤ) → a -ℤ b +ℤ c ≡ a +ℤ c -ℤ b
    regroup a b c = simp ringℤ

    whole : j + (N + N - j) ≡ N + N
    whole = omega arith

-- The shift at a place is within the reach, and every shift within the reach has a place.
place-within : (N j : ℕ) → j < suc (N + N) → nat_abs (pos j -ℤ pos N) ≤ N
place-within N j h =
    (nat_abs-≤-iff (pos j -ℤ pos N)).1 (≤ℤ-intro j (+ℤ_comm (neg_ℤ (pos N)) (pos j)), ≤ℤ-intro (N + N - j) (place_rest N j h))

pub place_of : (N : ℕ) (k : ℤ) → nat_abs k ≤ N → (j : ℕ) × (j < suc (N + N)) × (pos j -ℤ pos N ≡ k)
place_of N k h =
    let (j, e) = ≤ℤ-witness ((nat_abs-≤-iff k).0 h).0 in
    let (t, f) = ≤ℤ-witness ((nat_abs-≤-iff k).0 h).1 in
    (j, below j t e f, +ℤ_comm (pos j) (neg_ℤ (pos N)) ∙ e)
  where
    below : (j t : ℕ) → neg_ℤ (pos N) +ℤ pos j ≡ k → k +ℤ pos t ≡ pos N → j < suc (N + N)
    below j t e f = omega (arith, pos-injective sizes)
      where
        regroup : (a b c : ℤ) → b +ℤ c ≡ neg_ℤ a +ℤ b +ℤ c +ℤ a
        regroup a b c = sym (-ℤ-+ℤ_cancel (b +ℤ c) a) ∙ simp ringℤ

        sizes : pos (j + t) ≡ pos (N + N)
        sizes = regroup (pos N) (pos j) (pos t) ∙ ap (λ a. a +ℤ pos t +ℤ pos N) e ∙ ap (λ a. a +ℤ pos N) f

pub sum_within-congr : (N : ℕ) {f g : ℤ → ℤ} → ((k : ℤ) → nat_abs k ≤ N → f k ≡ g k) → sum_within N f ≡ sum_within N g
sum_within-congr N {f} {g} h =
    sum_within-below N f ∙ sum_below-congr (suc (N + N)) _ _ (λ j p. h (pos j -ℤ pos N) (place-within N j p)) ∙ sym (sum_within-below N g)

pub sum_within-+ℤ : (N : ℕ) (f g : ℤ → ℤ) → sum_within N (λ k. f k +ℤ g k) ≡ sum_within N f +ℤ sum_within N g
unfolding sum_within
sum_within-+ℤ N f g = sum_over-+ℤ f g (shifts_within N)

pub sum_within-*ℤ : (N : ℕ) (c : ℤ) (f : ℤ → ℤ) → sum_within N (λ k. c *ℤ f k) ≡ c *ℤ sum_within N f
unfolding sum_within
sum_within-*ℤ N c f = sum_over-*ℤ c f (shifts_within N)

pub sum_within-zeros : (N : ℕ) (f : ℤ → ℤ) → ((k : ℤ) → nat_abs k ≤ N → f k ≡ pos 0) → sum_within N f ≡ pos 0
unfolding sum_within
sum_within-zeros N f h = sum_within-congr N h ∙ sum_over-zero (shifts_within N)

-- Terms past the reach that are zero may be added.
sum_within-grow : (N : ℕ) (f : ℤ → ℤ) → ((k : ℤ) → N < nat_abs k → f k ≡ pos 0) → sum_within (suc N) f ≡ sum_within N f
sum_within-grow N f h =
    sum_within-below (suc N) f ∙ sum_below-front (suc N + suc N) (λ j. f (pos j -ℤ pos (suc N)))
    ∙ ap₂ (λ a s. a +ℤ s) (ap f (+ℤ_idl (negsuc N)) ∙ h (negsuc N) (le_refl (suc N))) inner ∙ +ℤ_idl (sum_within N f)
  where
    moved : ℕ → ℤ
    moved j = f (pos (suc j) -ℤ pos (suc N))

    top : pos (suc (suc (N + N))) -ℤ pos (suc N) ≡ pos (suc N)
    top = suc-place (suc (N + N)) N ∙ ap (λ n. pos n -ℤ pos N) split ∙ +ℤ-neg_ℤ_cancel (pos (suc N)) (pos N)
      where
        split : suc (N + N) ≡ suc N + N
        split = omega arith

    inner : sum_below (suc N + suc N) moved ≡ sum_within N f
    inner =
        ap (λ n. sum_below n moved) (omega arith) ∙ sum_below-last (suc (N + N)) moved
        ∙ ap₂ (λ s a. s +ℤ a)
        (sum_below-congr (suc (N + N)) moved (λ j. f (pos j -ℤ pos N)) (λ j _. ap f (suc-place j N)) ∙ sym (sum_within-below N f))
        (ap f top ∙ h (pos (suc N)) (le_refl (suc N)))
        ∙ +ℤ_idr (sum_within N f)

-- The terms moved down by one: the first is lost, and one comes in past the last.
sum_within-move : (N : ℕ) (f : ℤ → ℤ) → f (neg_ℤ (pos N)) ≡ pos 0 → f (pos (suc N)) ≡ pos 0
    → sum_within N (λ k. f (k +ℤ pos 1)) ≡ sum_within N f
sum_within-move N f first last =
    sum_within-below N (λ k. f (k +ℤ pos 1)) ∙ sum_below-last (N + N) moved ∙ ap₂ (λ s a. s +ℤ a) common (ap f top ∙ last)
    ∙ +ℤ_comm (sum_below (N + N) rest) (pos 0)
    ∙ sym (sum_within-below N f ∙ sum_below-front (N + N) (λ j. f (pos j -ℤ pos N)) ∙ ap (λ a. a +ℤ sum_below (N + N) rest) bottom)
  where
    moved : ℕ → ℤ
    moved j = f (pos j -ℤ pos N +ℤ pos 1)

    rest : ℕ → ℤ
    rest j = f (pos (suc j) -ℤ pos N)

    common : sum_below (N + N) moved ≡ sum_below (N + N) rest
    common = sum_below-congr (N + N) moved rest (λ j _. ap f (sym (later j N)))

    bottom : f (pos 0 -ℤ pos N) ≡ pos 0
    bottom = ap f (+ℤ_idl (neg_ℤ (pos N))) ∙ first

    top : pos (N + N) -ℤ pos N +ℤ pos 1 ≡ pos (suc N)
    top = ap (λ a. a +ℤ pos 1) (+ℤ-neg_ℤ_cancel (pos N) (pos N)) ∙ sym (pos-suc N)

-- ---- dependence by values

-- The value of equation i at n, for each sequence.
abbrev pub Values : Type 0
Values = Sequence → ℕ → ℤ → ℤ

-- A polynomial for each equation and shift.
abbrev pub Multiplier : Type 0
Multiplier = ℕ → ℤ → Polynomial

-- What the copies of equation i add to the combination with multipliers S, at x: the sum over k of S i k (x) × E i (x + k).
unfoldable pub copies : Values → ℕ → Multiplier → Sequence → ℤ → ℕ → ℤ
copies E N S z x i = sum_within N (λ k. eval (S i k) x *ℤ E z i (x +ℤ k))

-- The combination of the first m equations at x.
unfoldable pub combination_value : ℕ → Values → ℕ → Multiplier → Sequence → ℤ → ℤ
combination_value m E N S z x = sum_below m (copies E N S z x)

pub record DependentValues (m : ℕ) (E : Values) : Type 0 where
  pub reach : ℕ
  pub multiplier : Multiplier
  pub number : ℕ
  pub shift : ℤ
  pub number-below : number < m
  pub shift-within : nat_abs shift ≤ reach
  pub nonzero : T (not (is_zero_of (multiplier number shift)))
  pub vanishes : (z : Sequence) (x : ℤ) → combination_value m E reach multiplier z x ≡ pos 0

-- Combinations of equations that are the same at the indices within reach are the same.
pub combination-congr : (m : ℕ) (E E' : Values) (N : ℕ) (S : Multiplier) (z : Sequence) (x : ℤ)
    → ((i : ℕ) (k : ℤ) → nat_abs k ≤ N → E z i (x +ℤ k) ≡ E' z i (x +ℤ k)) → combination_value m E N S z x ≡ combination_value m E' N S z x
unfolding combination_value copies
combination-congr m E E' N S z x h =
    sum_below-congr m _ _ (λ i _. sum_within-congr N (λ k p. ap (λ e. eval (S i k) x *ℤ e) (h i k p)))

-- A combination is linear in the equations.
module _ (m N : ℕ) (S : Multiplier) (z : Sequence) (x : ℤ) where
  pub combination-sum : (n : ℕ) (f : ℕ → ℕ → ℤ → ℤ)
      → combination_value m (λ _ i y. sum_below n (λ q. f q i y)) N S z x ≡ sum_below n (λ q. combination_value m (λ _. f q) N S z x)
  unfolding combination_value copies sum_within sum_below
  combination-sum n f =
      sum_below-congr m _ _ (λ i _. inside i) ∙ sum_below-exchange m n (λ i q. copies (λ _. f q) N S z x i)
    where
      inside : (i : ℕ) → copies (λ _ i y. sum_below n (λ q. f q i y)) N S z x i ≡ sum_below n (λ q. copies (λ _. f q) N S z x i)
      inside i =
          sum_over-congr _ _ (λ k. sym (sum_below-*ℤ n (eval (S i k) x) (λ q. f q i (x +ℤ k)))) (shifts_within N)
          ∙ sum_over-exchange (λ k q. eval (S i k) x *ℤ f q i (x +ℤ k)) (shifts_within N) (count_from 0 n)

  pub combination-scale : (c : ℤ) (f : ℕ → ℤ → ℤ)
      → combination_value m (λ _ i y. c *ℤ f i y) N S z x ≡ c *ℤ combination_value m (λ _. f) N S z x
  unfolding combination_value copies
  combination-scale c f = sum_below-congr m _ _ (λ i _. inside i) ∙ sum_below-*ℤ m c (copies (λ _. f) N S z x)
    where
      swap : (a b : ℤ) → a *ℤ (c *ℤ b) ≡ c *ℤ (a *ℤ b)
      swap a b = simp ringℤ

      inside : (i : ℕ) → copies (λ _ i y. c *ℤ f i y) N S z x i ≡ c *ℤ copies (λ _. f) N S z x i
      inside i =
          sum_within-congr N (λ k _. swap (eval (S i k) x) (f i (x +ℤ k))) ∙ sum_within-*ℤ N c (λ k. eval (S i k) x *ℤ f i (x +ℤ k))

  pub combination-+ℤ : (f g : ℕ → ℤ → ℤ)
      → combination_value m (λ _ i y. f i y +ℤ g i y) N S z x
      ≡ combination_value m (λ _. f) N S z x +ℤ combination_value m (λ _. g) N S z x
  unfolding combination_value copies
  combination-+ℤ f g =
      sum_below-congr m _ _ (λ i _. inside i) ∙ sum_below-+ℤ m (copies (λ _. f) N S z x) (copies (λ _. g) N S z x)
    where
      inside : (i : ℕ) → copies (λ _ i y. f i y +ℤ g i y) N S z x i ≡ copies (λ _. f) N S z x i +ℤ copies (λ _. g) N S z x i
      inside i =
          sum_within-congr N (λ k _. *ℤ-+ℤ (eval (S i k) x) (f i (x +ℤ k)) (g i (x +ℤ k)))
          ∙ sum_within-+ℤ N (λ k. eval (S i k) x *ℤ f i (x +ℤ k)) (λ k. eval (S i k) x *ℤ g i (x +ℤ k))

  pub combination-nothing : combination_value m (λ _ i y. pos 0) N S z x ≡ pos 0
  combination-nothing = combination-scale (pos 0) (λ i y. pos 0) ∙ zero-*ℤ (combination_value m (λ _ i y. pos 0) N S z x)

-- ---- the reach

pub number-nonzero : (d : ℕ) → 0 < d → T (not (is_zero_of (pos d ∷ [])))
number-nonzero d h = not_T (is_zero_of (pos d ∷ [])) (λ t. positive (ap nat_abs ((is_zero-cons (pos d) []).0 t).0))
  where
    positive : d ≡ 0 → ⊥
    positive e = omega arith

pub eval-nil : (x : ℤ) → eval [] x ≡ pos 0
unfolding eval
eval-nil x = refl

nil-not-nonzero : T (not (is_zero_of [])) → ⊥
unfolding is_zero_of
nil-not-nonzero t = t

-- The multipliers past the reach put to zero.
trim : ℕ → Multiplier → Multiplier
trim N S i k = ite (dec_le (nat_abs k) N) (S i k) []

trim-within : (N : ℕ) (S : Multiplier) (i : ℕ) (k : ℤ) → nat_abs k ≤ N → trim N S i k ≡ S i k
unfolding trim
trim-within N S i k h = if_pos (dec_le (nat_abs k) N) h (S i k) []

trim-past : (N : ℕ) (S : Multiplier) (i : ℕ) (k : ℤ) → N < nat_abs k → trim N S i k ≡ []
unfolding trim
trim-past N S i k h = if_neg (dec_le (nat_abs k) N) (omega arith) (S i k) []

-- One more shift on either side, with zero multipliers.
pub extended : (m : ℕ) (E : Values) → DependentValues m E
    → (D : DependentValues m E) × ((i : ℕ) (k : ℤ) → D.reach ≤ nat_abs k → D.multiplier i k ≡ [])
unfolding combination_value copies
extended m E D = (wider, λ i k h. trim-past N S i k h)
  where
    N : ℕ
    N = D.reach

    S : Multiplier
    S = D.multiplier

    at : (z : Sequence) (x : ℤ) (i : ℕ) → copies E (suc N) (trim N S) z x i ≡ copies E N S z x i
    at z x i =
        sum_within-grow N after (λ k h. rw (trim-past N S i k h, eval-nil x) (zero-*ℤ (E z i (x +ℤ k))))
        ∙ sum_within-congr N (λ k h. ap (λ p. eval p x *ℤ E z i (x +ℤ k)) (trim-within N S i k h))
      where
        after : ℤ → ℤ
        after k = eval (trim N S i k) x *ℤ E z i (x +ℤ k)

    wider : DependentValues m E
    wider =
        record {
          reach = suc N;
          multiplier = trim N S;
          number = D.number;
          shift = D.shift;
          number-below = D.number-below;
          shift-within = omega (arith, D.shift-within);
          nonzero = rw (trim-within N S D.number D.shift D.shift-within) D.nonzero;
          vanishes = λ z x. sum_below-congr m _ _ (λ i _. at z x i) ∙ D.vanishes z x;
        }

-- ---- an equation shifted

-- A sum whose terms from the reach on are zero does not change if its terms are moved by c.
Movable : ℤ → Type 0
Movable c = (N : ℕ) (f : ℤ → ℤ) → ((k : ℤ) → N ≤ nat_abs k → f k ≡ pos 0) → sum_within N (λ k. f (k +ℤ c)) ≡ sum_within N f

movable-up : Movable (pos 1)
unfolding Movable
movable-up N f h = sum_within-move N f (h (neg_ℤ (pos N)) (omega (arith, nat_abs-neg_ℤ (pos N)))) (h (pos (suc N)) (omega arith))

movable-down : Movable (negsuc 0)
unfolding Movable
movable-down N f h =
    sym (sum_within-move N moved (h (neg_ℤ (pos N) -ℤ pos 1) below) (ap f top ∙ h (pos N) (le_refl N)))
    ∙ sum_within-congr N (λ k _. ap f (+ℤ-neg_ℤ_cancel k (pos 1)))
  where
    moved : ℤ → ℤ
    moved k = f (k -ℤ pos 1)

    below : N ≤ nat_abs (neg_ℤ (pos N) -ℤ pos 1)
    below = rw (← neg_ℤ-+ℤ (pos N) (pos 1)) (omega (arith, nat_abs-neg_ℤ (pos N +ℤ pos 1)))

    top : pos (suc N) -ℤ pos 1 ≡ pos N
    top = ap (λ a. a -ℤ pos 1) (pos-suc N) ∙ +ℤ-neg_ℤ_cancel (pos N) (pos 1)

-- The new equation i at n is equation i at n + c: its multipliers are moved by c.
module _ (m i : ℕ) (c : ℤ) (small : nat_abs c ≤ 1) (movable : Movable c) (E E' : Values)
    (at_i : (z : Sequence) (n : ℤ) → E' z i n ≡ E z i (n +ℤ c))
    (same : (z : Sequence) (k : ℕ) (n : ℤ) → k ≢ i → E' z k n ≡ E z k n) where
  moved_narrow : (D : DependentValues m E) → ((n : ℕ) (k : ℤ) → D.reach ≤ nat_abs k → D.multiplier n k ≡ []) → DependentValues m E'
  unfolding combination_value copies Movable
  moved_narrow D past =
      record {
        reach = N;
        multiplier = S';
        number = D.number;
        shift = found.0;
        number-below = D.number-below;
        shift-within = found.1;
        nonzero = found.2;
        vanishes = λ z x. sum_below-congr m _ _ (λ n _. at z x n) ∙ D.vanishes z x;
      }
    where
      N : ℕ
      N = D.reach

      S : Multiplier
      S = D.multiplier

      S' : Multiplier
      S' n k = put i (S i (k +ℤ c)) (λ a. S a k) n

      -- From the reach on the multipliers are zero, and this one is not.
      inside : nat_abs D.shift < N
      inside = by_cases (dec_lt (nat_abs D.shift) N) (λ h. h)
          (λ h. absurd (nil-not-nonzero (rw (past D.number D.shift (omega arith)) at D.nonzero)))

      found : (k : ℤ) × (nat_abs k ≤ N) × T (not (is_zero_of (S' D.number k)))
      found = by_cases (ℕ_discrete D.number i) moved kept
        where
          moved : D.number ≡ i → (k : ℤ) × (nat_abs k ≤ N) × T (not (is_zero_of (S' D.number k)))
          moved e = (D.shift -ℤ c, near, subst (λ p. T (not (is_zero_of p))) (sym same-multiplier) D.nonzero)
            where
              near : nat_abs (D.shift -ℤ c) ≤ N
              near = omega (arith, inside, nat_abs-+ℤ D.shift (neg_ℤ c), nat_abs-neg_ℤ c)

              same-multiplier : S' D.number (D.shift -ℤ c) ≡ S D.number D.shift
              same-multiplier = ap (λ n. S' n (D.shift -ℤ c)) e ∙ put_same i _ _ ∙ ap₂ S (sym e) (-ℤ-+ℤ_cancel D.shift c)

          kept : D.number ≢ i → (k : ℤ) × (nat_abs k ≤ N) × T (not (is_zero_of (S' D.number k)))
          kept n = (D.shift, D.shift-within, rw (put_other i (S i (D.shift +ℤ c)) (λ a. S a D.shift) D.number n) D.nonzero)

      at : (z : Sequence) (x : ℤ) (n : ℕ) → copies E' N S' z x n ≡ copies E N S z x n
      at z x n = by_cases (ℕ_discrete n i) (λ e. subst (λ a. copies E' N S' z x a ≡ copies E N S z x a) (sym e) moved) other
        where
          other : n ≢ i → copies E' N S' z x n ≡ copies E N S z x n
          other d = sum_within-congr N (λ k _. ap₂ (λ p v. eval p x *ℤ v) (put_other i _ _ n d) (same z n (x +ℤ k) d))

          term : ℤ → ℤ
          term k = eval (S i k) x *ℤ E z i (x +ℤ k)

          zero-term : (k : ℤ) → N ≤ nat_abs k → term k ≡ pos 0
          zero-term k h = rw (past i k h, eval-nil x) (zero-*ℤ (E z i (x +ℤ k)))

          moved : copies E' N S' z x i ≡ copies E N S z x i
          moved =
              sum_within-congr N (λ k _. ap₂ (λ p v. eval p x *ℤ v) (put_same i _ _) (at_i z (x +ℤ k) ∙ ap (E z i) (+ℤ_assoc x k c)))
              ∙ movable N term zero-term

moved-dependent : (m i : ℕ) (c : ℤ) → nat_abs c ≤ 1 → Movable c → (E E' : Values)
    → ((z : Sequence) (n : ℤ) → E' z i n ≡ E z i (n +ℤ c)) → ((z : Sequence) (k : ℕ) (n : ℤ) → k ≢ i → E' z k n ≡ E z k n)
    → DependentValues m E → DependentValues m E'
moved-dependent m i c small movable E E' at_i same D =
    let (wide, past) = extended m E D in moved_narrow m i c small movable E E' at_i same wide past

-- The new equation i at n is equation i at n + 1.
pub moved-iff : (m i : ℕ) (E E' : Values) → ((z : Sequence) (n : ℤ) → E' z i n ≡ E z i (n +ℤ pos 1))
    → ((z : Sequence) (k : ℕ) (n : ℤ) → k ≢ i → E' z k n ≡ E z k n) → DependentValues m E ↔ DependentValues m E'
moved-iff m i E E' at_i same = (
  moved-dependent m i (pos 1) (le_refl 1) movable-up E E' at_i same,
  moved-dependent m i (negsuc 0) (le_refl 1) movable-down E' E back (λ z k n p. sym (same z k n p)),
)
  where
    back : (z : Sequence) (n : ℤ) → E z i n ≡ E' z i (n -ℤ pos 1)
    back z n = ap (E z i) (sym (-ℤ-+ℤ_cancel n (pos 1))) ∙ sym (at_i z (n -ℤ pos 1))
