-- The coefficients of a product as sums of terms, their sizes, and which terms count.
--
-- Main definitions
--   term g p k i       g's coefficient i times p's coefficient k - i
--   unrolled           how many numbers a multiple is added to without a loop
--
-- Main statements
--   sum-none           the terms that p is too short for are zero
--   sum-all            with the terms up to g's length the coefficient is complete
--   sum-size, product-size   a sum of terms, and so the coefficient, has a size of at most n C² where g has at most n coefficients
--   product-next       one coefficient of g: a multiple of p is added, and what is left goes one power further up
--   added-part         a multiple that is added to a part of the numbers
--   multiple-fits, multiple-is   one number to which a multiple is added
--   below-part, below_next   the size of the numbers of a part, and how much numbers grow by a multiple
use Rattle.std.specs.Prelude.{◌≡◌, refl, List, [], ◌∷◌, ◌++◌, ℕ, zero, suc, ◌+◌, ◌-◌, ◌*◌, ◌≤◌, ◌<◌, min, T, ℤ, pos, nat_abs, ◌+ℤ◌, ◌*ℤ◌, length, get_or, take, drop}
use Rattle.std.proofs.Math.Path.{sym, ap₂}
use Rattle.std.proofs.Common.{◌∙◌, ap, le_trans, mul-le-mul, mul-le-mul_right, not-suc-le-zero, le_of_suc-le-suc, arith, leb→le, length-take, take-append-drop, get_or-drop}
use Rattle.std.proofs.Math.IntN.{+ℤ_idr, zero-*ℤ, *ℤ-zero}
use Rattle.algebra.specs.Integers.{nat_abs-+ℤ, nat_abs-*ℤ}
use Rattle.algebra.specs.Sums.{sum_below, sum_below-zeros, sum_below-extend, nat_abs-sum_below}
use Rattle.algebra.specs.Polynomials.{Polynomial, coeff, add, scale, mul, add-nil, length-add, length-scale}
use Rattle.algebra.specs.Polynomials.{Polynomial-add-assoc}
use Rattle.algebra.specs.Coefficients.{coeff-add, coeff-scale, coeff-drop, coeff-mul, coeff-past-length}
use Rattle.rules.specs.Limits.{bound, small}
use Rattle.lists.specs.Tests.{every, every-get_or}
use Rattle.lists.specs.Taken.{suffix-first}
use Rattle.polynomials.specs.Content.{Below, small_at}

abbrev pub term : Polynomial → Polynomial → ℕ → ℕ → ℤ
term g p k i = coeff g i *ℤ coeff p (k - i)

-- A term past the end of g, or of p, is zero.
term-past : (g p : Polynomial) (k i : ℕ) → length g ≤ i → term g p k i ≡ pos 0
term-past g p k i h = ap (λ e. e *ℤ coeff p (k - i)) (coeff-past-length g i h) ∙ zero-*ℤ (coeff p (k - i))

term-before : (g p : Polynomial) (k i : ℕ) → length p ≤ k - i → term g p k i ≡ pos 0
term-before g p k i h = ap (λ e. coeff g i *ℤ e) (coeff-past-length p (k - i) h) ∙ *ℤ-zero (coeff g i)

pub sum-none : (g p : Polynomial) (k i : ℕ) → i ≡ k + 1 - length p → sum_below i (term g p k) ≡ pos 0
sum-none g p k i e = sum_below-zeros i (term g p k) (λ j h. term-before g p k j (omega arith))

pub sum-all : (g p : Polynomial) (k i : ℕ) → min (k + 1) (length g) ≤ i → i ≤ k + 1 → sum_below i (term g p k) ≡ coeff (mul g p) k
sum-all g p k i h l =
    sym (coeff-mul g p k ∙ sum_below-extend i (suc k) (term g p k) (omega arith) (λ j m u. term-past g p k j (omega arith)))

-- ---- sizes

module _ (g p : Polynomial) (small-g : T (every small g)) (small-p : T (every small p)) (k : ℕ) where
  pub term-size : (i : ℕ) → nat_abs (term g p k i) ≤ bound * bound
  unfolding coeff
  term-size i = rw (nat_abs-*ℤ (coeff g i) (coeff p (k - i))) (mul-le-mul (small_at g small-g i) (small_at p small-p (k - i)))

  pub sum-size : (n i : ℕ) → length g ≤ n → nat_abs (sum_below i (term g p k)) ≤ n * (bound * bound)
  sum-size n i h =
      let cut = sum_below-extend (min i n) i (term g p k) (omega arith) (λ j l u. term-past g p k j (omega arith)) in
      le_trans (rw cut (nat_abs-sum_below (min i n) (bound * bound) (term g p k) (λ j _. term-size j)))
      (mul-le-mul_right {m = min i n} (bound * bound) (omega arith))

  -- The size of the coefficient itself.
  pub product-size : (n : ℕ) → length g ≤ n → nat_abs (coeff (mul g p) k) ≤ n * (bound * bound)
  product-size n h = rw (coeff-mul g p k) (sum-size n (suc k) h)

-- ---- a product that is added to numbers

abbrev pub unrolled : ℕ
unrolled = 4

-- The multiple of p by g's coefficient a, and what is left of the product behind the first number.
pub product-next : (r : Polynomial) (a : ℤ) (g p : Polynomial) → 0 < length r
    → add r (mul (a ∷ g) p) ≡ take 1 (add r (scale a p)) ++ add (drop 1 (add r (scale a p))) (mul g p)
unfolding mul add
product-next r a g p h =
    sym (Polynomial-add-assoc r (scale a p) (pos 0 ∷ mul g p)) ∙ go (add r (scale a p)) (rw length-add (omega arith))
  where
    go : (s : Polynomial) → 0 < length s → add s (pos 0 ∷ mul g p) ≡ take 1 s ++ add (drop 1 s) (mul g p)
    go [] l = absurd (not-suc-le-zero l)
    go (x ∷ s) l = ap (λ y. y ∷ add s (mul g p)) (+ℤ_idr x)

-- A sum with fewer numbers leaves those behind as they are.
add-front : (u v w : Polynomial) → length w ≤ length u → add (u ++ v) w ≡ add u w ++ v
unfolding add
add-front [] v [] h = add-nil v
add-front [] v (b ∷ w) h = absurd (not-suc-le-zero h)
add-front (a ∷ u) v [] h = refl
add-front (a ∷ u) v (b ∷ w) h = ap (λ r. (a +ℤ b) ∷ r) (add-front u v w (le_of_suc-le-suc h))

pub added-part : (l p : Polynomial) (a : ℤ) (n : ℕ) → length p ≤ n → n ≤ length l
    → add (take n l) (scale a p) ++ drop n l ≡ add l (scale a p)
added-part l p a n h i =
    sym (ap (λ r. add r (scale a p)) (sym (take-append-drop n l))
    ∙ add-front (take n l) (drop n l) (scale a p) (rw (length-scale, length-take) (omega arith)))

below-behind : (n i : ℕ) (l s : List ℤ) → Below n l → Below n s → Below n (take i l ++ s)
below-behind n zero l s h t k = t k
below-behind n (suc i) [] s h t k = t k
below-behind n (suc i) (a ∷ l) s h t zero = h 0
below-behind n (suc i) (a ∷ l) s h t (suc k) = below-behind n i l s (λ j. h (suc j)) t k

below-take : (n w : ℕ) (l : List ℤ) → Below n l → Below n (take w l)
below-take n zero l h k = omega (arith, h 0)
below-take n (suc w) [] h k = h k
below-take n (suc w) (a ∷ l) h zero = h 0
below-take n (suc w) (a ∷ l) h (suc k) = below-take n w l (λ j. h (suc j)) k

pub below-part : (n i w : ℕ) (l : List ℤ) → Below n l → Below n (take w (drop i l))
below-part n i w l h = below-take n w (drop i l) (λ k. rw (get_or-drop i l k (pos 0)) (h (i + k)))

-- The numbers from i on grow by C² at most.
pub below_next : (n i : ℕ) (l p : List ℤ) (a : ℤ) → Below n l → T (small a) → T (every small p)
    → Below (n + bound * bound) (take i l ++ add (drop i l) (scale a p))
unfolding coeff small
below_next n i l p a h u v =
    below-behind (n + bound * bound) i l (add (drop i l) (scale a p)) (λ k. omega (arith, h k)) (λ k. rw (
      coeff-add (drop i l) (scale a p) k,
      coeff-drop i l k,
      coeff-scale a p k,
    ) (omega (arith, h (i + k), nat_abs-+ℤ (coeff l (i + k)) (a *ℤ coeff p k), size k)))
  where
    size : (k : ℕ) → nat_abs (a *ℤ coeff p k) ≤ bound * bound
    size k = rw (nat_abs-*ℤ a (coeff p k)) (mul-le-mul (leb→le (nat_abs a) bound u) (small_at p v k))

-- One number q of the numbers l, where those from place k on are as they were, and the multiple that is added to it.
module _ (l q p : List ℤ) (a : ℤ) (k : ℕ) (kept : drop k q ≡ drop k l) {x y z : ℤ} (at_x : x ≡ get_or q k (pos 0)) (at_y : y ≡ a)
    (at-z : z ≡ get_or p k (pos 0)) where
  pub multiple-fits : Below (32 * (bound * bound)) l → T (small a) → T (every small p)
      → (nat_abs x < 32 * (bound * bound)) × T (small y) × T (small z)
  unfolding small
  multiple-fits h u v = (
    rw (at_x, suffix-first q l k (pos 0) kept) (h k),
    rw at_y u,
    rw at-z (every-get_or small p (pos 0) tt v k),
  )

  pub multiple-is : {r : ℤ} → r ≡ x +ℤ y *ℤ z → r ≡ get_or (add l (scale a p)) k (pos 0)
  unfolding coeff
  multiple-is e =
      e ∙ ap₂ (λ n m. n +ℤ m) (at_x ∙ suffix-first q l k (pos 0) kept) (ap₂ (λ n m. n *ℤ m) at_y at-z ∙ sym (coeff-scale a p k))
      ∙ sym (coeff-add l (scale a p) k)
