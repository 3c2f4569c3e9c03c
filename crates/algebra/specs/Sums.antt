-- Finite sums of integers, over a list and over the numbers below a bound.
--
-- Main definitions
--   count_from a n   the numbers a, a + 1, .., a + n - 1
--   sum_over f l     f summed over the members of l
--   sum_below n f    f 0 + f 1 + .. + f (n - 1)
--
-- Main statements
--   sum_over-append, sum_over-map, sum_over-congr-mem   a sum over l ++ m, over map g l, of functions that agree on the members
--   sum_over-+ℤ, sum_over-*ℤ, sum_over-neg_ℤ, sum_over-zero   sums are linear
--   sum_over-exchange                           two sums are exchanged
--   sum_over-positions                          a sum over a list is a sum over its positions
--   count_from-append, count_from-shift, get_or-count_from, count_from-bounds, count_from-member   the parts and the members
--   sum_below-front, sum_below-last, sum_below-append   the first term, the last term, or the first n terms apart
--   sum_below-congr, sum_below-+ℤ, .., sum_below-exchange   the same laws below a bound
--   sum_below-reverse                           the terms in reverse order
--   sum_below-zeros, sum_below-extend, sum_below-single   no nonzero term, none from n on, one at most
--   nat_abs-sum_over, nat_abs-sum_below            n terms of size at most b sum up to a size of at most n b
use Rattle.std.specs.Prelude.{◌≡◌, refl, ◌≢◌, ℕ, zero, suc, ◌+◌, ◌-◌, ◌*◌, ◌≤◌, ◌<◌, length, get_or, ℤ, pos, neg_ℤ, nat_abs, ◌+ℤ◌, ◌*ℤ◌}
use Rattle.std.proofs.Common.{sym, ◌∙◌, ap, ap₂, ⊎_elim, zero-le, add-zero, zero-add, suc-add, add-suc, suc-mul, le_of_suc-le-suc, not-suc-le-zero, add-sub_of_le, eq-or-lt_of_le, add-one, arith}
use Rattle.std.proofs.Math.Nat.{suc-sub-suc}
use mathlib.Core.List.Memᴰ
use mathlib.Core.List.{List, [], ◌∷◌, ◌++◌, map, Memᴰ}
use Rattle.std.proofs.Math.IntN.{+ℤ_idl, +ℤ_idr, +ℤ_assoc, +ℤ_comm, *ℤ-zero, neg_ℤ-+ℤ}
use Rattle.algebra.specs.Integers.{*ℤ-+ℤ, nat_abs-+ℤ, +ℤ-left-comm}

unfoldable pub count_from : ℕ → ℕ → List ℕ
count_from a zero = []
count_from a (suc n) = a ∷ count_from (suc a) n

unfoldable pub sum_over : {A : Type 0} → (A → ℤ) → List A → ℤ
sum_over f [] = pos 0
sum_over f (x ∷ l) = f x +ℤ sum_over f l

unfoldable pub sum_below : ℕ → (ℕ → ℤ) → ℤ
unfolding sum_over count_from
sum_below n f = sum_over f (count_from 0 n)

-- ---- sums over a list

pub sum_over-append : {A : Type 0} (f : A → ℤ) (l m : List A) → sum_over f (l ++ m) ≡ sum_over f l +ℤ sum_over f m
unfolding sum_over
sum_over-append f [] m = sym (+ℤ_idl (sum_over f m))
sum_over-append f (x ∷ l) m = ap (λ s. f x +ℤ s) (sum_over-append f l m) ∙ sym (+ℤ_assoc (f x) (sum_over f l) (sum_over f m))

pub sum_over-map : {A B : Type 0} (f : B → ℤ) (g : A → B) (l : List A) → sum_over f (map g l) ≡ sum_over (λ x. f (g x)) l
unfolding sum_over
sum_over-map f g [] = refl
sum_over-map f g (x ∷ l) = ap (λ s. f (g x) +ℤ s) (sum_over-map f g l)

pub sum_over-congr-mem : {A : Type 0} (f g : A → ℤ) (l : List A) → ((x : A) → Memᴰ x l → f x ≡ g x)
    → sum_over f l ≡ sum_over g l
unfolding sum_over
sum_over-congr-mem f g [] h = refl
sum_over-congr-mem f g (x ∷ l) h =
    ap₂ (λ a s. a +ℤ s) (h x (Memᴰ.head refl)) (sum_over-congr-mem f g l (λ y m. h y (Memᴰ.tail m)))

pub sum_over-congr : {A : Type 0} (f g : A → ℤ) → ((x : A) → f x ≡ g x) → (l : List A) → sum_over f l ≡ sum_over g l
sum_over-congr f g h l = sum_over-congr-mem f g l (λ x m. h x)

pub sum_over-zero : {A : Type 0} (l : List A) → sum_over (λ x. pos 0) l ≡ pos 0
unfolding sum_over
sum_over-zero [] = refl
sum_over-zero (x ∷ l) = ap (λ s. pos 0 +ℤ s) (sum_over-zero l)

pub sum_over-+ℤ : {A : Type 0} (f g : A → ℤ) (l : List A) → sum_over (λ x. f x +ℤ g x) l ≡ sum_over f l +ℤ sum_over g l
unfolding sum_over
sum_over-+ℤ f g [] = refl
sum_over-+ℤ f g (x ∷ l) = ap (λ s. f x +ℤ g x +ℤ s) (sum_over-+ℤ f g l) ∙ regroup (f x) (g x) (sum_over f l) (sum_over g l)
  where
    regroup : (a b c d : ℤ) → a +ℤ b +ℤ (c +ℤ d) ≡ a +ℤ c +ℤ (b +ℤ d)
    regroup a b c d = simp (+ℤ_assoc, +ℤ-left-comm)

pub sum_over-*ℤ : {A : Type 0} (c : ℤ) (f : A → ℤ) (l : List A) → sum_over (λ x. c *ℤ f x) l ≡ c *ℤ sum_over f l
unfolding sum_over
sum_over-*ℤ c f [] = sym (*ℤ-zero c)
sum_over-*ℤ c f (x ∷ l) = ap (λ s. c *ℤ f x +ℤ s) (sum_over-*ℤ c f l) ∙ sym (*ℤ-+ℤ c (f x) (sum_over f l))

pub sum_over-neg_ℤ : {A : Type 0} (f : A → ℤ) (l : List A) → sum_over (λ x. neg_ℤ (f x)) l ≡ neg_ℤ (sum_over f l)
unfolding sum_over
sum_over-neg_ℤ f [] = refl
sum_over-neg_ℤ f (x ∷ l) = ap (λ s. neg_ℤ (f x) +ℤ s) (sum_over-neg_ℤ f l) ∙ sym (neg_ℤ-+ℤ (f x) (sum_over f l))

pub sum_over-exchange : {A B : Type 0} (f : A → B → ℤ) (l : List A) (m : List B)
    → sum_over (λ x. sum_over (f x) m) l ≡ sum_over (λ y. sum_over (λ x. f x y) l) m
unfolding sum_over
sum_over-exchange f [] m = sym (sum_over-zero m)
sum_over-exchange f (x ∷ l) m =
    ap (λ s. sum_over (f x) m +ℤ s) (sum_over-exchange f l m) ∙ sym (sum_over-+ℤ (f x) (λ y. sum_over (λ z. f z y) l) m)

-- A bound of the sizes of the terms gives a bound of the sum's.
pub nat_abs-sum_over : {A : Type 0} (f : A → ℤ) (b : ℕ) (l : List A)
    → ((x : A) → Memᴰ x l → nat_abs (f x) ≤ b) → nat_abs (sum_over f l) ≤ length l * b
unfolding sum_over
nat_abs-sum_over f b [] h = zero-le
nat_abs-sum_over f b (x ∷ l) h =
    step (f x) (sum_over f l) (h x (Memᴰ.head refl)) (nat_abs-sum_over f b l (λ y m. h y (Memᴰ.tail m)))
  where
    step : (u v : ℤ) → nat_abs u ≤ b → nat_abs v ≤ length l * b → nat_abs (u +ℤ v) ≤ suc (length l) * b
    step u v p q = omega (arith, nat_abs-+ℤ u v, suc-mul (length l) b)

-- ---- numbers counted from a first one

suc-next : (a n : ℕ) → suc a + n ≡ a + suc n
suc-next a n = omega arith

pub count_from-append : (a n m : ℕ) → count_from a (n + m) ≡ count_from a n ++ count_from (a + n) m
unfolding count_from
count_from-append a zero m = ap₂ count_from (sym (add-zero a)) (zero-add m)
count_from-append a (suc n) m =
    ap (count_from a) (suc-add n m)
    ∙ ap (λ l. a ∷ l) (count_from-append (suc a) n m ∙ ap (λ s. count_from (suc a) n ++ count_from s m) (suc-next a n))

pub count_from-shift : (a b n : ℕ) → count_from (a + b) n ≡ map (λ k. a + k) (count_from b n)
unfolding count_from
count_from-shift a b zero = refl
count_from-shift a b (suc n) = ap (λ l. (a + b) ∷ l) (ap (λ s. count_from s n) (sym (add-suc a b)) ∙ count_from-shift a (suc b) n)

pub count_from-suc : (a n : ℕ) → count_from (suc a) n ≡ map suc (count_from a n)
unfolding count_from
count_from-suc a zero = refl
count_from-suc a (suc n) = ap (λ l. suc a ∷ l) (count_from-suc (suc a) n)

pub length-count_from : (a n : ℕ) → length (count_from a n) ≡ n
unfolding count_from
length-count_from a zero = refl
length-count_from a (suc n) = ap suc (length-count_from (suc a) n)

pub get_or-count_from : (a n k d : ℕ) → k < n → get_or (count_from a n) k d ≡ a + k
unfolding count_from
get_or-count_from a zero k d h = absurd (not-suc-le-zero h)
get_or-count_from a (suc n) zero d h = sym (add-zero a)
get_or-count_from a (suc n) (suc k) d h = get_or-count_from (suc a) n k d (le_of_suc-le-suc h) ∙ suc-next a k

pub count_from-bounds : {k : ℕ} (a n : ℕ) → Memᴰ k (count_from a n) → (a ≤ k) × (k < a + n)
unfolding count_from
count_from-bounds a zero m = absurd (Memᴰ.not-nil m)
count_from-bounds {k} a (suc n) m = ⊎_elim first (λ r. rest (count_from-bounds (suc a) n r)) (Memᴰ.cases_cons m)
  where
    first : k ≡ a → (a ≤ k) × (k < a + suc n)
    first e = omega arith

    rest : (suc a ≤ k) × (k < suc a + n) → (a ≤ k) × (k < a + suc n)
    rest h = omega arith

pub count_from-member : {k : ℕ} (a n : ℕ) → a ≤ k → k < a + n → Memᴰ k (count_from a n)
unfolding count_from
count_from-member a zero h p = absurd (omega arith)
count_from-member {k} a (suc n) h p =
    ⊎_elim (λ e. Memᴰ.head (sym e)) (λ q. Memᴰ.tail (count_from-member (suc a) n q (later p))) (eq-or-lt_of_le h)
  where
    later : k < a + suc n → k < suc a + n
    later q = omega arith

-- ---- sums below a bound

count_from-below : {k : ℕ} (n : ℕ) → Memᴰ k (count_from 0 n) → k < n
count_from-below n m = omega (arith, count_from-bounds 0 n m)

pub sum_over-count_from : (f : ℕ → ℤ) (a n : ℕ) → sum_over f (count_from a n) ≡ sum_below n (λ k. f (a + k))
unfolding sum_below
sum_over-count_from f a n =
    ap (λ s. sum_over f (count_from s n)) (sym (add-zero a)) ∙ ap (sum_over f) (count_from-shift a 0 n)
    ∙ sum_over-map f (λ k. a + k) (count_from 0 n)

pub sum_below-front : (n : ℕ) (f : ℕ → ℤ) → sum_below (suc n) f ≡ f 0 +ℤ sum_below n (λ k. f (suc k))
unfolding sum_below sum_over count_from
sum_below-front n f = ap (λ s. f 0 +ℤ s) (ap (sum_over f) (count_from-suc 0 n) ∙ sum_over-map f suc (count_from 0 n))

pub sum_below-append : (n m : ℕ) (f : ℕ → ℤ) → sum_below (n + m) f ≡ sum_below n f +ℤ sum_below m (λ k. f (n + k))
unfolding sum_below
sum_below-append n m f =
    ap (sum_over f) parts ∙ sum_over-append f (count_from 0 n) (count_from n m)
    ∙ ap (λ s. sum_over f (count_from 0 n) +ℤ s) (sum_over-count_from f n m)
  where
    parts : count_from 0 (n + m) ≡ count_from 0 n ++ count_from n m
    parts = count_from-append 0 n m ∙ ap (λ s. count_from 0 n ++ count_from s m) (zero-add n)

pub sum_below-last : (n : ℕ) (f : ℕ → ℤ) → sum_below (suc n) f ≡ sum_below n f +ℤ f n
unfolding sum_below sum_over count_from
sum_below-last n f =
    ap (λ m. sum_below m f) (sym (add-one n)) ∙ sum_below-append n 1 f ∙ ap (λ s. sum_below n f +ℤ s) (+ℤ_idr (f (n + 0)) ∙ ap f (add-zero n))

pub sum_below-congr : (n : ℕ) (f g : ℕ → ℤ) → ((k : ℕ) → k < n → f k ≡ g k) → sum_below n f ≡ sum_below n g
unfolding sum_below
sum_below-congr n f g h = sum_over-congr-mem f g (count_from 0 n) (λ k m. h k (count_from-below n m))

pub sum_below-zero : (n : ℕ) → sum_below n (λ k. pos 0) ≡ pos 0
unfolding sum_below
sum_below-zero n = sum_over-zero (count_from 0 n)

pub sum_below-+ℤ : (n : ℕ) (f g : ℕ → ℤ) → sum_below n (λ k. f k +ℤ g k) ≡ sum_below n f +ℤ sum_below n g
unfolding sum_below
sum_below-+ℤ n f g = sum_over-+ℤ f g (count_from 0 n)

pub sum_below-*ℤ : (n : ℕ) (c : ℤ) (f : ℕ → ℤ) → sum_below n (λ k. c *ℤ f k) ≡ c *ℤ sum_below n f
unfolding sum_below
sum_below-*ℤ n c f = sum_over-*ℤ c f (count_from 0 n)

pub sum_below-neg_ℤ : (n : ℕ) (f : ℕ → ℤ) → sum_below n (λ k. neg_ℤ (f k)) ≡ neg_ℤ (sum_below n f)
unfolding sum_below
sum_below-neg_ℤ n f = sum_over-neg_ℤ f (count_from 0 n)

pub sum_below-exchange : (n m : ℕ) (f : ℕ → ℕ → ℤ) → sum_below n (λ j. sum_below m (f j)) ≡ sum_below m (λ k. sum_below n (λ j. f j k))
unfolding sum_below
sum_below-exchange n m f = sum_over-exchange f (count_from 0 n) (count_from 0 m)

pub nat_abs-sum_below : (n b : ℕ) (f : ℕ → ℤ) → ((k : ℕ) → k < n → nat_abs (f k) ≤ b) → nat_abs (sum_below n f) ≤ n * b
unfolding sum_below
nat_abs-sum_below n b f h = rw (length-count_from 0 n) at (nat_abs-sum_over f b (count_from 0 n) (λ k m. h k (count_from-below n m)))

-- ---- re-indexing, and sums with few nonzero terms

pub sum_below-reverse : (n : ℕ) (f : ℕ → ℤ) → sum_below n f ≡ sum_below n (λ k. f (n - suc k))
unfolding sum_below count_from sum_over
sum_below-reverse zero f = refl
sum_below-reverse (suc n) f =
    sum_below-last n f ∙ ap (λ s. s +ℤ f n) (sum_below-reverse n f) ∙ +ℤ_comm (sum_below n (λ k. f (n - suc k))) (f n) ∙ sym from-the-front
  where
    from-the-front : sum_below (suc n) (λ k. f (suc n - suc k)) ≡ f n +ℤ sum_below n (λ k. f (n - suc k))
    from-the-front =
        sum_below-front n (λ k. f (suc n - suc k)) ∙ ap₂ (λ a s. a +ℤ s) (ap f (omega arith))
        (sum_below-congr n (λ k. f (suc n - suc (suc k))) (λ k. f (n - suc k)) (λ k p. ap f (suc-sub-suc n (suc k))))

pub sum_below-zeros : (n : ℕ) (f : ℕ → ℤ) → ((k : ℕ) → k < n → f k ≡ pos 0) → sum_below n f ≡ pos 0
sum_below-zeros n f h = sum_below-congr n f (λ k. pos 0) h ∙ sum_below-zero n

pub sum_below-extend : (n m : ℕ) (f : ℕ → ℤ) → n ≤ m → ((k : ℕ) → n ≤ k → k < m → f k ≡ pos 0) → sum_below m f ≡ sum_below n f
sum_below-extend n m f h z =
    ap (λ k. sum_below k f) (sym (add-sub_of_le h)) ∙ sum_below-append n (m - n) f ∙ ap (λ s. sum_below n f +ℤ s) tail ∙ +ℤ_idr (sum_below n f)
  where
    tail : sum_below (m - n) (λ k. f (n + k)) ≡ pos 0
    tail = sum_below-zeros (m - n) (λ k. f (n + k)) (λ k p. z (n + k) (omega arith) (omega arith))

pub sum_below-single : (n i : ℕ) (f : ℕ → ℤ) → i < n → ((k : ℕ) → k < n → k ≢ i → f k ≡ pos 0) → sum_below n f ≡ f i
sum_below-single n i f h z =
    sum_below-extend (suc i) n f h (λ k p q. z k q (omega arith)) ∙ sum_below-last i f ∙ ap (λ s. s +ℤ f i) before ∙ +ℤ_idl (f i)
  where
    before : sum_below i f ≡ pos 0
    before = sum_below-zeros i f (λ k p. z k (omega arith) (omega arith))

pub sum_over-positions : {A : Type 0} (f : A → ℤ) (l : List A) (d : A) → sum_over f l ≡ sum_below (length l) (λ k. f (get_or l k d))
unfolding sum_over sum_below count_from
sum_over-positions f [] d = refl
sum_over-positions f (x ∷ l) d =
    ap (λ s. f x +ℤ s) (sum_over-positions f l d) ∙ sym (sum_below-front (length l) (λ k. f (get_or (x ∷ l) k d)))
