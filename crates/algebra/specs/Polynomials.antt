-- Polynomials in n with integer coefficients: lists of any length, power 0 first.
--
-- Main definitions
--   coeff p k        the coefficient of n^k
--   eval p x         the value at n = x
--   add, negate, scale, mul  the sum, the negative, an integer multiple, the product
--   shift_by c p      p with n + c for n; shift is shift_by 1
--   mirror p         p with -n for n
--   is_zero_of p         every coefficient is zero
--   degree p, lead p, lowest p   the highest power with a nonzero coefficient, that coefficient, and the lowest
--                    nonzero coefficient (0, 0 and 0 for the zero polynomial)
--   quotient r p     the polynomial q with p = (n - r) q + p(r)
--
-- Main statements
--   eval_add, eval-scale, eval_mul, ..   the value of each operation's result is the operation on the values
--   eval-take        high coefficients that are zero can be cut off without a change of value
--   is_zero_ℤ-iff, is_zero-cons, is_zero-iff   is_zero_ℤ tests for the integer 0, is_zero_of that every coefficient is zero;
--                    is_zero-negate, is_zero-shift_by, .. carry the test through the operations
--   length-add, length-mul, ..   how many coefficients each operation's result has
--   Polynomial-add-comm, Polynomial-add-assoc, scale-add, ..   laws of sums and multiples as equations of lists
--   mirror-mirror, negate-negate   mirror and negate undo themselves
--   shift_by-shift_by  a shift by b and then by a is the shift by a + b; shift_by-inverse: by c and by -c undo each other
use Rattle.std.specs.Prelude.{◌≡◌, refl, ◌≢◌, ◌↔◌, ℕ, zero, suc, ◌+◌, ◌≤◌, max, Bool, true, ◌&&◌, not, cond, List, [], ◌∷◌, ◌++◌, map, T, eqb, get_or, length, take, drop, replicate, ℤ, pos, neg_ℤ, nat_abs, ◌+ℤ◌, ◌*ℤ◌}
use Rattle.std.proofs.Common.{sym, ◌∙◌, ap, ap₂, subst, ⊎_elim, not-suc-le-zero, le_of_suc-le-suc, arith, eqb→eq, T_not, take-append-drop}
use Rattle.std.proofs.Math.Nat.{zero-max, max-zero, suc-max-suc}
use Rattle.std.proofs.Math.Bool.{and_assoc}
use Rattle.std.proofs.Math.Dec.{not_T}
use Rattle.std.proofs.lemmas.List.{length-map}
use Rattle.std.proofs.Math.IntN.{+ℤ_idl, +ℤ_idr, +ℤ_comm, +ℤ_assoc, +ℤ_invl, *ℤ-zero, zero-*ℤ, *ℤ_comm, neg_ℤ-neg_ℤ}
use Rattle.lists.specs.Tests.{same_test, T-&&}
use Rattle.algebra.specs.Integers.{ringℤ, *ℤ-assoc, *ℤ-+ℤ, +ℤ-*ℤ, one-*ℤ, nat_abs-zero, nat_abs-neg_ℤ, no-zero-divisors}

abbrev pub Polynomial : Type 0
Polynomial = List ℤ

-- Is the integer 0?
unfoldable pub is_zero_ℤ : ℤ → Bool
is_zero_ℤ z = eqb (nat_abs z) 0

unfoldable pub coeff : Polynomial → ℕ → ℤ
coeff p k = get_or p k (pos 0)

unfoldable pub eval : Polynomial → ℤ → ℤ
eval [] x = pos 0
eval (a ∷ p) x = a +ℤ x *ℤ eval p x

unfoldable pub add : Polynomial → Polynomial → Polynomial
add [] q = q
add (a ∷ p) [] = a ∷ p
add (a ∷ p) (b ∷ q) = (a +ℤ b) ∷ add p q

unfoldable pub scale : ℤ → Polynomial → Polynomial
scale c p = map (λ a. c *ℤ a) p

unfoldable pub mul : Polynomial → Polynomial → Polynomial
unfolding add scale
mul [] q = []
mul (a ∷ p) q = add (scale a q) (pos 0 ∷ mul p q)

-- By Horner's rule: a + n p becomes a + (n + c) p(n + c).
unfoldable pub shift_by : ℤ → Polynomial → Polynomial
unfolding add scale
shift_by c [] = []
shift_by c (a ∷ p) = let s = shift_by c p in add (a ∷ []) (add (pos 0 ∷ s) (scale c s))

unfoldable pub shift : Polynomial → Polynomial
unfolding shift_by
shift p = shift_by (pos 1) p

unfoldable pub negate : Polynomial → Polynomial
negate p = map neg_ℤ p

unfoldable pub mirror : Polynomial → Polynomial
unfolding negate
mirror [] = []
mirror (a ∷ p) = a ∷ negate (mirror p)

unfoldable pub is_zero_of : Polynomial → Bool
unfolding is_zero_ℤ
is_zero_of [] = true
is_zero_of (a ∷ p) = is_zero_ℤ a && is_zero_of p

unfoldable pub degree : Polynomial → ℕ
unfolding is_zero_of
degree [] = 0
degree (a ∷ p) = cond (is_zero_of p) 0 (suc (degree p))

unfoldable pub lead : Polynomial → ℤ
unfolding is_zero_of
lead [] = pos 0
lead (a ∷ p) = cond (is_zero_of p) a (lead p)

unfoldable pub lowest : Polynomial → ℤ
unfolding is_zero_ℤ
lowest [] = pos 0
lowest (a ∷ p) = cond (is_zero_ℤ a) (lowest p) a

unfoldable pub quotient : ℤ → Polynomial → Polynomial
unfolding eval
quotient r [] = []
quotient r (a ∷ p) = eval p r ∷ quotient r p

-- ---- values

pub eval_add : (p q : Polynomial) (x : ℤ) → eval (add p q) x ≡ eval p x +ℤ eval q x
unfolding add eval
eval_add [] q x = sym (+ℤ_idl (eval q x))
eval_add (a ∷ p) [] x = sym (+ℤ_idr (a +ℤ x *ℤ eval p x))
eval_add (a ∷ p) (b ∷ q) x = rw (eval_add p q x) (simp ringℤ)

pub eval-scale : (c : ℤ) (p : Polynomial) (x : ℤ) → eval (scale c p) x ≡ c *ℤ eval p x
unfolding scale eval
eval-scale c [] x = sym (*ℤ-zero c)
eval-scale c (a ∷ p) x = ap (λ e. c *ℤ a +ℤ x *ℤ e) (eval-scale c p x) ∙ step (eval p x)
  where
    step : (e : ℤ) → c *ℤ a +ℤ x *ℤ (c *ℤ e) ≡ c *ℤ (a +ℤ x *ℤ e)
    step e = simp ringℤ

pub eval_mul : (p q : Polynomial) (x : ℤ) → eval (mul p q) x ≡ eval p x *ℤ eval q x
unfolding mul eval
eval_mul [] q x = sym (zero-*ℤ (eval q x))
eval_mul (a ∷ p) q x =
    eval_add (scale a q) (pos 0 ∷ mul p q) x ∙ ap₂ (λ e f. e +ℤ (pos 0 +ℤ x *ℤ f)) (eval-scale a q x) (eval_mul p q x)
    ∙ step (eval p x) (eval q x)
  where
    step : (e f : ℤ) → a *ℤ f +ℤ (pos 0 +ℤ x *ℤ (e *ℤ f)) ≡ (a +ℤ x *ℤ e) *ℤ f
    step e f = simp ringℤ

pub eval-shift_by : (c : ℤ) (p : Polynomial) (x : ℤ) → eval (shift_by c p) x ≡ eval p (x +ℤ c)
unfolding shift_by eval
eval-shift_by c [] x = refl
eval-shift_by c (a ∷ p) x = horner (shift_by c p) ∙ ap (λ e. a +ℤ (x +ℤ c) *ℤ e) (eval-shift_by c p x)
  where
    step : (e : ℤ) → a +ℤ x *ℤ pos 0 +ℤ (pos 0 +ℤ x *ℤ e +ℤ c *ℤ e) ≡ a +ℤ (x +ℤ c) *ℤ e
    step e = simp ringℤ

    horner : (s : Polynomial) → eval (add (a ∷ []) (add (pos 0 ∷ s) (scale c s))) x ≡ a +ℤ (x +ℤ c) *ℤ eval s x
    horner s = rw (eval_add (a ∷ []) (add (pos 0 ∷ s) (scale c s)) x, eval_add (pos 0 ∷ s) (scale c s) x, eval-scale c s x)
        (step (eval s x))

pub eval-negate : (p : Polynomial) (x : ℤ) → eval (negate p) x ≡ neg_ℤ (eval p x)
unfolding negate eval
eval-negate [] x = refl
eval-negate (a ∷ p) x = ap (λ e. neg_ℤ a +ℤ x *ℤ e) (eval-negate p x) ∙ step (eval p x)
  where
    step : (e : ℤ) → neg_ℤ a +ℤ x *ℤ neg_ℤ e ≡ neg_ℤ (a +ℤ x *ℤ e)
    step e = simp ringℤ

pub eval-mirror : (p : Polynomial) (x : ℤ) → eval (mirror p) x ≡ eval p (neg_ℤ x)
unfolding mirror eval
eval-mirror [] x = refl
eval-mirror (a ∷ p) x =
    ap (λ e. a +ℤ x *ℤ e) (eval-negate (mirror p) x ∙ ap neg_ℤ (eval-mirror p x)) ∙ step (eval p (neg_ℤ x))
  where
    step : (e : ℤ) → a +ℤ x *ℤ neg_ℤ e ≡ a +ℤ neg_ℤ x *ℤ e
    step e = simp ringℤ

pub eval-shift : (p : Polynomial) (x : ℤ) → eval (shift p) x ≡ eval p (x +ℤ pos 1)
unfolding shift
eval-shift p x = eval-shift_by (pos 1) p x

-- ---- the test for zero

pub is_zero_ℤ-iff : (a : ℤ) → T (is_zero_ℤ a) ↔ (a ≡ pos 0)
unfolding is_zero_ℤ
is_zero_ℤ-iff a = (λ h. nat_abs-zero (eqb→eq (nat_abs a) 0 h), λ e. subst (λ z. T (eqb (nat_abs z) 0)) (sym e) tt)

pub is_zero_ℤ-not-iff : (a : ℤ) → T (not (is_zero_ℤ a)) ↔ (a ≢ pos 0)
is_zero_ℤ-not-iff a = (λ h e. T_not (is_zero_ℤ a) h ((is_zero_ℤ-iff a).1 e), λ n. not_T (is_zero_ℤ a) (λ h. n ((is_zero_ℤ-iff a).0 h)))

pub is_zero-cons : (a : ℤ) (p : Polynomial) → T (is_zero_of (a ∷ p)) ↔ ((a ≡ pos 0) × T (is_zero_of p))
unfolding is_zero_of
is_zero-cons a p =
    let e = T-&& (is_zero_ℤ a) (is_zero_of p) in
    (λ h. ((is_zero_ℤ-iff a).0 (e.0 h).0, (e.0 h).1), λ h. e.1 ((is_zero_ℤ-iff a).1 h.0, h.1))

pub is_zero-coeff : (p : Polynomial) → T (is_zero_of p) → (k : ℕ) → coeff p k ≡ pos 0
unfolding coeff
is_zero-coeff [] h k = refl
is_zero-coeff (a ∷ p) h zero = ((is_zero-cons a p).0 h).0
is_zero-coeff (a ∷ p) h (suc k) = is_zero-coeff p ((is_zero-cons a p).0 h).1 k

pub coeff-is_zero : (p : Polynomial) → ((k : ℕ) → coeff p k ≡ pos 0) → T (is_zero_of p)
unfolding is_zero_of coeff
coeff-is_zero [] h = tt
coeff-is_zero (a ∷ p) h = (is_zero-cons a p).1 (h 0, coeff-is_zero p (λ k. h (suc k)))

pub is_zero-iff : (p : Polynomial) → T (is_zero_of p) ↔ ((k : ℕ) → coeff p k ≡ pos 0)
is_zero-iff p = (is_zero-coeff p, coeff-is_zero p)

pub is_zero-append : (p q : Polynomial) → is_zero_of (p ++ q) ≡ (is_zero_of p && is_zero_of q)
unfolding is_zero_of
is_zero-append [] q = refl
is_zero-append (a ∷ p) q = ap (λ t. is_zero_ℤ a && t) (is_zero-append p q) ∙ sym (and_assoc (is_zero_ℤ a) (is_zero_of p) (is_zero_of q))

pub is_zero-replicate : (n : ℕ) → T (is_zero_of (replicate n (pos 0)))
unfolding is_zero_of
is_zero-replicate zero = tt
is_zero-replicate (suc n) = is_zero-replicate n

-- A list of zeros is known by its length.
pub zero-list : (p : Polynomial) → T (is_zero_of p) → p ≡ replicate (length p) (pos 0)
zero-list [] h = refl
zero-list (a ∷ p) h = ap₂ ◌∷◌ ((is_zero-cons a p).0 h).0 (zero-list p ((is_zero-cons a p).0 h).1)

-- A map of the coefficients that takes zero, and nothing else, to zero.
is_zero-map : (f : ℤ → ℤ) → ((a : ℤ) → is_zero_ℤ (f a) ≡ is_zero_ℤ a) → (p : Polynomial) → is_zero_of (map f p) ≡ is_zero_of p
unfolding is_zero_of
is_zero-map f h [] = refl
is_zero-map f h (a ∷ p) = ap₂ ◌&&◌ (h a) (is_zero-map f h p)

pub is_zero_ℤ-neg_ℤ : (a : ℤ) → is_zero_ℤ (neg_ℤ a) ≡ is_zero_ℤ a
unfolding is_zero_ℤ
is_zero_ℤ-neg_ℤ a = ap (λ n. eqb n 0) (nat_abs-neg_ℤ a)

pub is_zero-negate : (p : Polynomial) → is_zero_of (negate p) ≡ is_zero_of p
unfolding negate
is_zero-negate p = is_zero-map neg_ℤ is_zero_ℤ-neg_ℤ p

pub is_zero-mirror : (p : Polynomial) → is_zero_of (mirror p) ≡ is_zero_of p
unfolding mirror is_zero_of
is_zero-mirror [] = refl
is_zero-mirror (a ∷ p) = ap (λ t. is_zero_ℤ a && t) (is_zero-negate (mirror p) ∙ is_zero-mirror p)

pub is_zero-scale : (c : ℤ) → c ≢ pos 0 → (p : Polynomial) → is_zero_of (scale c p) ≡ is_zero_of p
unfolding scale
is_zero-scale c n p = is_zero-map (λ a. c *ℤ a) (λ a. same_test (is_zero_ℤ (c *ℤ a)) (is_zero_ℤ a) (down a) (up a)) p
  where
    down : (a : ℤ) → T (is_zero_ℤ (c *ℤ a)) → T (is_zero_ℤ a)
    down a h =
        (is_zero_ℤ-iff a).1 (⊎_elim (λ e. absurd (n e)) (λ e. e) (no-zero-divisors c a ((is_zero_ℤ-iff (c *ℤ a)).0 h)))

    up : (a : ℤ) → T (is_zero_ℤ a) → T (is_zero_ℤ (c *ℤ a))
    up a h = (is_zero_ℤ-iff (c *ℤ a)).1 (ap (λ z. c *ℤ z) ((is_zero_ℤ-iff a).0 h) ∙ *ℤ-zero c)

pub scale-is_zero : (c : ℤ) (p : Polynomial) → T (is_zero_of p) → T (is_zero_of (scale c p))
unfolding scale is_zero_of
scale-is_zero c [] h = tt
scale-is_zero c (a ∷ p) h =
    let e = (is_zero-cons a p).0 h in
    (is_zero-cons (c *ℤ a) (scale c p)).1 (ap (λ z. c *ℤ z) e.0 ∙ *ℤ-zero c, scale-is_zero c p e.1)

pub is_zero-scale-zero : (p : Polynomial) → T (is_zero_of (scale (pos 0) p))
unfolding scale is_zero_of
is_zero-scale-zero [] = tt
is_zero-scale-zero (a ∷ p) = (is_zero-cons (pos 0 *ℤ a) (scale (pos 0) p)).1 (zero-*ℤ a, is_zero-scale-zero p)

pub is_zero-add : (p q : Polynomial) → T (is_zero_of p) → T (is_zero_of q) → T (is_zero_of (add p q))
unfolding add
is_zero-add [] q h z = z
is_zero-add (a ∷ p) [] h z = h
is_zero-add (a ∷ p) (b ∷ q) h z =
    let s = (is_zero-cons a p).0 h in
    let t = (is_zero-cons b q).0 z in
    (is_zero-cons (a +ℤ b) (add p q)).1 (ap₂ ◌+ℤ◌ s.0 t.0, is_zero-add p q s.1 t.1)

pub is_zero-mul-left : (p q : Polynomial) → T (is_zero_of p) → T (is_zero_of (mul p q))
unfolding mul is_zero_of
is_zero-mul-left [] q h = h
is_zero-mul-left (a ∷ p) q h =
    let e = (is_zero-cons a p).0 h in
    is_zero-add (scale a q) (pos 0 ∷ mul p q) (first e.0) (is_zero-mul-left p q e.1)
  where
    first : a ≡ pos 0 → T (is_zero_of (scale a q))
    first e = rw e (is_zero-scale-zero q)

pub is_zero-mul-right : (p q : Polynomial) → T (is_zero_of q) → T (is_zero_of (mul p q))
unfolding mul is_zero_of
is_zero-mul-right [] q h = tt
is_zero-mul-right (a ∷ p) q h = is_zero-add (scale a q) (pos 0 ∷ mul p q) (scale-is_zero a q h) (is_zero-mul-right p q h)

-- ---- values of zero polynomials and of cut ones

pub eval-is_zero : (p : Polynomial) (x : ℤ) → T (is_zero_of p) → eval p x ≡ pos 0
unfolding eval
eval-is_zero [] x h = refl
eval-is_zero (a ∷ p) x h = ap₂ (λ b e. b +ℤ x *ℤ e) ((is_zero-cons a p).0 h).0 (eval-is_zero p x ((is_zero-cons a p).0 h).1) ∙ step
  where
    step : pos 0 +ℤ x *ℤ pos 0 ≡ pos 0
    step = simp ringℤ

pub eval-append-zero : (p q : Polynomial) (x : ℤ) → T (is_zero_of q) → eval (p ++ q) x ≡ eval p x
unfolding eval
eval-append-zero [] q x h = eval-is_zero q x h
eval-append-zero (a ∷ p) q x h = ap (λ e. a +ℤ x *ℤ e) (eval-append-zero p q x h)

pub eval-take : (n : ℕ) (p : Polynomial) (x : ℤ) → T (is_zero_of (drop n p)) → eval (take n p) x ≡ eval p x
eval-take n p x h = sym (eval-append-zero (take n p) (drop n p) x h) ∙ ap (λ q. eval q x) (take-append-drop n p)

-- ---- lengths

pub length-add : (p q : Polynomial) → length (add p q) ≡ max (length p) (length q)
unfolding add
length-add [] q = sym (zero-max (length q))
length-add (a ∷ p) [] = sym (max-zero (suc (length p)))
length-add (a ∷ p) (b ∷ q) = ap suc (length-add p q) ∙ sym (suc-max-suc (length p) (length q))

pub length-scale : (c : ℤ) (p : Polynomial) → length (scale c p) ≡ length p
unfolding scale
length-scale c p = length-map p (λ a. c *ℤ a)

pub length-negate : (p : Polynomial) → length (negate p) ≡ length p
unfolding negate
length-negate p = length-map p neg_ℤ

pub length-mirror : (p : Polynomial) → length (mirror p) ≡ length p
unfolding mirror
length-mirror [] = refl
length-mirror (a ∷ p) = ap suc (length-negate (mirror p) ∙ length-mirror p)

pub length-shift_by : (c : ℤ) (p : Polynomial) → length (shift_by c p) ≡ length p
unfolding shift_by
length-shift_by c [] = refl
length-shift_by c (a ∷ p) = step (shift_by c p) ∙ ap suc (length-shift_by c p)
  where
    step : (s : Polynomial) → length (add (a ∷ []) (add (pos 0 ∷ s) (scale c s))) ≡ suc (length s)
    step s = simp (length-add, length-scale) (omega arith)

pub length_shift : (p : Polynomial) → length (shift p) ≡ length p
unfolding shift
length_shift p = length-shift_by (pos 1) p

pub length-mul-le : (p q : Polynomial) → length (mul p q) ≤ length p + length q
unfolding mul
length-mul-le [] q = omega arith
length-mul-le (a ∷ p) q = step (length-mul-le p q) (length-add (scale a q) (pos 0 ∷ mul p q)) (length-scale a q)
  where
    step : {m : ℕ} {s r : ℕ} → m ≤ length p + length q → r ≡ max s (suc m) → s ≡ length q → r ≤ suc (length p) + length q
    step h e f = omega arith

-- The product of nonempty lists: one less than the sum of the lengths.
pub length-mul : (a : ℤ) (p : Polynomial) (b : ℤ) (q : Polynomial) → length (mul (a ∷ p) (b ∷ q)) ≡ suc (length p + length q)
unfolding mul
length-mul a [] b q = length-add (scale a (b ∷ q)) (pos 0 ∷ []) ∙ step (length-scale a (b ∷ q))
  where
    step : {s : ℕ} → s ≡ suc (length q) → max s 1 ≡ suc (0 + length q)
    step e = omega arith
length-mul a (c ∷ p) b q =
    length-add (scale a (b ∷ q)) (pos 0 ∷ mul (c ∷ p) (b ∷ q)) ∙ step (length-scale a (b ∷ q)) (length-mul c p b q)
  where
    step : {s m : ℕ} → s ≡ suc (length q) → m ≡ suc (length p + length q) → max s (suc m) ≡ suc (suc (length p) + length q)
    step e f = omega arith

-- ---- sums and multiples, as lists

pub add-nil : (p : Polynomial) → add p [] ≡ p
unfolding add
add-nil [] = refl
add-nil (a ∷ p) = refl

pub Polynomial-add-comm : (p q : Polynomial) → add p q ≡ add q p
unfolding add
Polynomial-add-comm [] q = sym (add-nil q)
Polynomial-add-comm (a ∷ p) [] = refl
Polynomial-add-comm (a ∷ p) (b ∷ q) = ap₂ ◌∷◌ (+ℤ_comm a b) (Polynomial-add-comm p q)

pub Polynomial-add-assoc : (p q r : Polynomial) → add (add p q) r ≡ add p (add q r)
unfolding add
Polynomial-add-assoc [] q r = refl
Polynomial-add-assoc (a ∷ p) [] r = refl
Polynomial-add-assoc (a ∷ p) (b ∷ q) [] = refl
Polynomial-add-assoc (a ∷ p) (b ∷ q) (c ∷ r) = ap₂ ◌∷◌ (+ℤ_assoc a b c) (Polynomial-add-assoc p q r)

pub Polynomial-add-left-comm : (p q r : Polynomial) → add p (add q r) ≡ add q (add p r)
Polynomial-add-left-comm p q r =
    sym (Polynomial-add-assoc p q r) ∙ ap (λ s. add s r) (Polynomial-add-comm p q) ∙ Polynomial-add-assoc q p r

pub scale-add : (c : ℤ) (p q : Polynomial) → scale c (add p q) ≡ add (scale c p) (scale c q)
unfolding scale add
scale-add c [] q = refl
scale-add c (a ∷ p) [] = refl
scale-add c (a ∷ p) (b ∷ q) = ap₂ ◌∷◌ (*ℤ-+ℤ c a b) (scale-add c p q)

pub +ℤ-scale : (c d : ℤ) (p : Polynomial) → scale (c +ℤ d) p ≡ add (scale c p) (scale d p)
unfolding scale add
+ℤ-scale c d [] = refl
+ℤ-scale c d (a ∷ p) = ap₂ ◌∷◌ (+ℤ-*ℤ c d a) (+ℤ-scale c d p)

pub scale_one : (p : Polynomial) → scale (pos 1) p ≡ p
unfolding scale
scale_one [] = refl
scale_one (a ∷ p) = ap₂ ◌∷◌ (one-*ℤ a) (scale_one p)

pub scale-scale : (c d : ℤ) (p : Polynomial) → scale c (scale d p) ≡ scale (c *ℤ d) p
unfolding scale
scale-scale c d [] = refl
scale-scale c d (a ∷ p) = ap₂ ◌∷◌ (sym (*ℤ-assoc c d a)) (scale-scale c d p)

pub scale-comm : (c d : ℤ) (p : Polynomial) → scale c (scale d p) ≡ scale d (scale c p)
scale-comm c d p = scale-scale c d p ∙ ap (λ e. scale e p) (*ℤ_comm c d) ∙ sym (scale-scale d c p)

pub negate-negate : (p : Polynomial) → negate (negate p) ≡ p
unfolding negate
negate-negate [] = refl
negate-negate (a ∷ p) = ap₂ ◌∷◌ (neg_ℤ-neg_ℤ a) (negate-negate p)

pub mirror-negate : (p : Polynomial) → mirror (negate p) ≡ negate (mirror p)
unfolding mirror negate
mirror-negate [] = refl
mirror-negate (a ∷ p) = ap (λ q. neg_ℤ a ∷ negate q) (mirror-negate p)

pub mirror-mirror : (p : Polynomial) → mirror (mirror p) ≡ p
unfolding mirror
mirror-mirror [] = refl
mirror-mirror (a ∷ p) =
    ap (λ q. a ∷ q) (ap negate (mirror-negate (mirror p)) ∙ negate-negate (mirror (mirror p)) ∙ mirror-mirror p)

-- Zero coefficients, no more than there are coefficients, change nothing.
pub add-zeros : (p q : Polynomial) → T (is_zero_of q) → length q ≤ length p → add p q ≡ p
unfolding add
add-zeros [] [] z h = refl
add-zeros [] (b ∷ q) z h = absurd (not-suc-le-zero h)
add-zeros (a ∷ p) [] z h = refl
add-zeros (a ∷ p) (b ∷ q) z h =
    ap₂ ◌∷◌ (ap (λ e. a +ℤ e) ((is_zero-cons b q).0 z).0 ∙ +ℤ_idr a) (add-zeros p q ((is_zero-cons b q).0 z).1 (le_of_suc-le-suc h))

-- ---- shifts, as lists

add-interchange : (p q r s : Polynomial) → add (add p q) (add r s) ≡ add (add p r) (add q s)
add-interchange p q r s = simp (Polynomial-add-assoc, Polynomial-add-left-comm)

-- (n + c) s
times_linear : ℤ → Polynomial → Polynomial
unfolding add scale
times_linear c s = add (pos 0 ∷ s) (scale c s)

times_linear-add : (c : ℤ) (s t : Polynomial) → times_linear c (add s t) ≡ add (times_linear c s) (times_linear c t)
unfolding times_linear
times_linear-add c s t = ap (add (pos 0 ∷ add s t)) (scale-add c s t) ∙ add-interchange (pos 0 ∷ s) (pos 0 ∷ t) (scale c s) (scale c t)

times_linear-scale : (c d : ℤ) (s : Polynomial) → times_linear c (scale d s) ≡ scale d (times_linear c s)
unfolding times_linear
times_linear-scale c d s =
    ap₂ (λ a t. add (a ∷ scale d s) t) (sym (*ℤ-zero d)) (scale-comm c d s) ∙ sym (scale-add d (pos 0 ∷ s) (scale c s))

-- (n + a) s + b s = (n + (a + b)) s
times_linear-+ℤ : (a b : ℤ) (s : Polynomial) → add (times_linear a s) (scale b s) ≡ times_linear (a +ℤ b) s
unfolding times_linear
times_linear-+ℤ a b s = Polynomial-add-assoc (pos 0 ∷ s) (scale a s) (scale b s) ∙ ap (add (pos 0 ∷ s)) (sym (+ℤ-scale a b s))

-- A step of Horner's rule, a + (n + c) s.
horner : ℤ → ℤ → Polynomial → Polynomial
unfolding times_linear
horner c a s = add (a ∷ []) (times_linear c s)

horner-add : (c a b : ℤ) (s t : Polynomial) → horner c (a +ℤ b) (add s t) ≡ add (horner c a s) (horner c b t)
unfolding horner
horner-add c a b s t =
    ap (add ((a +ℤ b) ∷ [])) (times_linear-add c s t) ∙ add-interchange (a ∷ []) (b ∷ []) (times_linear c s) (times_linear c t)

horner-scale : (c d a : ℤ) (s : Polynomial) → horner c (d *ℤ a) (scale d s) ≡ scale d (horner c a s)
unfolding horner
horner-scale c d a s = ap (add ((d *ℤ a) ∷ [])) (times_linear-scale c d s) ∙ sym (scale-add d (a ∷ []) (times_linear c s))

pub shift_by-add : (c : ℤ) (p q : Polynomial) → shift_by c (add p q) ≡ add (shift_by c p) (shift_by c q)
unfolding shift_by horner
shift_by-add c [] q = refl
shift_by-add c (a ∷ p) [] = sym (add-nil (shift_by c (a ∷ p)))
shift_by-add c (a ∷ p) (b ∷ q) = ap (horner c (a +ℤ b)) (shift_by-add c p q) ∙ horner-add c a b (shift_by c p) (shift_by c q)

pub shift_by-scale : (c d : ℤ) (p : Polynomial) → shift_by c (scale d p) ≡ scale d (shift_by c p)
unfolding shift_by horner
shift_by-scale c d [] = refl
shift_by-scale c d (a ∷ p) = ap (horner c (d *ℤ a)) (shift_by-scale c d p) ∙ horner-scale c d a (shift_by c p)

horner-zero : (c : ℤ) (s : Polynomial) → horner c (pos 0) s ≡ times_linear c s
unfolding horner
horner-zero c s = sym (Polynomial-add-assoc (pos 0 ∷ []) (pos 0 ∷ s) (scale c s))

shift_by-times_linear : (b c : ℤ) (s : Polynomial) → shift_by b (times_linear c s) ≡ times_linear (b +ℤ c) (shift_by b s)
unfolding times_linear shift_by horner
shift_by-times_linear b c s =
    shift_by-add b (pos 0 ∷ s) (scale c s) ∙ ap₂ add (horner-zero b (shift_by b s)) (shift_by-scale b c s) ∙ times_linear-+ℤ b c (shift_by b s)

shift_by-horner : (b c a : ℤ) (s : Polynomial) → shift_by b (horner c a s) ≡ horner (b +ℤ c) a (shift_by b s)
unfolding horner shift_by
shift_by-horner b c a s =
    shift_by-add b (a ∷ []) (times_linear c s) ∙ ap₂ (λ d t. add (d ∷ []) t) (+ℤ_idr a) (shift_by-times_linear b c s)

pub shift_by-shift_by : (a b : ℤ) (p : Polynomial) → shift_by a (shift_by b p) ≡ shift_by (a +ℤ b) p
unfolding shift_by horner
shift_by-shift_by a b [] = refl
shift_by-shift_by a b (c ∷ p) = shift_by-horner a b c (shift_by b p) ∙ ap (horner (a +ℤ b) c) (shift_by-shift_by a b p)

horner-by-zero : (a : ℤ) (s : Polynomial) → horner (pos 0) a s ≡ a ∷ s
unfolding horner
horner-by-zero a s = ap (add (a ∷ [])) (add-zeros (pos 0 ∷ s) (scale (pos 0) s) (is_zero-scale-zero s) fits) ∙ ap (λ b. b ∷ s) (+ℤ_idr a)
  where
    fits : length (scale (pos 0) s) ≤ suc (length s)
    fits = simp length-scale (omega arith)

pub shift_by-zero : (p : Polynomial) → shift_by (pos 0) p ≡ p
unfolding shift_by horner
shift_by-zero [] = refl
shift_by-zero (a ∷ p) = horner-by-zero a (shift_by (pos 0) p) ∙ ap (λ q. a ∷ q) (shift_by-zero p)

pub shift_by-inverse : (c : ℤ) (p : Polynomial) → shift_by (neg_ℤ c) (shift_by c p) ≡ p
shift_by-inverse c p = shift_by-shift_by (neg_ℤ c) c p ∙ ap (λ d. shift_by d p) (+ℤ_invl c) ∙ shift_by-zero p

pub shift_by-is_zero : (c : ℤ) (p : Polynomial) → T (is_zero_of p) → T (is_zero_of (shift_by c p))
unfolding shift_by is_zero_of
shift_by-is_zero c [] h = h
shift_by-is_zero c (a ∷ p) h =
    let e = (is_zero-cons a p).0 h in
    step ((is_zero-cons a []).1 (e.0, tt)) (shift_by c p) (shift_by-is_zero c p e.1)
  where
    step : T (is_zero_of (a ∷ [])) → (s : Polynomial) → T (is_zero_of s) → T (is_zero_of (add (a ∷ []) (add (pos 0 ∷ s) (scale c s))))
    step y s z =
        is_zero-add (a ∷ []) (add (pos 0 ∷ s) (scale c s)) y (is_zero-add (pos 0 ∷ s) (scale c s) z (scale-is_zero c s z))

pub is_zero-shift_by : (c : ℤ) (p : Polynomial) → is_zero_of (shift_by c p) ≡ is_zero_of p
is_zero-shift_by c p = same_test (is_zero_of (shift_by c p)) (is_zero_of p) back (shift_by-is_zero c p)
  where
    back : T (is_zero_of (shift_by c p)) → T (is_zero_of p)
    back h = subst (λ q. T (is_zero_of q)) (shift_by-inverse c p) (shift_by-is_zero (neg_ℤ c) (shift_by c p) h)

pub is_zero-shift : (p : Polynomial) → is_zero_of (shift p) ≡ is_zero_of p
unfolding shift
is_zero-shift p = is_zero-shift_by (pos 1) p
