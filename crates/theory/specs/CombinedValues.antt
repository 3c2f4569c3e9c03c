-- Dependence by values through a combination of two equations: d × (new equation i) = g × (equation i) + h × (equation j).
--
-- Main statements
--   combined-iff       the equations are dependent exactly if they are with the new equation i for the old
use Rattle.std.specs.Prelude.{◌≡◌, ◌≢◌, ◌↔◌, ◌⊎◌, not, T, pos, neg_ℤ, nat_abs, ◌+ℤ◌, ◌-ℤ◌, ◌*ℤ◌}
use Rattle.std.proofs.Math.Path.{sym, ap₂}
use Rattle.std.proofs.Common.{◌∙◌, ap, ⊎_elim, arith, T_not}
use Rattle.std.proofs.Math.Logic.{ite, by_cases}
use mathlib.Core.List.Memᴰ
use mathlib.Core.List.{List, [], ◌∷◌, Memᴰ}
use Prim.Native.Nat.{ℕ, suc, ◌+◌, ◌≤◌, ◌<◌}
use Rattle.std.proofs.Math.Decide.{ℕ_discrete}
use Rattle.std.proofs.Math.Dec.{not_T}
use Rattle.std.proofs.Math.IntN.{ℤ, ℤ_discrete, +ℤ_idr, *ℤ-zero, *ℤ_comm, +ℤ-neg_ℤ_cancel}
use Rattle.algebra.specs.Integers.{ringℤ, *ℤ-assoc}
use Rattle.lists.specs.Tests.{dec-T}
use Rattle.algebra.specs.Sums.{count_from-member, sum_below-*ℤ}
use Rattle.algebra.specs.Polynomials.{Polynomial, coeff, eval, is_zero_of, add, mul, negate, shift_by, eval_add, eval_mul, eval-negate}
use Rattle.algebra.specs.Polynomials.{eval-shift_by, is_zero-coeff, coeff-is_zero, is_zero-mul-left, is_zero-shift_by}
use Rattle.algebra.specs.Coefficients.{coeff-add, mul-nonzero}
use Rattle.rules.specs.Sequences.{Sequence, shifts_within}
use Rattle.theory.specs.Combinations.{put, put_same, put_other, sum_below-pair, sum_within-congr, sum_within-+ℤ, sum_within-*ℤ, place_of}
use Rattle.theory.specs.Combinations.{Values, Multiplier, copies, combination_value, DependentValues, number-nonzero}

-- ---- one equation replaced

-- A sum whose second summand is zero is zero only if the first is.
add-nonzero : (p q : Polynomial) → T (not (is_zero_of p)) → T (is_zero_of q) → T (not (is_zero_of (add p q)))
add-nonzero p q n z = not_T (is_zero_of (add p q)) (λ t. T_not (is_zero_of p) n (coeff-is_zero p (λ k. zero-at k (is_zero-coeff (add p q) t k))))
  where
    zero-at : (k : ℕ) → coeff (add p q) k ≡ pos 0 → coeff p k ≡ pos 0
    zero-at k e =
        sym (+ℤ_idr (coeff p k)) ∙ ap (λ a. coeff p k +ℤ a) (sym (is_zero-coeff q z k)) ∙ sym (coeff-add p q k) ∙ e

-- The multipliers after equation i has been replaced, for the first i and j and all the others.
new_multiplier : ℕ → ℕ → Multiplier → (ℤ → Polynomial) → (ℤ → Polynomial) → Polynomial → Multiplier
new_multiplier i j S A C B n k =
    put i (mul (S i k) (A k)) (put j (add (mul (S j k) B) (mul (S i k) (C k))) (λ a. mul (S a k) B)) n

-- Equation i is replaced by one that makes it up together with equation j, after multiplication by B: A times the new
-- equation i and C times equation j.
module _ (i j : ℕ) (apart : i ≢ j) (S : Multiplier) (A C : ℤ → Polynomial) (B : Polynomial) where
  new : Multiplier
  new = new_multiplier i j S A C B

  new-i : (k : ℤ) → new i k ≡ mul (S i k) (A k)
  unfolding new new_multiplier
  new-i k = put_same i _ _

  new-j : (k : ℤ) → new j k ≡ add (mul (S j k) B) (mul (S i k) (C k))
  unfolding new new_multiplier
  new-j k = put_other i _ _ j (λ e. apart (sym e)) ∙ put_same j _ _

  new-other : (n : ℕ) → n ≢ i → n ≢ j → (k : ℤ) → new n k ≡ mul (S n k) B
  unfolding new new_multiplier
  new-other n p q k = put_other i _ _ n p ∙ put_other j _ _ n q

  -- A nonzero multiplier leaves a nonzero one at the same shift.
  new-nonzero : (m : ℕ) (k : ℤ) → T (not (is_zero_of B)) → T (not (is_zero_of (A k))) → i < m → (n : ℕ) → n < m → T (not (is_zero_of (S n k)))
      → (a : ℕ) × (a < m) × T (not (is_zero_of (new a k)))
  new-nonzero m k b a i-below n n-below h = by_cases (dec-T (is_zero_of (S i k))) vanished kept
    where
      kept : ¬ T (is_zero_of (S i k)) → (a : ℕ) × (a < m) × T (not (is_zero_of (new a k)))
      kept z = (i, i-below, rw (new-i k) (mul-nonzero (S i k) (A k) (not_T (is_zero_of (S i k)) z) a))

      vanished : T (is_zero_of (S i k)) → (a : ℕ) × (a < m) × T (not (is_zero_of (new a k)))
      vanished z = (n, n-below, by_cases (ℕ_discrete n j) at_j (λ q. rw (new-other n p q k) product))
        where
          product : T (not (is_zero_of (mul (S n k) B)))
          product = mul-nonzero (S n k) B h b

          p : n ≢ i
          p e = T_not (is_zero_of (S n k)) h (rw e z)

          at_j : n ≡ j → T (not (is_zero_of (new n k)))
          at_j e = rw (e, new-j k) (add-nonzero (mul (S j k) B) (mul (S i k) (C k)) (rw e at product) (is_zero-mul-left (S i k) (C k) z))

  module _ (m N : ℕ) (E E' : Values) (i-below : i < m) (j-below : j < m)
      (same : (z : Sequence) (k : ℕ) (n : ℤ) → k ≢ i → E' z k n ≡ E z k n)
      (law : (z : Sequence) (x k : ℤ) → nat_abs k ≤ N
      → eval (A k) x *ℤ E' z i (x +ℤ k) +ℤ eval (C k) x *ℤ E z j (x +ℤ k) ≡ eval B x *ℤ E z i (x +ℤ k)) where
    others : (z : Sequence) (x : ℤ) (n : ℕ) → n ≢ i → n ≢ j → copies E' N new z x n ≡ eval B x *ℤ copies E N S z x n
    unfolding copies
    others z x n p q =
        sum_within-congr N (λ k _. at k) ∙ sum_within-*ℤ N (eval B x) (λ k. eval (S n k) x *ℤ E z n (x +ℤ k))
      where
        factors : (a b c : ℤ) → a *ℤ b *ℤ c ≡ b *ℤ (a *ℤ c)
        factors a b c = simp ringℤ

        at : (k : ℤ) → eval (new n k) x *ℤ E' z n (x +ℤ k) ≡ eval B x *ℤ (eval (S n k) x *ℤ E z n (x +ℤ k))
        at k = rw (new-other n p q k, eval_mul (S n k) B x, same z n (x +ℤ k) p) (factors (eval (S n k) x) (eval B x) (E z n (x +ℤ k)))

    two : (z : Sequence) (x : ℤ)
        → copies E' N new z x i +ℤ copies E' N new z x j ≡ eval B x *ℤ copies E N S z x i +ℤ eval B x *ℤ copies E N S z x j
    unfolding copies
    two z x =
        sym (sum_within-+ℤ N (after i) (after j)) ∙ sum_within-congr N at
        ∙ sum_within-+ℤ N (λ k. eval B x *ℤ before i k) (λ k. eval B x *ℤ before j k)
        ∙ ap₂ (λ a b. a +ℤ b) (sum_within-*ℤ N (eval B x) (before i)) (sum_within-*ℤ N (eval B x) (before j))
      where
        before : ℕ → ℤ → ℤ
        before n k = eval (S n k) x *ℤ E z n (x +ℤ k)

        after : ℕ → ℤ → ℤ
        after n k = eval (new n k) x *ℤ E' z n (x +ℤ k)

        collect : (s t a b c u v w : ℤ) → a *ℤ u +ℤ c *ℤ v ≡ b *ℤ w
            → s *ℤ a *ℤ u +ℤ (t *ℤ b +ℤ s *ℤ c) *ℤ v ≡ b *ℤ (s *ℤ w) +ℤ b *ℤ (t *ℤ v)
        collect s t a b c u v w h = left ∙ ap (λ e. s *ℤ e +ℤ t *ℤ b *ℤ v) h ∙ right
          where
            left : s *ℤ a *ℤ u +ℤ (t *ℤ b +ℤ s *ℤ c) *ℤ v ≡ s *ℤ (a *ℤ u +ℤ c *ℤ v) +ℤ t *ℤ b *ℤ v
            left = simp ringℤ

            right : s *ℤ (b *ℤ w) +ℤ t *ℤ b *ℤ v ≡ b *ℤ (s *ℤ w) +ℤ b *ℤ (t *ℤ v)
            right = simp ringℤ

        value-j : (k : ℤ) → eval (new j k) x ≡ eval (S j k) x *ℤ eval B x +ℤ eval (S i k) x *ℤ eval (C k) x
        value-j k = rw (new-j k, eval_add (mul (S j k) B) (mul (S i k) (C k)) x, eval_mul (S j k) B x, eval_mul (S i k) (C k) x)

        at : (k : ℤ) → nat_abs k ≤ N → after i k +ℤ after j k ≡ eval B x *ℤ before i k +ℤ eval B x *ℤ before j k
        at k h =
            rw (new-i k, eval_mul (S i k) (A k) x, value-j k, same z j (x +ℤ k) (λ e. apart (sym e)))
            (collect (eval (S i k) x) (eval (S j k) x) (eval (A k) x) (eval B x) (eval (C k) x) _ _ _ (law z x k h))

    new-combination : (z : Sequence) (x : ℤ) → combination_value m E' N new z x ≡ eval B x *ℤ combination_value m E N S z x
    unfolding combination_value
    new-combination z x =
        sum_below-pair m i j (copies E' N new z x) (λ n. eval B x *ℤ copies E N S z x n) i-below j-below apart (two z x) (others z x)
        ∙ sum_below-*ℤ m (eval B x) (copies E N S z x)

-- Equation i is replaced by one that makes it up together with equation j, after multiplication by B: at each shift, A
-- times the new equation i and C times equation j. The combination is multiplied by B.
replaced : (m i j : ℕ) (E E' : Values) → i < m → j < m → i ≢ j → ((z : Sequence) (k : ℕ) (n : ℤ) → k ≢ i → E' z k n ≡ E z k n)
    → (D : DependentValues m E) (A C : ℤ → Polynomial) (B : Polynomial) → T (not (is_zero_of B))
    → ((k : ℤ) → T (not (is_zero_of (A k))))
    → ((z : Sequence) (x k : ℤ) → nat_abs k ≤ D.reach
    → eval (A k) x *ℤ E' z i (x +ℤ k) +ℤ eval (C k) x *ℤ E z j (x +ℤ k) ≡ eval B x *ℤ E z i (x +ℤ k))
    → DependentValues m E'
replaced m i j E E' i-below j-below apart same D A C B b a law =
    record {
      reach = D.reach;
      multiplier = S';
      number = found.0;
      shift = D.shift;
      number-below = found.1;
      shift-within = D.shift-within;
      nonzero = found.2;
      vanishes = λ z x. multiplied z x ∙ ap (λ e. eval B x *ℤ e) (D.vanishes z x) ∙ *ℤ-zero (eval B x);
    }
  where
    S : Multiplier
    S = D.multiplier

    S' : Multiplier
    S' = new i j apart S A C B

    multiplied : (z : Sequence) (x : ℤ) → combination_value m E' D.reach S' z x ≡ eval B x *ℤ combination_value m E D.reach S z x
    multiplied = new-combination i j apart S A C B m D.reach E E' i-below j-below same law

    found : (n : ℕ) × (n < m) × T (not (is_zero_of (S' n D.shift)))
    found = new-nonzero i j apart S A C B m D.shift b (a D.shift) i-below D.number D.number-below D.nonzero

-- ---- a combination of two equations

-- The product of p(n + k) over the shifts k of a list, and the product without one of them.
product : Polynomial → List ℤ → Polynomial
product p [] = pos 1 ∷ []
product p (k ∷ l) = mul (shift_by k p) (product p l)

cofactor : Polynomial → List ℤ → ℤ → Polynomial
cofactor p [] k = pos 1 ∷ []
cofactor p (a ∷ l) k = ite (ℤ_discrete k a) (product p l) (mul (shift_by a p) (cofactor p l k))

eval-number : (a x : ℤ) → eval (a ∷ []) x ≡ a
unfolding eval
eval-number a x = simp ringℤ

shifted-nonzero : (k : ℤ) (p q : Polynomial) → T (not (is_zero_of p)) → T (not (is_zero_of q)) → T (not (is_zero_of (mul (shift_by k p) q)))
shifted-nonzero k p q n h = mul-nonzero (shift_by k p) q (rw (is_zero-shift_by k p) n) h

product-nonzero : (p : Polynomial) (l : List ℤ) → T (not (is_zero_of p)) → T (not (is_zero_of (product p l)))
unfolding product
product-nonzero p [] n = number-nonzero 1 (omega arith)
product-nonzero p (k ∷ l) n = shifted-nonzero k p (product p l) n (product-nonzero p l n)

cofactor-nonzero : (p : Polynomial) (l : List ℤ) (k : ℤ) → T (not (is_zero_of p)) → T (not (is_zero_of (cofactor p l k)))
unfolding cofactor
cofactor-nonzero p [] k n = number-nonzero 1 (omega arith)
cofactor-nonzero p (a ∷ l) k n = step (ℤ_discrete k a) (cofactor-nonzero p l k n)
  where
    step : (d : Dec (k ≡ a)) → T (not (is_zero_of (cofactor p l k)))
        → T (not (is_zero_of (ite d (product p l) (mul (shift_by a p) (cofactor p l k)))))
    step (yes e) h = product-nonzero p l n
    step (no e) h = shifted-nonzero a p (cofactor p l k) n h

-- The factor left out, and the others.
cofactor-law : (p : Polynomial) (l : List ℤ) (k x : ℤ) → Memᴰ k l → eval (product p l) x ≡ eval (cofactor p l k) x *ℤ eval p (x +ℤ k)
unfolding product cofactor
cofactor-law p [] k x m = absurd (Memᴰ.not-nil m)
cofactor-law p (a ∷ l) k x m = step (ℤ_discrete k a) (Memᴰ.cases_cons m) (cofactor-law p l k x)
  where
    step : (d : Dec (k ≡ a)) → (k ≡ a) ⊎ Memᴰ k l → (Memᴰ k l → eval (product p l) x ≡ eval (cofactor p l k) x *ℤ eval p (x +ℤ k))
        → eval (mul (shift_by a p) (product p l)) x ≡ eval (ite d (product p l) (mul (shift_by a p) (cofactor p l k))) x *ℤ eval p (x +ℤ k)
    step (yes e) _ rest =
        eval_mul (shift_by a p) (product p l) x ∙ *ℤ_comm (eval (shift_by a p) x) (eval (product p l) x)
        ∙ ap (λ b. eval (product p l) x *ℤ b) (eval-shift_by a p x ∙ ap (λ b. eval p (x +ℤ b)) (sym e))
    step (no e) c rest =
        eval_mul (shift_by a p) (product p l) x ∙ ap (λ b. eval (shift_by a p) x *ℤ b) (rest (⊎_elim (λ q. absurd (e q)) (λ q. q) c))
        ∙ sym (*ℤ-assoc (eval (shift_by a p) x) (eval (cofactor p l k) x) (eval p (x +ℤ k)))
        ∙ ap (λ b. b *ℤ eval p (x +ℤ k)) (sym (eval_mul (shift_by a p) (cofactor p l k) x))

within-member : (N : ℕ) (k : ℤ) → nat_abs k ≤ N → Memᴰ k (shifts_within N)
unfolding shifts_within
within-member N k h =
    let (j, below, e) = place_of N k h in
    Memᴰ.cast (sym e) (Memᴰ.map (λ j. pos j -ℤ pos N) (count_from-member 0 (suc (N + N)) (omega arith) (omega arith)))

-- d times the new equation i is g times the old one plus h times equation j.
module _ (m i j : ℕ) (E E' : Values) (i-below : i < m) (j-below : j < m) (apart : i ≢ j)
    (same : (z : Sequence) (k : ℕ) (n : ℤ) → k ≢ i → E' z k n ≡ E z k n)
    (d : ℕ) (d-positive : 0 < d) (g h : Polynomial) (g-nonzero : T (not (is_zero_of g)))
    (law : (z : Sequence) (n : ℤ) → pos d *ℤ E' z i n ≡ eval g n *ℤ E z i n +ℤ eval h n *ℤ E z j n) where
  -- Everything is multiplied by the product of g(n + k) over the shifts: then the multiplier of equation i shifted by k
  -- has the factor g(n + k), and g × equation i is d × the new equation i - h × equation j.
  combined-forward : DependentValues m E → DependentValues m E'
  combined-forward D =
      replaced m i j E E' i-below j-below apart same D A C (product g shifts) (product-nonzero g shifts g-nonzero)
      (λ k. mul-nonzero (pos d ∷ []) (G k) (number-nonzero d d-positive) (cofactor-nonzero g shifts k g-nonzero)) at
    where
      shifts : List ℤ
      shifts = shifts_within D.reach

      G : ℤ → Polynomial
      G k = cofactor g shifts k

      A : ℤ → Polynomial
      A k = mul (pos d ∷ []) (G k)

      C : ℤ → Polynomial
      C k = negate (mul (G k) (shift_by k h))

      collect : (b c e u v w y : ℤ) → b *ℤ e ≡ u *ℤ w +ℤ v *ℤ y → b *ℤ c *ℤ e +ℤ neg_ℤ (c *ℤ v) *ℤ y ≡ c *ℤ u *ℤ w
      collect b c e u v w y q = left ∙ ap (λ a. c *ℤ a -ℤ c *ℤ v *ℤ y) q ∙ right ∙ +ℤ-neg_ℤ_cancel (c *ℤ u *ℤ w) (c *ℤ v *ℤ y)
        where
          left : b *ℤ c *ℤ e +ℤ neg_ℤ (c *ℤ v) *ℤ y ≡ c *ℤ (b *ℤ e) -ℤ c *ℤ v *ℤ y
          left = simp ringℤ

          right : c *ℤ (u *ℤ w +ℤ v *ℤ y) -ℤ c *ℤ v *ℤ y ≡ c *ℤ u *ℤ w +ℤ c *ℤ v *ℤ y -ℤ c *ℤ v *ℤ y
          right = simp ringℤ

      value-A : (k x : ℤ) → eval (A k) x ≡ pos d *ℤ eval (G k) x
      value-A k x = eval_mul (pos d ∷ []) (G k) x ∙ ap (λ a. a *ℤ eval (G k) x) (eval-number (pos d) x)

      value-C : (k x : ℤ) → eval (C k) x ≡ neg_ℤ (eval (G k) x *ℤ eval h (x +ℤ k))
      value-C k x =
          eval-negate (mul (G k) (shift_by k h)) x
          ∙ ap neg_ℤ (eval_mul (G k) (shift_by k h) x ∙ ap (λ a. eval (G k) x *ℤ a) (eval-shift_by k h x))

      at : (z : Sequence) (x k : ℤ) → nat_abs k ≤ D.reach
          → eval (A k) x *ℤ E' z i (x +ℤ k) +ℤ eval (C k) x *ℤ E z j (x +ℤ k) ≡ eval (product g shifts) x *ℤ E z i (x +ℤ k)
      at z x k w =
          ap₂ (λ a c. a *ℤ E' z i (x +ℤ k) +ℤ c *ℤ E z j (x +ℤ k)) (value-A k x) (value-C k x)
          ∙ collect (pos d) (eval (G k) x) (E' z i (x +ℤ k)) (eval g (x +ℤ k)) (eval h (x +ℤ k)) _ _ (law z (x +ℤ k))
          ∙ ap (λ a. a *ℤ E z i (x +ℤ k)) (sym (cofactor-law g shifts k x (within-member D.reach k w)))

  combined-back : DependentValues m E' → DependentValues m E
  combined-back D =
      replaced m i j E' E i-below j-below apart (λ z k n p. sym (same z k n p)) D (λ k. shift_by k g) (λ k. shift_by k h) (pos d ∷ [])
      (number-nonzero d d-positive) (λ k. rw (is_zero-shift_by k g) g-nonzero) at
    where
      at : (z : Sequence) (x k : ℤ) → nat_abs k ≤ D.reach
          → eval (shift_by k g) x *ℤ E z i (x +ℤ k) +ℤ eval (shift_by k h) x *ℤ E' z j (x +ℤ k) ≡ eval (pos d ∷ []) x *ℤ E' z i (x +ℤ k)
      at z x k _ =
          rw (eval-shift_by k g x, eval-shift_by k h x, same z j (x +ℤ k) (λ e. apart (sym e)), eval-number (pos d) x) (sym (law z (x +ℤ k)))

  pub combined-iff : DependentValues m E ↔ DependentValues m E'
  combined-iff = (combined-forward, combined-back)
