-- The integers as a commutative ring without zero divisors: the laws that the kit's `lib.IntN` does not have.
--
-- Main statements
--   ringℤ = (expandℤ, sortℤ, neutralℤ)     the rules by which `simp` proves ring equations
--   *ℤ-assoc, *ℤ-+ℤ, +ℤ-*ℤ                 associativity and distributivity of the product
--   neg_ℤ-*ℤ, *ℤ-neg_ℤ                       negation and product
--   nat_abs-*ℤ, nat_abs-+ℤ, nat_abs-neg_ℤ      the size of a product, of a sum (at most the sum of the sizes), of -a
--   no-zero-divisors, *ℤ-cancel-left       a product of nonzero integers is nonzero; a nonzero factor is cancelled
use Rattle.std.specs.Prelude.{◌≡◌, refl, ◌≢◌, ◌⊎◌, ℕ, zero, suc, ◌+◌, ◌-◌, ◌*◌, ◌≤◌, ◌<◌, Bool, true, false, cond, T, ltb, ℤ, pos, negsuc, neg_ℤ, nat_abs, ◌+ℤ◌, ◌*ℤ◌, ◌-ℤ◌}
use Rattle.std.proofs.Common.{sym, ◌∙◌, ap, inl, inr, ⊎_elim, ltb→lt, eq-zero-or-pos, mul-pos, ne_of_gt, suc-ne-zero, arith}
use Rattle.std.proofs.Math.IntN.{suc_ℤ, pred_ℤ, +ℤ_assoc, +ℤ_comm, +ℤ_idl, +ℤ_idr, +ℤ_invr, +ℤ_invl, neg_ℤ-+ℤ, neg_ℤ-neg_ℤ, suc_ℤ-+ℤ, pred_ℤ-+ℤ, +ℤ-neg_ℤ_cancel, sub_ℕ, *ℤ_comm, suc_ℤ-*ℤ, pred_ℤ-*ℤ, zero-*ℤ, *ℤ-zero, *ℤ-one, one}

pub +ℤ-left-comm : (a b c : ℤ) → a +ℤ (b +ℤ c) ≡ b +ℤ (a +ℤ c)
+ℤ-left-comm a b c = sym (+ℤ_assoc a b c) ∙ ap (λ x. x +ℤ c) (+ℤ_comm a b) ∙ +ℤ_assoc b a c

+ℤ-right-comm : (a b c : ℤ) → a +ℤ b +ℤ c ≡ a +ℤ c +ℤ b
+ℤ-right-comm a b c = simp (+ℤ_assoc, +ℤ_comm)

-- One unit more, and one unit less, in the first summand.
distribute-suc : (a b c : ℤ) → (a +ℤ b) *ℤ c ≡ a *ℤ c +ℤ b *ℤ c → (suc_ℤ a +ℤ b) *ℤ c ≡ suc_ℤ a *ℤ c +ℤ b *ℤ c
distribute-suc a b c h = rw (suc_ℤ-+ℤ a b, suc_ℤ-*ℤ (a +ℤ b) c, suc_ℤ-*ℤ a c, h) (+ℤ-right-comm (a *ℤ c) (b *ℤ c) c)

distribute-pred : (a b c : ℤ) → (a +ℤ b) *ℤ c ≡ a *ℤ c +ℤ b *ℤ c → (pred_ℤ a +ℤ b) *ℤ c ≡ pred_ℤ a *ℤ c +ℤ b *ℤ c
distribute-pred a b c h =
    rw (pred_ℤ-+ℤ a b, pred_ℤ-*ℤ (a +ℤ b) c, pred_ℤ-*ℤ a c, h) (+ℤ-right-comm (a *ℤ c) (b *ℤ c) (neg_ℤ c))

-- The product distributes over a sum: by induction on the first summand.
pub +ℤ-*ℤ : (a b c : ℤ) → (a +ℤ b) *ℤ c ≡ a *ℤ c +ℤ b *ℤ c
+ℤ-*ℤ (pos zero) b c = simp (+ℤ_idl, zero-*ℤ)
+ℤ-*ℤ (pos (suc n)) b c = distribute-suc (pos n) b c (+ℤ-*ℤ (pos n) b c)
+ℤ-*ℤ (negsuc zero) b c = distribute-pred (pos zero) b c (simp (+ℤ_idl, zero-*ℤ))
+ℤ-*ℤ (negsuc (suc n)) b c = distribute-pred (negsuc n) b c (+ℤ-*ℤ (negsuc n) b c)

pub *ℤ-+ℤ : (a b c : ℤ) → a *ℤ (b +ℤ c) ≡ a *ℤ b +ℤ a *ℤ c
*ℤ-+ℤ a b c = *ℤ_comm a (b +ℤ c) ∙ +ℤ-*ℤ b c a ∙ simp *ℤ_comm

-- A number whose sum with b is 0 is -b.
pub neg_ℤ-unique : (a b : ℤ) → a +ℤ b ≡ pos 0 → a ≡ neg_ℤ b
neg_ℤ-unique a b h = sym (+ℤ-neg_ℤ_cancel a b) ∙ ap (λ x. x -ℤ b) h ∙ +ℤ_idl (neg_ℤ b)

pub neg_ℤ-*ℤ : (a b : ℤ) → neg_ℤ a *ℤ b ≡ neg_ℤ (a *ℤ b)
neg_ℤ-*ℤ a b = neg_ℤ-unique (neg_ℤ a *ℤ b) (a *ℤ b) (sym (+ℤ-*ℤ (neg_ℤ a) a b) ∙ rw (+ℤ_invl a) (zero-*ℤ b))

pub *ℤ-neg_ℤ : (a b : ℤ) → a *ℤ neg_ℤ b ≡ neg_ℤ (a *ℤ b)
*ℤ-neg_ℤ a b = *ℤ_comm a (neg_ℤ b) ∙ neg_ℤ-*ℤ b a ∙ ap neg_ℤ (*ℤ_comm b a)

assoc-suc : (a b c : ℤ) → a *ℤ b *ℤ c ≡ a *ℤ (b *ℤ c) → suc_ℤ a *ℤ b *ℤ c ≡ suc_ℤ a *ℤ (b *ℤ c)
assoc-suc a b c h = rw (suc_ℤ-*ℤ a b, +ℤ-*ℤ (a *ℤ b) b c, h, suc_ℤ-*ℤ a (b *ℤ c))

assoc-pred : (a b c : ℤ) → a *ℤ b *ℤ c ≡ a *ℤ (b *ℤ c) → pred_ℤ a *ℤ b *ℤ c ≡ pred_ℤ a *ℤ (b *ℤ c)
assoc-pred a b c h = rw (pred_ℤ-*ℤ a b, +ℤ-*ℤ (a *ℤ b) (neg_ℤ b) c, h, pred_ℤ-*ℤ a (b *ℤ c), neg_ℤ-*ℤ b c)

pub *ℤ-assoc : (a b c : ℤ) → a *ℤ b *ℤ c ≡ a *ℤ (b *ℤ c)
*ℤ-assoc (pos zero) b c = simp zero-*ℤ
*ℤ-assoc (pos (suc n)) b c = assoc-suc (pos n) b c (*ℤ-assoc (pos n) b c)
*ℤ-assoc (negsuc zero) b c = assoc-pred (pos zero) b c (simp zero-*ℤ)
*ℤ-assoc (negsuc (suc n)) b c = assoc-pred (negsuc n) b c (*ℤ-assoc (negsuc n) b c)

pub *ℤ-left-comm : (a b c : ℤ) → a *ℤ (b *ℤ c) ≡ b *ℤ (a *ℤ c)
*ℤ-left-comm a b c = sym (*ℤ-assoc a b c) ∙ ap (λ x. x *ℤ c) (*ℤ_comm a b) ∙ *ℤ-assoc b a c

pub one-*ℤ : (a : ℤ) → pos 1 *ℤ a ≡ a
unfolding one
one-*ℤ a = *ℤ_comm (pos 1) a ∙ *ℤ-one a

pub *ℤ-1 : (a : ℤ) → a *ℤ pos 1 ≡ a
unfolding one
*ℤ-1 a = *ℤ-one a

-- Every sum is multiplied out, and signs go inwards; sums and products are sorted; 0 and 1 go.
pub ruleset expandℤ = (+ℤ-*ℤ, *ℤ-+ℤ, neg_ℤ-+ℤ, neg_ℤ-*ℤ, *ℤ-neg_ℤ, neg_ℤ-neg_ℤ)

pub ruleset sortℤ = (*ℤ-assoc, *ℤ_comm, *ℤ-left-comm, +ℤ_assoc, +ℤ_comm, +ℤ-left-comm)

pub ruleset neutralℤ = (+ℤ_idl, +ℤ_idr, zero-*ℤ, *ℤ-zero, one-*ℤ, *ℤ-1)

pub ruleset ringℤ = (expandℤ, sortℤ, neutralℤ)

ring-example : (a b c d : ℤ) → (a +ℤ b) *ℤ (c +ℤ neg_ℤ d) ≡ a *ℤ c +ℤ (neg_ℤ (d *ℤ a) +ℤ (c *ℤ b +ℤ neg_ℤ (b *ℤ d)))
ring-example a b c d = simp ringℤ

pub nat_abs-neg_ℤ : (a : ℤ) → nat_abs (neg_ℤ a) ≡ nat_abs a
nat_abs-neg_ℤ (pos zero) = refl
nat_abs-neg_ℤ (pos (suc n)) = refl
nat_abs-neg_ℤ (negsuc n) = refl

pub nat_abs-*ℤ : (a b : ℤ) → nat_abs (a *ℤ b) ≡ nat_abs a * nat_abs b
nat_abs-*ℤ (pos a) (pos b) = refl
nat_abs-*ℤ (pos a) (negsuc b) = nat_abs-neg_ℤ (pos (a * suc b))
nat_abs-*ℤ (negsuc a) (pos b) = nat_abs-neg_ℤ (pos (suc a * b))
nat_abs-*ℤ (negsuc a) (negsuc b) = refl

nat_abs-subℕ : (a b : ℕ) → nat_abs (sub_ℕ a b) ≤ a + b
nat_abs-subℕ a b = cases (ltb a b) (ltb→lt a b)
  where
    cases : (t : Bool) → (T t → a < b) → nat_abs (cond t (negsuc (b - suc a)) (pos (a - b))) ≤ a + b
    cases true h = omega (arith, h tt)
    cases false h = omega arith

pub nat_abs-+ℤ : (a b : ℤ) → nat_abs (a +ℤ b) ≤ nat_abs a + nat_abs b
nat_abs-+ℤ (pos a) (pos b) = omega arith
nat_abs-+ℤ (pos a) (negsuc b) = nat_abs-subℕ a (suc b)
nat_abs-+ℤ (negsuc a) (pos b) = omega (arith, nat_abs-subℕ b (suc a))
nat_abs-+ℤ (negsuc a) (negsuc b) = omega arith

pub nat_abs-zero : {a : ℤ} → nat_abs a ≡ 0 → a ≡ pos 0
nat_abs-zero {a = pos n} h = ap pos h
nat_abs-zero {a = negsuc n} h = absurd (suc-ne-zero n h)

pub pos-nonzero : {n : ℕ} → 0 < n → pos n ≢ pos 0
pos-nonzero h e = ne_of_gt h (ap nat_abs e)

pub no-zero-divisors : (a b : ℤ) → a *ℤ b ≡ pos 0 → (a ≡ pos 0) ⊎ (b ≡ pos 0)
no-zero-divisors a b h = cases (eq-zero-or-pos (nat_abs a)) (eq-zero-or-pos (nat_abs b))
  where
    size : nat_abs a * nat_abs b ≡ 0
    size = sym (nat_abs-*ℤ a b) ∙ ap nat_abs h

    cases : (nat_abs a ≡ 0) ⊎ (0 < nat_abs a) → (nat_abs b ≡ 0) ⊎ (0 < nat_abs b) → (a ≡ pos 0) ⊎ (b ≡ pos 0)
    cases (inl e) _ = inl (nat_abs-zero e)
    cases (inr p) (inl e) = inr (nat_abs-zero e)
    cases (inr p) (inr q) = absurd (ne_of_gt (mul-pos p q) size)

pub *ℤ-nonzero : {a b : ℤ} → a ≢ pos 0 → b ≢ pos 0 → a *ℤ b ≢ pos 0
*ℤ-nonzero {a} {b} p q h = ⊎_elim p q (no-zero-divisors a b h)

pub -ℤ-zero : (a b : ℤ) → a -ℤ b ≡ pos 0 → a ≡ b
-ℤ-zero a b h = neg_ℤ-unique a (neg_ℤ b) h ∙ neg_ℤ-neg_ℤ b

pub *ℤ-cancel-left : (c a b : ℤ) → c ≢ pos 0 → c *ℤ a ≡ c *ℤ b → a ≡ b
*ℤ-cancel-left c a b n h = ⊎_elim (λ e. absurd (n e)) (-ℤ-zero a b) (no-zero-divisors c (a -ℤ b) difference)
  where
    difference : c *ℤ (a -ℤ b) ≡ pos 0
    difference = *ℤ-+ℤ c a (neg_ℤ b) ∙ rw (h, *ℤ-neg_ℤ c b) (+ℤ_invr (c *ℤ b))
