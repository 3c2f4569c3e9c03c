-- The order of the integers: the laws of `lib.Signed`'s `◌≤ℤ◌` and `◌<ℤ◌` that the kit does not have.
--
-- Main statements
--   ≤ℤ-witness, ≤ℤ-intro                   a ≤ b exactly if a + k = b for a natural number k
--   ≤ℤ-trans, ≤ℤ-antisym, ≤ℤ-total, ..     both orders are transitive, and ≤ is a decidable total order
--   dec-≤ℤ, dec-<ℤ, <ℤ_prop                both orders are decided; two proofs of a < b are equal
--   ≤ℤ-or->, ℤ-trichotomy                  a ≤ b or b < a; a < b or a = b or b < a
--   <ℤ-suc_ℤ, <ℤ-+1                         a < b exactly if a + 1 ≤ b
--   +ℤ-≤ℤ-right, ≤ℤ-cancel-right, ..       a summand is added to both sides, and cancelled; inequalities are added
--   ≤ℤ-difference, neg_ℤ-≤ℤ, ..             a ≤ b exactly if 0 ≤ b - a, and exactly if -b ≤ -a
--   pos-≤ℤ, nat_abs-≤-iff                   the order on ℕ is that of ℤ; |a| ≤ n exactly if -n ≤ a ≤ n
--   *ℤ-≤ℤ-left, ≤ℤ-cancel-*ℤ-left, ..      a nonnegative or positive factor
--   ℤ-induction-up, ℤ-induction-down       induction from a number upward, and downward
use Rattle.std.specs.Prelude.{◌≡◌, ◌↔◌, ◌≢◌, ◌⊎◌, Bool, true, false, cond, ℕ, zero, suc, ◌+◌, ◌-◌, ◌*◌, ◌≤◌, ◌<◌, T, ltb, ℤ, pos, negsuc, neg_ℤ, nat_abs, ◌+ℤ◌, ◌-ℤ◌, ◌*ℤ◌, ◌≤ℤ◌, ◌<ℤ◌}
use Rattle.std.proofs.Common.{sym, ◌∙◌, ap, subst, inl, inr, ⊎_elim, zero-le, suc-le-suc, add-sub_of_le, le_antisymm, le_of_suc-le-suc, not-suc-le-zero, le_refl, add-one, arith, leb→le, le→leb, ltb→lt, lt→ltb}
use Rattle.std.proofs.Math.Logic.{Ne-symm}
use Rattle.std.proofs.Math.Decide.{map_dec}
use Rattle.std.proofs.Math.Dec.{T_prop, not_T}
use Rattle.std.proofs.Math.IntN.{suc_ℤ, +ℤ_assoc, +ℤ_comm, +ℤ_idl, +ℤ_idr, +ℤ_invl, +ℤ_invr, +ℤ_one, +ℤ-neg_ℤ_cancel, -ℤ-+ℤ_cancel, neg_ℤ-+ℤ, neg_ℤ-neg_ℤ, *ℤ_comm, *ℤ-zero}
use Rattle.std.specs.Int.Signed.{le_z, lt_z, le_z_yes, lt_z_yes, lt_z_no, ≤ℤ_refl, <ℤ-≤ℤ_trans, clash_ℤ, yes_non_neg, pos-nat_abs}
use Rattle.lists.specs.Tests.{dec-T}
use Rattle.algebra.specs.Integers.{*ℤ-+ℤ, *ℤ-cancel-left}

-- a ≤ b as a natural number to add to a.
witness-by-sign : (a b : ℤ) → T (le_z a b) → (k : ℕ) × (a +ℤ pos k ≡ b)
witness-by-sign (pos a) (pos b) t = (b - a, ap pos (add-sub_of_le (leb→le a b t)))
witness-by-sign (pos a) (negsuc b) t = absurd t
witness-by-sign (negsuc a) (pos b) t = (suc a + b, shift)
  where
    shift : negsuc a +ℤ (pos (suc a) +ℤ pos b) ≡ pos b
    shift = sym (+ℤ_assoc (negsuc a) (pos (suc a)) (pos b)) ∙ ap (λ x. x +ℤ pos b) (+ℤ_invl (pos (suc a))) ∙ +ℤ_idl (pos b)
witness-by-sign (negsuc a) (negsuc b) t = (a - b, shift)
  where
    split : negsuc a ≡ negsuc b -ℤ pos (a - b)
    split = ap (λ n. neg_ℤ (pos n)) sizes ∙ neg_ℤ-+ℤ (pos (suc b)) (pos (a - b))
      where
        sizes : suc a ≡ suc b + (a - b)
        sizes = omega (arith, leb→le b a t)

    shift : negsuc a +ℤ pos (a - b) ≡ negsuc b
    shift = ap (λ x. x +ℤ pos (a - b)) split ∙ -ℤ-+ℤ_cancel (negsuc b) (pos (a - b))

pub ≤ℤ-witness : {a b : ℤ} → a ≤ℤ b → (k : ℕ) × (a +ℤ pos k ≡ b)
≤ℤ-witness {a} {b} h = witness-by-sign a b h.le

grows : (a : ℤ) (k : ℕ) → T (le_z a (a +ℤ pos k))
grows (pos a) k = le→leb a (a + k) (omega arith)
grows (negsuc a) k = cases (ltb k (suc a))
  where
    cases : (t : Bool) → T (le_z (negsuc a) (cond t (negsuc (suc a - suc k)) (pos (k - suc a))))
    cases true = le→leb (suc a - suc k) a (omega arith)
    cases false = tt

pub ≤ℤ-+ℤ-pos : (a : ℤ) (k : ℕ) → a ≤ℤ (a +ℤ pos k)
≤ℤ-+ℤ-pos a k = le_z_yes (grows a k)

pub ≤ℤ-intro : {a b : ℤ} (k : ℕ) → a +ℤ pos k ≡ b → a ≤ℤ b
≤ℤ-intro {a} k e = subst (λ x. a ≤ℤ x) e (≤ℤ-+ℤ-pos a k)

-- ---- the laws of ≤

pub ≤ℤ-of-≡ : {a b : ℤ} → a ≡ b → a ≤ℤ b
≤ℤ-of-≡ {a} e = subst (λ x. a ≤ℤ x) e (≤ℤ_refl a)

pub ≤ℤ-trans : {a b c : ℤ} → a ≤ℤ b → b ≤ℤ c → a ≤ℤ c
≤ℤ-trans {a} h k =
    let (m, e) = ≤ℤ-witness h in
    let (n, f) = ≤ℤ-witness k in
    ≤ℤ-intro (m + n) (sym (+ℤ_assoc a (pos m) (pos n)) ∙ ap (λ x. x +ℤ pos n) e ∙ f)

antisym-by-sign : (a b : ℤ) → T (le_z a b) → T (le_z b a) → a ≡ b
antisym-by-sign (pos a) (pos b) s t = ap pos (le_antisymm (leb→le a b s) (leb→le b a t))
antisym-by-sign (pos a) (negsuc b) s t = absurd s
antisym-by-sign (negsuc a) (pos b) s t = absurd t
antisym-by-sign (negsuc a) (negsuc b) s t = ap negsuc (le_antisymm (leb→le a b t) (leb→le b a s))

pub ≤ℤ-antisym : {a b : ℤ} → a ≤ℤ b → b ≤ℤ a → a ≡ b
≤ℤ-antisym {a} {b} h k = antisym-by-sign a b h.le k.le

-- ---- sums

pub +ℤ-≤ℤ-right : {a b : ℤ} (c : ℤ) → a ≤ℤ b → (a +ℤ c) ≤ℤ (b +ℤ c)
+ℤ-≤ℤ-right {a} {b} c h = let (k, e) = ≤ℤ-witness h in ≤ℤ-intro k (swap k ∙ ap (λ x. x +ℤ c) e)
  where
    swap : (k : ℕ) → a +ℤ c +ℤ pos k ≡ a +ℤ pos k +ℤ c
    swap k = simp (+ℤ_assoc, +ℤ_comm)

pub ≤ℤ-cancel-right : {a b : ℤ} (c : ℤ) → (a +ℤ c) ≤ℤ (b +ℤ c) → a ≤ℤ b
≤ℤ-cancel-right {a} {b} c h = simp +ℤ-neg_ℤ_cancel at (+ℤ-≤ℤ-right (neg_ℤ c) h)

pub +ℤ-≤ℤ-left : {a b : ℤ} (c : ℤ) → a ≤ℤ b → (c +ℤ a) ≤ℤ (c +ℤ b)
+ℤ-≤ℤ-left {a} {b} c h = rw (+ℤ_comm c a, +ℤ_comm c b) (+ℤ-≤ℤ-right c h)

pub ≤ℤ-cancel-left : {a b : ℤ} (c : ℤ) → (c +ℤ a) ≤ℤ (c +ℤ b) → a ≤ℤ b
≤ℤ-cancel-left {a} {b} c h = ≤ℤ-cancel-right c (rw (+ℤ_comm a c, +ℤ_comm b c) h)

pub +ℤ-≤ℤ : {a b c d : ℤ} → a ≤ℤ b → c ≤ℤ d → (a +ℤ c) ≤ℤ (b +ℤ d)
+ℤ-≤ℤ {b} {c} h k = ≤ℤ-trans (+ℤ-≤ℤ-right c h) (+ℤ-≤ℤ-left b k)

-- ---- < is ≤ one later

<-to-suc : (a b : ℤ) → T (lt_z a b) → T (le_z (suc_ℤ a) b)
<-to-suc (pos a) b t = t
<-to-suc (negsuc zero) (pos b) t = le→leb 0 b zero-le
<-to-suc (negsuc zero) (negsuc b) t = absurd (not-suc-le-zero (ltb→lt b 0 t))
<-to-suc (negsuc (suc a)) (pos b) t = tt
<-to-suc (negsuc (suc a)) (negsuc b) t = le→leb b a (le_of_suc-le-suc (ltb→lt b (suc a) t))

suc-to-< : (a b : ℤ) → T (le_z (suc_ℤ a) b) → T (lt_z a b)
suc-to-< (pos a) b t = t
suc-to-< (negsuc zero) (pos b) t = tt
suc-to-< (negsuc zero) (negsuc b) t = absurd t
suc-to-< (negsuc (suc a)) (pos b) t = tt
suc-to-< (negsuc (suc a)) (negsuc b) t = lt→ltb b (suc a) (suc-le-suc (leb→le b a t))

pub <ℤ-suc_ℤ : {a b : ℤ} → a <ℤ b ↔ suc_ℤ a ≤ℤ b
<ℤ-suc_ℤ {a} {b} = (λ h. le_z_yes (<-to-suc a b h.lt), λ h. lt_z_yes (suc-to-< a b h.le))

pub <ℤ-+1 : {a b : ℤ} → a <ℤ b ↔ (a +ℤ pos 1) ≤ℤ b
<ℤ-+1 {a} {b} = rw (+ℤ_one a) <ℤ-suc_ℤ

pub <ℤ-to-≤ℤ : {a b : ℤ} → a <ℤ b → a ≤ℤ b
<ℤ-to-≤ℤ {a} h = ≤ℤ-trans (≤ℤ-+ℤ-pos a 1) (<ℤ-+1.0 h)

pub ≤ℤ-<ℤ-trans : {a b c : ℤ} → a ≤ℤ b → b <ℤ c → a <ℤ c
≤ℤ-<ℤ-trans {a} {b} h k = <ℤ-+1.1 (≤ℤ-trans (+ℤ-≤ℤ-right (pos 1) h) (<ℤ-+1.0 k))

pub <ℤ-trans : {a b c : ℤ} → a <ℤ b → b <ℤ c → a <ℤ c
<ℤ-trans h k = <ℤ-≤ℤ_trans h (<ℤ-to-≤ℤ k)

-- ---- decisions

pub dec-≤ℤ : (a b : ℤ) → Dec (a ≤ℤ b)
dec-≤ℤ a b = map_dec le_z_yes (λ h. h.le) (dec-T (le_z a b))

pub dec-<ℤ : (a b : ℤ) → Dec (a <ℤ b)
dec-<ℤ a b = map_dec lt_z_yes (λ h. h.lt) (dec-T (lt_z a b))

pub <ℤ_prop : (a b : ℤ) → IsProp (a <ℤ b)
<ℤ_prop a b h k = λ i. record { lt = T_prop (lt_z a b) h.lt k.lt i }

pub ≤ℤ-or-> : (a b : ℤ) → a ≤ℤ b ⊎ b <ℤ a
≤ℤ-or-> a b = cases (dec-<ℤ b a)
  where
    cases : Dec (b <ℤ a) → a ≤ℤ b ⊎ b <ℤ a
    cases (yes h) = inr h
    cases (no n) = inl (lt_z_no (not_T (lt_z b a) (λ t. n (lt_z_yes t))))

pub ≤ℤ-total : (a b : ℤ) → a ≤ℤ b ⊎ b ≤ℤ a
≤ℤ-total a b = ⊎_elim inl (λ h. inr (<ℤ-to-≤ℤ h)) (≤ℤ-or-> a b)

pub ¬≤ℤ→<ℤ : {a b : ℤ} → ¬ (a ≤ℤ b) → b <ℤ a
¬≤ℤ→<ℤ {a} {b} n = ⊎_elim (λ h. absurd (n h)) (λ h. h) (≤ℤ-or-> a b)

pub ¬<ℤ→≤ℤ : {a b : ℤ} → ¬ (a <ℤ b) → b ≤ℤ a
¬<ℤ→≤ℤ {a} {b} n = ⊎_elim (λ h. h) (λ h. absurd (n h)) (≤ℤ-or-> b a)

pub ≤ℤ-≢-<ℤ : {a b : ℤ} → a ≤ℤ b → a ≢ b → a <ℤ b
≤ℤ-≢-<ℤ h n = ¬≤ℤ→<ℤ (λ k. n (≤ℤ-antisym h k))

pub <ℤ-≢ : {a b : ℤ} → a <ℤ b → a ≢ b
<ℤ-≢ h e = clash_ℤ h (≤ℤ-of-≡ (sym e))

pub ≤ℤ-cases : {a b : ℤ} → a ≤ℤ b → a <ℤ b ⊎ (a ≡ b)
≤ℤ-cases {a} {b} h = ⊎_elim (λ k. inr (≤ℤ-antisym h k)) inl (≤ℤ-or-> b a)

pub ℤ-trichotomy : (a b : ℤ) → a <ℤ b ⊎ (a ≡ b) ⊎ b <ℤ a
ℤ-trichotomy a b = ⊎_elim (λ h. ⊎_elim inl (λ e. inr (inl e)) (≤ℤ-cases h)) (λ h. inr (inr h)) (≤ℤ-or-> a b)

-- ---- < and sums

pub +ℤ-<ℤ-right : {a b : ℤ} (c : ℤ) → a <ℤ b → (a +ℤ c) <ℤ (b +ℤ c)
+ℤ-<ℤ-right c h = ¬≤ℤ→<ℤ (λ k. clash_ℤ h (≤ℤ-cancel-right c k))

pub <ℤ-cancel-right : {a b : ℤ} (c : ℤ) → (a +ℤ c) <ℤ (b +ℤ c) → a <ℤ b
<ℤ-cancel-right c h = ¬≤ℤ→<ℤ (λ k. clash_ℤ h (+ℤ-≤ℤ-right c k))

pub +ℤ-<ℤ-left : {a b : ℤ} (c : ℤ) → a <ℤ b → (c +ℤ a) <ℤ (c +ℤ b)
+ℤ-<ℤ-left c h = ¬≤ℤ→<ℤ (λ k. clash_ℤ h (≤ℤ-cancel-left c k))

pub <ℤ-cancel-left : {a b : ℤ} (c : ℤ) → (c +ℤ a) <ℤ (c +ℤ b) → a <ℤ b
<ℤ-cancel-left c h = ¬≤ℤ→<ℤ (λ k. clash_ℤ h (+ℤ-≤ℤ-left c k))

pub +ℤ-<ℤ-≤ℤ : {a b c d : ℤ} → a <ℤ b → c ≤ℤ d → (a +ℤ c) <ℤ (b +ℤ d)
+ℤ-<ℤ-≤ℤ {b} {c} h k = <ℤ-≤ℤ_trans (+ℤ-<ℤ-right c h) (+ℤ-≤ℤ-left b k)

pub +ℤ-≤ℤ-<ℤ : {a b c d : ℤ} → a ≤ℤ b → c <ℤ d → (a +ℤ c) <ℤ (b +ℤ d)
+ℤ-≤ℤ-<ℤ {b} {c} h k = ≤ℤ-<ℤ-trans (+ℤ-≤ℤ-right c h) (+ℤ-<ℤ-left b k)

pub +ℤ-<ℤ : {a b c d : ℤ} → a <ℤ b → c <ℤ d → (a +ℤ c) <ℤ (b +ℤ d)
+ℤ-<ℤ h k = +ℤ-<ℤ-≤ℤ h (<ℤ-to-≤ℤ k)

-- ---- differences and negation

pub ≤ℤ-difference : {a b : ℤ} → a ≤ℤ b ↔ pos 0 ≤ℤ (b -ℤ a)
≤ℤ-difference {a} {b} = (λ h. rw (+ℤ_invr a) at (+ℤ-≤ℤ-right (neg_ℤ a) h), back)
  where
    back : pos 0 ≤ℤ (b -ℤ a) → a ≤ℤ b
    back h = rw (+ℤ_idl a, -ℤ-+ℤ_cancel b a) at (+ℤ-≤ℤ-right a h)

pub <ℤ-difference : {a b : ℤ} → a <ℤ b ↔ pos 0 <ℤ (b -ℤ a)
<ℤ-difference {a} {b} = (λ h. rw (+ℤ_invr a) at (+ℤ-<ℤ-right (neg_ℤ a) h), back)
  where
    back : pos 0 <ℤ (b -ℤ a) → a <ℤ b
    back h = rw (+ℤ_idl a, -ℤ-+ℤ_cancel b a) at (+ℤ-<ℤ-right a h)

negate-≤ : {a b : ℤ} → a ≤ℤ b → neg_ℤ b ≤ℤ neg_ℤ a
negate-≤ {a} {b} h = let (k, e) = ≤ℤ-witness h in ≤ℤ-intro k (ap (λ x. neg_ℤ x +ℤ pos k) (sym e) ∙ cancel k)
  where
    cancel : (k : ℕ) → neg_ℤ (a +ℤ pos k) +ℤ pos k ≡ neg_ℤ a
    cancel k = rw (neg_ℤ-+ℤ a (pos k)) (-ℤ-+ℤ_cancel (neg_ℤ a) (pos k))

pub neg_ℤ-≤ℤ : {a b : ℤ} → a ≤ℤ b ↔ neg_ℤ b ≤ℤ neg_ℤ a
neg_ℤ-≤ℤ {a} {b} = (negate-≤, λ h. rw (neg_ℤ-neg_ℤ a, neg_ℤ-neg_ℤ b) at (negate-≤ h))

pub neg_ℤ-<ℤ : {a b : ℤ} → a <ℤ b ↔ neg_ℤ b <ℤ neg_ℤ a
neg_ℤ-<ℤ = (λ h. ¬≤ℤ→<ℤ (λ k. clash_ℤ h (neg_ℤ-≤ℤ.1 k)), λ h. ¬≤ℤ→<ℤ (λ k. clash_ℤ h (neg_ℤ-≤ℤ.0 k)))

-- ---- natural numbers and sizes

pub pos-≤ℤ : {m n : ℕ} → pos m ≤ℤ pos n ↔ (m ≤ n)
pos-≤ℤ {m} {n} = (λ h. leb→le m n h.le, λ h. le_z_yes (le→leb m n h))

pub pos-<ℤ : {m n : ℕ} → pos m <ℤ pos n ↔ (m < n)
pos-<ℤ {m} {n} = (λ h. ltb→lt m n h.lt, λ h. lt_z_yes (lt→ltb m n h))

pub pos-nonneg : (n : ℕ) → pos 0 ≤ℤ pos n
pos-nonneg n = pos-≤ℤ.1 zero-le

pub pos-nat_abs-nonneg : {a : ℤ} → pos 0 ≤ℤ a → pos (nat_abs a) ≡ a
pos-nat_abs-nonneg {a} h = pos-nat_abs a (yes_non_neg h)

pub nat_abs-≤-iff : (a : ℤ) {n : ℕ} → (nat_abs a ≤ n) ↔ (neg_ℤ (pos n) ≤ℤ a × a ≤ℤ pos n)
nat_abs-≤-iff (pos a) {n} = (λ h. (≤ℤ-trans (neg_ℤ-≤ℤ.0 (pos-nonneg n)) (pos-nonneg a), pos-≤ℤ.1 h), λ h. pos-≤ℤ.0 h.1)
nat_abs-≤-iff (negsuc a) {n} = (λ h. (neg_ℤ-≤ℤ.0 (pos-≤ℤ.1 h), le_z_yes tt), λ h. pos-≤ℤ.0 ((neg_ℤ-≤ℤ {a = pos (suc a)}).1 h.0))

pub ≤ℤ-nat_abs : (a : ℤ) → a ≤ℤ pos (nat_abs a)
≤ℤ-nat_abs a = ((nat_abs-≤-iff a).0 (le_refl (nat_abs a))).1

pub -nat_abs-≤ℤ : (a : ℤ) → neg_ℤ (pos (nat_abs a)) ≤ℤ a
-nat_abs-≤ℤ a = ((nat_abs-≤-iff a).0 (le_refl (nat_abs a))).0

-- ---- products

scale-≤ : {a b : ℤ} (n : ℕ) → a ≤ℤ b → (pos n *ℤ a) ≤ℤ (pos n *ℤ b)
scale-≤ {a} n h = let (k, e) = ≤ℤ-witness h in ≤ℤ-intro (n * k) (sym (*ℤ-+ℤ (pos n) a (pos k)) ∙ ap (λ x. pos n *ℤ x) e)

pub *ℤ-≤ℤ-left : {a b c : ℤ} → pos 0 ≤ℤ c → a ≤ℤ b → (c *ℤ a) ≤ℤ (c *ℤ b)
*ℤ-≤ℤ-left {a} {b} {c} p h = subst (λ x. (x *ℤ a) ≤ℤ (x *ℤ b)) (pos-nat_abs-nonneg p) (scale-≤ (nat_abs c) h)

pub *ℤ-≤ℤ-right : {a b c : ℤ} → pos 0 ≤ℤ c → a ≤ℤ b → (a *ℤ c) ≤ℤ (b *ℤ c)
*ℤ-≤ℤ-right {a} {b} {c} p h = rw (*ℤ_comm a c, *ℤ_comm b c) (*ℤ-≤ℤ-left p h)

pub *ℤ-<ℤ-left : {a b c : ℤ} → pos 0 <ℤ c → a <ℤ b → (c *ℤ a) <ℤ (c *ℤ b)
*ℤ-<ℤ-left {a} {b} {c} p h =
    ≤ℤ-≢-<ℤ (*ℤ-≤ℤ-left (<ℤ-to-≤ℤ p) (<ℤ-to-≤ℤ h)) (λ e. <ℤ-≢ h (*ℤ-cancel-left c a b (Ne-symm (<ℤ-≢ p)) e))

pub *ℤ-<ℤ-right : {a b c : ℤ} → pos 0 <ℤ c → a <ℤ b → (a *ℤ c) <ℤ (b *ℤ c)
*ℤ-<ℤ-right {a} {b} {c} p h = rw (*ℤ_comm a c, *ℤ_comm b c) (*ℤ-<ℤ-left p h)

pub ≤ℤ-cancel-*ℤ-left : {a b c : ℤ} → pos 0 <ℤ c → (c *ℤ a) ≤ℤ (c *ℤ b) → a ≤ℤ b
≤ℤ-cancel-*ℤ-left p h = ¬<ℤ→≤ℤ (λ k. clash_ℤ (*ℤ-<ℤ-left p k) h)

pub <ℤ-cancel-*ℤ-left : {a b c : ℤ} → pos 0 ≤ℤ c → (c *ℤ a) <ℤ (c *ℤ b) → a <ℤ b
<ℤ-cancel-*ℤ-left p h = ¬≤ℤ→<ℤ (λ k. clash_ℤ h (*ℤ-≤ℤ-left p k))

pub *ℤ-nonneg : {a b : ℤ} → pos 0 ≤ℤ a → pos 0 ≤ℤ b → pos 0 ≤ℤ (a *ℤ b)
*ℤ-nonneg {a} {b} p q = rw (*ℤ-zero a) at (*ℤ-≤ℤ-left p q)

pub *ℤ-positive : {a b : ℤ} → pos 0 <ℤ a → pos 0 <ℤ b → pos 0 <ℤ (a *ℤ b)
*ℤ-positive {a} {b} p q = rw (*ℤ-zero a) at (*ℤ-<ℤ-left p q)

-- ---- induction from a number upward, and downward

pub ℤ-induction-up : (P : ℤ → Type 0) (n₀ : ℤ) → P n₀ → ((n : ℤ) → n₀ ≤ℤ n → P n → P (n +ℤ pos 1)) → (n : ℤ) → n₀ ≤ℤ n → P n
ℤ-induction-up P n₀ start step n h = let (k, e) = ≤ℤ-witness h in subst P e (climb k)
  where
    next : (k : ℕ) → n₀ +ℤ pos k +ℤ pos 1 ≡ n₀ +ℤ pos (suc k)
    next k = +ℤ_assoc n₀ (pos k) (pos 1) ∙ ap (λ m. n₀ +ℤ pos m) (add-one k)

    climb : (k : ℕ) → P (n₀ +ℤ pos k)
    climb zero = subst P (sym (+ℤ_idr n₀)) start
    climb (suc k) = subst P (next k) (step (n₀ +ℤ pos k) (≤ℤ-+ℤ-pos n₀ k) (climb k))

pub ℤ-induction-down : (P : ℤ → Type 0) (n₀ : ℤ) → P n₀ → ((n : ℤ) → n ≤ℤ n₀ → P n → P (n -ℤ pos 1)) → (n : ℤ) → n ≤ℤ n₀ → P n
ℤ-induction-down P n₀ start step n h =
    subst P (neg_ℤ-neg_ℤ n) (ℤ-induction-up (λ m. P (neg_ℤ m)) (neg_ℤ n₀) (rw (neg_ℤ-neg_ℤ n₀) start) climb (neg_ℤ n) (neg_ℤ-≤ℤ.0 h))
  where
    climb : (m : ℤ) → neg_ℤ n₀ ≤ℤ m → P (neg_ℤ m) → P (neg_ℤ (m +ℤ pos 1))
    climb m k p = rw (neg_ℤ-+ℤ m (pos 1)) (step (neg_ℤ m) (rw (neg_ℤ-neg_ℤ n₀) at (neg_ℤ-≤ℤ.0 k)) p)
