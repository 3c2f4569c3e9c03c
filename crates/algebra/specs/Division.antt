-- Exact division of integers: the quotient toward zero and the remainder of `lib.Signed`, and divisibility by a whole number.
--
-- Main definitions
--   DividesZ d a                             the whole number d divides the integer a
--
-- Main statements
--   quot_z-rem_z                               quotient times divisor plus remainder is the dividend
--   nat_abs-quot_z, nat_abs-rem_z                the sizes of quotient and remainder are those of the division of the sizes
--   quot_z-le                                 the quotient's size is at most the dividend's
--   rem_z-multiple, quot_z-multiple            a multiple of r has remainder 0, and remainder 0 makes the quotient exact
--   quot_z-exact                              a product divided by its nonzero factor is the other factor
--   divides_z→multiple, multiple→divides_z     d divides a exactly if a is an integer times d
--   divides_z-+ℤ, divides_z-neg_ℤ, divides_z-*ℤ  the multiples of d are closed under sum, negation and any integer factor
--   quot_z-divides_z                           the quotient by a divisor, times the divisor, is the dividend
use Rattle.std.specs.Prelude.{◌≡◌, refl, ◌≢◌, ℕ, suc, ◌/◌, ◌%◌, ◌≤◌, ℤ, pos, negsuc, neg_ℤ, nat_abs, ◌+ℤ◌, ◌-ℤ◌, ◌*ℤ◌}
use Rattle.std.proofs.Common.{sym, ◌∙◌, ap, ap₂, div-add-mod', div-le_self}
use Rattle.std.specs.Int.{◌∣◌}
use Rattle.std.proofs.Math.Nat.{mul-mod_left, mod-eq-zero_of_dvd, dvd_of_mod-eq-zero, dvd-mul_left_of_dvd, dvd-mul_right_of_dvd}
use Rattle.std.proofs.Math.IntN.{*ℤ_comm, +ℤ_idr, neg_ℤ-+ℤ, neg_ℤ-neg_ℤ}
use Rattle.std.specs.Int.Signed.{quot_z, rem_z}
use Rattle.algebra.specs.Integers.{nat_abs-neg_ℤ, nat_abs-*ℤ, nat_abs-zero, neg_ℤ-*ℤ, *ℤ-neg_ℤ, +ℤ-*ℤ, *ℤ-cancel-left}

-- ---- quotient and remainder

pub nat_abs-quot_z : (a d : ℤ) → nat_abs (quot_z a d) ≡ nat_abs a / nat_abs d
nat_abs-quot_z (pos a) (pos d) = refl
nat_abs-quot_z (pos a) (negsuc d) = nat_abs-neg_ℤ (pos (a / suc d))
nat_abs-quot_z (negsuc a) (pos d) = nat_abs-neg_ℤ (pos (suc a / d))
nat_abs-quot_z (negsuc a) (negsuc d) = refl

pub nat_abs-rem_z : (a d : ℤ) → nat_abs (rem_z a d) ≡ nat_abs a % nat_abs d
nat_abs-rem_z (pos a) d = refl
nat_abs-rem_z (negsuc a) d = nat_abs-neg_ℤ (pos (suc a % nat_abs d))

pub quot_z-le : (a d : ℤ) → nat_abs (quot_z a d) ≤ nat_abs a
quot_z-le a d = rw (nat_abs-quot_z a d) (div-le_self (nat_abs a) (nat_abs d))

-- The signs cancel: only the division of the sizes is left.
pub quot_z-rem_z : (a d : ℤ) → quot_z a d *ℤ d +ℤ rem_z a d ≡ a
quot_z-rem_z (pos a) (pos d) = ap pos (div-add-mod' a d)
quot_z-rem_z (pos a) (negsuc d) = ap (λ e. e +ℤ pos (a % suc d)) (signs (pos (a / suc d)) (pos (suc d))) ∙ ap pos (div-add-mod' a (suc d))
  where
    signs : (x y : ℤ) → neg_ℤ x *ℤ neg_ℤ y ≡ x *ℤ y
    signs x y = simp (neg_ℤ-*ℤ, *ℤ-neg_ℤ, neg_ℤ-neg_ℤ)
quot_z-rem_z (negsuc a) (pos d) = signs (pos (suc a / d)) (pos d) (pos (suc a % d)) ∙ ap (λ n. neg_ℤ (pos n)) (div-add-mod' (suc a) d)
  where
    signs : (x y z : ℤ) → neg_ℤ x *ℤ y +ℤ neg_ℤ z ≡ neg_ℤ (x *ℤ y +ℤ z)
    signs x y z = simp (neg_ℤ-*ℤ, neg_ℤ-+ℤ)
quot_z-rem_z (negsuc a) (negsuc d) =
    signs (pos (suc a / suc d)) (pos (suc d)) (pos (suc a % suc d)) ∙ ap (λ n. neg_ℤ (pos n)) (div-add-mod' (suc a) (suc d))
  where
    signs : (x y z : ℤ) → x *ℤ neg_ℤ y +ℤ neg_ℤ z ≡ neg_ℤ (x *ℤ y +ℤ z)
    signs x y z = simp (*ℤ-neg_ℤ, neg_ℤ-+ℤ)

pub rem_z-multiple : (a r : ℤ) → rem_z (a *ℤ r) r ≡ pos 0
rem_z-multiple a r = nat_abs-zero (nat_abs-rem_z (a *ℤ r) r ∙ ap (λ n. n % nat_abs r) (nat_abs-*ℤ a r) ∙ mul-mod_left (nat_abs a) (nat_abs r))

pub quot_z-multiple : (a r : ℤ) → rem_z a r ≡ pos 0 → quot_z a r *ℤ r ≡ a
quot_z-multiple a r h = sym (+ℤ_idr (quot_z a r *ℤ r)) ∙ ap (λ e. quot_z a r *ℤ r +ℤ e) (sym h) ∙ quot_z-rem_z a r

pub quot_z-exact : (a d : ℤ) → d ≢ pos 0 → quot_z (a *ℤ d) d ≡ a
quot_z-exact a d n = *ℤ-cancel-left d (quot_z (a *ℤ d) d) a n
    (*ℤ_comm d (quot_z (a *ℤ d) d) ∙ quot_z-multiple (a *ℤ d) d (rem_z-multiple a d) ∙ *ℤ_comm a d)

-- ---- divisibility by a whole number

abbrev pub DividesZ : ℕ → ℤ → Type 0
DividesZ d a = d ∣ nat_abs a

pub divides_z→rem_z : (d : ℕ) (a : ℤ) → DividesZ d a → rem_z a (pos d) ≡ pos 0
divides_z→rem_z d a h = nat_abs-zero (nat_abs-rem_z a (pos d) ∙ mod-eq-zero_of_dvd d h)

pub rem_z→divides_z : (d : ℕ) (a : ℤ) → rem_z a (pos d) ≡ pos 0 → DividesZ d a
rem_z→divides_z d a h = dvd_of_mod-eq-zero d (sym (nat_abs-rem_z a (pos d)) ∙ ap nat_abs h)

pub quot_z-divides_z : (d : ℕ) (a : ℤ) → DividesZ d a → quot_z a (pos d) *ℤ pos d ≡ a
quot_z-divides_z d a h = quot_z-multiple a (pos d) (divides_z→rem_z d a h)

pub divides_z→multiple : (d : ℕ) (a : ℤ) → DividesZ d a → (b : ℤ) × (a ≡ b *ℤ pos d)
divides_z→multiple d a h = (quot_z a (pos d), sym (quot_z-divides_z d a h))

pub multiple→divides_z : (d : ℕ) (a b : ℤ) → a ≡ b *ℤ pos d → DividesZ d a
multiple→divides_z d a b h = rem_z→divides_z d a (ap (λ e. rem_z e (pos d)) h ∙ rem_z-multiple b (pos d))

pub divides_z-+ℤ : (d : ℕ) (a b : ℤ) → DividesZ d a → DividesZ d b → DividesZ d (a +ℤ b)
divides_z-+ℤ d a b h k = sum (divides_z→multiple d a h) (divides_z→multiple d b k)
  where
    sum : (x : ℤ) × (a ≡ x *ℤ pos d) → (y : ℤ) × (b ≡ y *ℤ pos d) → DividesZ d (a +ℤ b)
    sum x y = multiple→divides_z d (a +ℤ b) (x.0 +ℤ y.0) (ap₂ ◌+ℤ◌ x.1 y.1 ∙ sym (+ℤ-*ℤ x.0 y.0 (pos d)))

pub divides_z-neg_ℤ : (d : ℕ) (a : ℤ) → DividesZ d a → DividesZ d (neg_ℤ a)
divides_z-neg_ℤ d a h = rw (nat_abs-neg_ℤ a) h

pub divides_z--ℤ : (d : ℕ) (a b : ℤ) → DividesZ d a → DividesZ d b → DividesZ d (a -ℤ b)
divides_z--ℤ d a b h k = divides_z-+ℤ d a (neg_ℤ b) h (divides_z-neg_ℤ d b k)

pub divides_z-*ℤ : (d : ℕ) (a c : ℤ) → DividesZ d a → DividesZ d (a *ℤ c)
divides_z-*ℤ d a c h = rw (nat_abs-*ℤ a c) (dvd-mul_right_of_dvd d h (nat_abs c))

pub *ℤ-divides_z : (d : ℕ) (c a : ℤ) → DividesZ d a → DividesZ d (c *ℤ a)
*ℤ-divides_z d c a h = rw (nat_abs-*ℤ c a) (dvd-mul_left_of_dvd d h (nat_abs c))

-- ---- examples

quotient-example : quot_z (negsuc 41) (pos 6) ≡ negsuc 6
quotient-example = refl

remainder-example : rem_z (negsuc 41) (negsuc 3) ≡ negsuc 1
remainder-example = refl

large-example : quot_z (pos 268435455) (negsuc 4) ≡ negsuc 53687090
large-example = refl
