-- The range and the bits of an i64. A signed operation asks `SFits w64` of its result and reads each operand back from its
-- bits, `to_z w64 (of_z w64 z)`, which is z where z is in the range (`to_z-of_z` of `mir.Facts`). An integer's size bounds its range.
--
-- Main statements
--   sfits-size      an integer of size at most k < 2^63 is in the range of an i64
--   of_z-inj         two integers in the range with the same bits are equal
--   of_z-pos         a nonzero integer in the range has nonzero bits
--   of_z-zero        the test of the bits for 0 is the test of the size for 0
--   size-not-below  where -(k + 1) ≤ a, the size is at most k + 1 exactly if a ≤ k + 1
--   size_below      where a < -(k + 1), the size is above k + 1
--   sfits-quot_z     a quotient is in the range if the size of its dividend is below 2^63
--   sfits-rem_z      a remainder is in the range of its dividend
--   division        what the machine asks of a signed division, by a nonzero divisor
use Rattle.std.specs.Prelude.{◌≡◌, refl, true, false, ℕ, suc, ◌-◌, ◌^◌, ◌≤◌, ◌<◌, T, eqb, leb, ℤ, pos, negsuc, nat_abs}
use Rattle.std.proofs.Common.{sym, ap, ◌∙◌, subst, pos_of_ne-zero, ne_of_gt, arith, SFits, of_z, to_z, to_z-of_z, ne_eqb}
use Rattle.std.proofs.Math.Dec.{eqb-suc-zero, leb-suc-suc}
use Rattle.std.specs.Int.Signed.{le_z, quot_z, rem_z, mag_rem}
use Rattle.std.specs.Int.{Width, w64}
use Rattle.std.proofs.Math.Facts.{sfits_lit}
use mir.ValLaws.{sfits_le}
use Rattle.algebra.specs.Division.{quot_z-le}

pub sfits-size : (z : ℤ) {k : ℕ} → nat_abs z ≤ k → k < 2 ^ 63 → SFits w64 z
sfits-size (pos n) {k} h below = omega arith
sfits-size (negsuc n) {k} h below = omega arith

pub of_z-inj : {w : Width} {y z : ℤ} → SFits w y → SFits w z → of_z w y ≡ of_z w z → y ≡ z
of_z-inj {w} f g e = sym (to_z-of_z f) ∙ ap (to_z w) e ∙ to_z-of_z g

pub of_z-pos : {z : ℤ} → SFits w64 z → 0 < nat_abs z → 0 < of_z w64 z
of_z-pos f h = pos_of_ne-zero (λ e. ne_of_gt h (ap nat_abs (of_z-inj {z = pos 0} f (sfits_lit tt) e)))

pub of_z-zero : (z : ℤ) → SFits w64 z → eqb (of_z w64 z) 0 ≡ eqb (nat_abs z) 0
of_z-zero (pos n) f = refl
of_z-zero (negsuc n) f = ne_eqb (2 ^ 64 - suc n) 0 (λ e. omega arith) ∙ sym (eqb-suc-zero n)

pub size-not-below : (a : ℤ) (k : ℕ) → le_z (negsuc k) a ≡ true → le_z a (pos (suc k)) ≡ leb (nat_abs a) (suc k)
size-not-below (pos n) k h = refl
size-not-below (negsuc n) k h = sym (leb-suc-suc n k ∙ h)

pub size_below : (a : ℤ) (k : ℕ) → le_z (negsuc k) a ≡ false → false ≡ leb (nat_abs a) (suc k)
size_below (pos n) k h = absurd (subst T h tt)
size_below (negsuc n) k h = sym (leb-suc-suc n k ∙ h)

pub sfits-quot_z : (a d : ℤ) → nat_abs a < 2 ^ 63 → SFits w64 (quot_z a d)
sfits-quot_z a d h = sfits-size (quot_z a d) (quot_z-le a d) h

pub sfits-rem_z : {w : Width} (a d : ℤ) → SFits w a → SFits w (rem_z a d)
sfits-rem_z a d f = sfits_le {y = rem_z a d} (mag_rem a d) f

pub division : {a d : ℤ} → SFits w64 a → SFits w64 d → nat_abs a < 2 ^ 63 → 0 < nat_abs d
    → (0 < of_z w64 d) × SFits w64 (quot_z (to_z w64 (of_z w64 a)) (to_z w64 (of_z w64 d)))
division {a} {d} f g h positive = (of_z-pos g positive, simp (to_z-of_z f, to_z-of_z g) (sfits-quot_z a d h))
