-- The divisors of a whole number, found in pairs up to the square root.
--
-- Main definitions
--   sqrt n         the square root, rounded down
--   divisors a     the divisors of a > 0, ascending
--
-- Main statements (`Pairwise R l` of the kit: each member is related by R to every later one)
--   sqrt-le, lt-sqrt                 s * s ≤ n < (s + 1) * (s + 1) with s the square root of n
--   mem-divisors                     d is a member of divisors a exactly when d divides a, for a > 0
--   divisors-positive, divisors-ascending   the members are positive, and ascend
use Rattle.std.specs.Prelude.{ℕ, zero, suc, ◌+◌, ◌*◌, ◌/◌, ◌%◌, ◌≤◌, ◌<◌, ◌≡◌, refl, ◌↔◌, Bool, true, false, cond, not, List, map, ◌++◌, reverse, T, eqb, leb, ltb}
use Rattle.std.specs.Int.{◌∣◌}
use Rattle.std.proofs.Common.{sym, ltb→lt, lt→ltb, leb→le, eqb→eq, arith, le_refl, lt_of_not-le, mul-le-mul, mul-le-mul_left, mul-lt-mul_of_pos_right}
use Rattle.std.proofs.Math.Logic.Or
use Rattle.std.proofs.Math.Logic.{∥∥₁_elim, by_cases}
use mathlib.Core.HLevel.{×_prop}
use mathlib.Core.List.{Mem, mem-cast, mem-append, mem-append_left, mem-append_right}
use mathlib.Core.List.{mem-reverse, mem-map_of_mem, exists_of_mem-map}
use mathlib.Core.List.Pairwise
use mathlib.Core.List.{Pairwise}
use mathlib.Core.List.{Pairwise-append, Pairwise-map, Pairwise-reverse}
use Rattle.std.proofs.Math.Dec.{nleb→lt}
use Rattle.std.proofs.Math.Bridge.{le_prop}
use Rattle.std.proofs.Math.Decide.{dec_le}
use Rattle.std.proofs.Math.Nat.{∣_prop, dvd_of_mod-eq-zero, mod-eq-zero_of_dvd, pos_of_dvd_of_pos, mul-div_cancel', div-mul_cancel, div-eq_of_eq-mul_left}
use Rattle.lists.specs.Sifted.{keep, mem-keep, keep-pairwise}
use Rattle.algebra.specs.Sums.{count_from, count_from-bounds, count_from-member}

-- The square root, rounded down: of n from that of n / 4. The first argument bounds the number of calls.
unfoldable pub sqrt_within : ℕ → ℕ → ℕ
sqrt_within zero n = 0
sqrt_within (suc k) zero = 0
sqrt_within (suc k) (suc n) = let r = 2 * sqrt_within k (suc n / 4) in cond (leb ((r + 1) * (r + 1)) (suc n)) (r + 1) r

unfoldable pub sqrt : ℕ → ℕ
unfolding sqrt_within
sqrt n = sqrt_within n n

unfoldable pub divides : ℕ → ℕ → Bool
divides d a = eqb (a % d) 0

-- The divisors of a > 0, ascending: those up to the square root, then their cofactors.
unfoldable pub divisors : ℕ → List ℕ
unfolding keep sqrt divides count_from
divisors a =
    let low = keep (λ d. divides d a) (count_from 1 (sqrt a)) in
    low ++ map (λ d. a / d) (reverse (keep (λ d. ltb d (a / d)) low))

-- ---- the square root

abbrev IsSqrt : ℕ → ℕ → Type 0
IsSqrt n s = (s * s ≤ n) × (n < (s + 1) * (s + 1))

-- From a root s of n / 4: 2 * s or 2 * s + 1 is one of n.
sqrt_within-is_sqrt : (k n : ℕ) → n ≤ k → IsSqrt n (sqrt_within k n)
unfolding sqrt_within
sqrt_within-is_sqrt zero n h = omega arith
sqrt_within-is_sqrt (suc k) zero h = omega arith
sqrt_within-is_sqrt (suc k) (suc n) h = step (sqrt_within k (suc n / 4)) (sqrt_within-is_sqrt k (suc n / 4) (omega arith))
  where
    odd : ℕ → ℕ
    odd s = (2 * s + 1) * (2 * s + 1)

    cases : (s : ℕ) → IsSqrt (suc n / 4) s → (b : Bool) → (T b → odd s ≤ suc n) → (T (not b) → suc n < odd s) →
        IsSqrt (suc n) (cond b (2 * s + 1) (2 * s))
    cases s h true y x = omega (arith, y tt)
    cases s h false y x = omega (arith, x tt)

    step : (s : ℕ) → IsSqrt (suc n / 4) s → IsSqrt (suc n) (cond (leb (odd s) (suc n)) (2 * s + 1) (2 * s))
    step s h = cases s h (leb (odd s) (suc n)) (leb→le (odd s) (suc n)) (nleb→lt (odd s) (suc n))

pub sqrt-le : (n : ℕ) → sqrt n * sqrt n ≤ n
unfolding sqrt
sqrt-le n = (sqrt_within-is_sqrt n n (le_refl n)).0

pub lt-sqrt : (n : ℕ) → n < (sqrt n + 1) * (sqrt n + 1)
unfolding sqrt
lt-sqrt n = (sqrt_within-is_sqrt n n (le_refl n)).1

-- ---- the numbers a, a + 1, ..

mem-count_from : (a n : ℕ) {x : ℕ} → Mem x (count_from a n) ↔ ((a ≤ x) × (x < a + n))
mem-count_from a n =
    (λ m. ∥∥₁_elim m (×_prop le_prop le_prop) (count_from-bounds a n), λ h. ∣ count_from-member a n h.0 h.1 ∣₁)

count_from-ascending : (a n : ℕ) → Pairwise ◌<◌ (count_from a n)
unfolding count_from
count_from-ascending a zero = Pairwise.nil
count_from-ascending a (suc n) = Pairwise.cons (λ x m. ((mem-count_from (suc a) n).0 m).0) (count_from-ascending (suc a) n)

-- ---- divisors

pub divides-dvd : (d a : ℕ) → T (divides d a) ↔ (d ∣ a)
unfolding divides
divides-dvd d a = (λ t. dvd_of_mod-eq-zero d (eqb→eq (a % d) 0 t), λ h. rw (mod-eq-zero_of_dvd d h) tt)

-- The divisors up to the square root, those of them that are below their cofactors, and these cofactors.
abbrev low : ℕ → List ℕ
low a = keep (λ d. divides d a) (count_from 1 (sqrt a))

abbrev lower : ℕ → List ℕ
lower a = keep (λ d. ltb d (a / d)) (low a)

abbrev high : ℕ → List ℕ
high a = map (λ d. a / d) (reverse (lower a))

mem-low : (a : ℕ) {d : ℕ} → Mem d (low a) ↔ ((0 < d) × (d ≤ sqrt a) × (d ∣ a))
mem-low a {d} = (from, to)
  where
    from : Mem d (low a) → (0 < d) × (d ≤ sqrt a) × (d ∣ a)
    from m =
        let h = (mem-keep (λ e. divides e a) (count_from 1 (sqrt a))).0 m in
        let k = (mem-count_from 1 (sqrt a)).0 h.0 in
        (k.0, omega arith, (divides-dvd d a).0 h.1)

    to : (0 < d) × (d ≤ sqrt a) × (d ∣ a) → Mem d (low a)
    to h =
        (mem-keep (λ e. divides e a) (count_from 1 (sqrt a))).1
        ((mem-count_from 1 (sqrt a)).1 (h.0, omega arith), (divides-dvd d a).1 h.2)

low-ascending : (a : ℕ) → Pairwise ◌<◌ (low a)
low-ascending a = keep-pairwise (λ d. divides d a) (count_from-ascending 1 (sqrt a))

mem-lower : (a : ℕ) {d : ℕ} → Mem d (lower a) ↔ (Mem d (low a) × T (ltb d (a / d)))
mem-lower a = mem-keep (λ d. ltb d (a / d)) (low a)

divisors-split : (a : ℕ) → divisors a ≡ low a ++ high a
unfolding divisors
divisors-split a = refl

-- The cofactors of divisors d and e of a > 0.
module _ (a : ℕ) (positive : 0 < a) where
  cofactor-dvd : (d : ℕ) → d ∣ a → a / d ∣ a
  cofactor-dvd d h = ∣ (d, sym (div-mul_cancel d h)) ∣₁

  cofactor-positive : (d : ℕ) → d ∣ a → 0 < a / d
  cofactor-positive d h = pos_of_dvd_of_pos (cofactor-dvd d h) positive

  cofactor-cofactor : (d : ℕ) → d ∣ a → a / (a / d) ≡ d
  cofactor-cofactor d h = div-eq_of_eq-mul_left (cofactor-positive d h) (sym (mul-div_cancel' d h))

  cofactor-antitone : (d e : ℕ) → d ∣ a → e ∣ a → d < e → a / e < a / d
  cofactor-antitone d e h k l = lt_of_not-le (λ c. omega (arith, mul-div_cancel' d h, mul-div_cancel' e k, mul-le-mul_left d c, grows))
    where
      grows : d * (a / e) < e * (a / e)
      grows = mul-lt-mul_of_pos_right l (cofactor-positive e k)

  -- The cofactor of a divisor below it is past the square root.
  cofactor-past : (d : ℕ) → d ∣ a → d < a / d → sqrt a < a / d
  cofactor-past d h l = lt_of_not-le (λ k. clash k (omega arith) (omega arith))
    where
      clash : a / d ≤ sqrt a → d < sqrt a → 0 < sqrt a → ⊥
      clash k less some =
          omega (arith, sqrt-le a, mul-div_cancel' d h, mul-le-mul_left d k, mul-lt-mul_of_pos_right less some)

  -- The cofactor of a divisor past the square root is not.
  cofactor-within : (d : ℕ) → d ∣ a → sqrt a < d → a / d ≤ sqrt a
  cofactor-within d h l = by_cases (dec_le (a / d) (sqrt a)) (λ k. k) (λ n. absurd (clash (lt_of_not-le n)))
    where
      clash : sqrt a < a / d → ⊥
      clash k = omega (arith, lt-sqrt a, mul-div_cancel' d h, mul-le-mul l k)

  mem-high : {y : ℕ} → Mem y (high a) ↔ ((sqrt a < y) × (y ∣ a))
  mem-high {y} = (λ m. ∥∥₁_elim (exists_of_mem-map m) (×_prop le_prop (∣_prop y a)) (λ t. from t.0 t.1 t.2), to)
    where
      from : (d : ℕ) → Mem d (reverse (lower a)) → a / d ≡ y → (sqrt a < y) × (y ∣ a)
      from d m e =
          let k = (mem-lower a).0 (mem-reverse.0 m) in
          let h = ((mem-low a).0 k.0).2 in
          rw (← e) (cofactor-past d h (ltb→lt d (a / d) k.1), cofactor-dvd d h)

      to : (sqrt a < y) × (y ∣ a) → Mem y (high a)
      to h =
          let c = cofactor-within y h.1 h.0 in
          let e = cofactor-cofactor y h.1 in
          let small = (mem-low a).1 (cofactor-positive y h.1, c, cofactor-dvd y h.1) in
          let below = lt→ltb (a / y) (a / (a / y)) (rw e (omega arith)) in
          mem-cast (sym e) (mem-map_of_mem (λ d. a / d) (mem-reverse.1 ((mem-lower a).1 (small, below))))

  high-ascending : Pairwise ◌<◌ (high a)
  high-ascending = (Pairwise-map (λ _ _. le_prop) (λ d. a / d)).1 ((Pairwise-reverse (λ _ _. le_prop)).1 descending)
    where
      lower-ascending : Pairwise ◌<◌ (lower a)
      lower-ascending = keep-pairwise (λ d. ltb d (a / d)) (low-ascending a)

      divisor : {d : ℕ} → Mem d (lower a) → d ∣ a
      divisor m = ((mem-low a).0 ((mem-lower a).0 m).0).2

      falls : (d e : ℕ) → Mem d (lower a) → Mem e (lower a) → d < e → a / e < a / d
      falls d e m n = cofactor-antitone d e (divisor m) (divisor n)

      descending : Pairwise (λ d e. a / e < a / d) (lower a)
      descending = Pairwise.imp_of_mem falls lower-ascending

  pub mem-divisors : {d : ℕ} → Mem d (divisors a) ↔ (d ∣ a)
  mem-divisors {d} = rw (divisors-split a) (from, to)
    where
      from : Mem d (low a ++ high a) → d ∣ a
      from m = Or.elim (∣_prop d a) (mem-append.0 m) (λ k. ((mem-low a).0 k).2) (λ k. (mem-high.0 k).1)

      to : d ∣ a → Mem d (low a ++ high a)
      to h =
          by_cases (dec_le d (sqrt a))
          (λ k. mem-append_left (high a) ((mem-low a).1 (pos_of_dvd_of_pos h positive, k, h)))
          (λ n. mem-append_right (low a) (mem-high.1 (lt_of_not-le n, h)))

  pub divisors-positive : (d : ℕ) → Mem d (divisors a) → 0 < d
  divisors-positive d m = pos_of_dvd_of_pos (mem-divisors.0 m) positive

  pub divisors-ascending : Pairwise ◌<◌ (divisors a)
  divisors-ascending = rw (divisors-split a) ((Pairwise-append (λ _ _. le_prop)).1 (low-ascending a, high-ascending, across))
    where
      across : (d : ℕ) → Mem d (low a) → (y : ℕ) → Mem y (high a) → d < y
      across d m y n = omega (arith, ((mem-low a).0 m).1, (mem-high.0 n).0)
