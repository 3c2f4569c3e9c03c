-- Eight bytes as one number, the first of them lowest: how many digits stand in front, and what they are worth.
--
-- Main definitions
--   four_word_of, eight_word_of   four and eight bytes as one number
--   stop_word, rest_stops, front_count_of   128 in the first place that held no digit, and how many places stand before it
--   word_value_of             the value of eight digits that stand in one number
--
-- Main statements
--   front_read, more-read  the digits in front and their value, and one digit more
use Rattle.std.specs.Prelude.{◌≡◌, ℕ, zero, suc, ◌+◌, ◌-◌, ◌*◌, ◌/◌, ◌%◌, ◌^◌, ◌<◌, ◌≤◌, Bool, true, false, cond, ◌&&◌, T, ◌⊎◌, List, [], ◌∷◌, length, ◌==◌, ◌≢◌, bit_and, bit_or, bit_xor, nat_le, nat_lt, slice_index, slice_index_or}
use Rattle.std.proofs.Common.{mod-eq_of_lt, add-zero, add_assoc, mul-one, mul_assoc, mod-lt, mul-div_cancel, lt_of_lt_of_le, le-add_right, sym, ◌∙◌, inl, inr, eqb-true, ltb-false, pow_pos, pow_mono, pow-add}
use Rattle.std.proofs.Math.Nat.{mul-add-mod_self_right, zero-add, mod-one, mul-mod_left}
use Rattle.std.proofs.Math.Decide.{ℕ_discrete}
use native.Mathlib.Omega.{arith}
use Rattle.std.proofs.Math.Path.{refl, ap, ap₂, subst}
use Rattle.std.proofs.Math.Dec.{eqb→eq, leb→le}
use Rattle.std.proofs.lemmas.Bool.{eqb-false}
use mir.Val.{bool_byte}
use Rattle.std.proofs.Math.Arith.{lt_of_le-ne, mod-mul, digits_div, digits_mod}
use Rattle.std.proofs.Math.Pow.{split, mod-mod-pow, ones_lt}
use Rattle.std.specs.Int.Bits.{and_zero_r}
use Rattle.std.proofs.lemmas.Nat.{and_block, or_block, xor_block, or_lt, xor_lt, and_mask, and_mod, or_mod}
use Rattle.std.specs.Int.Count.{count_trailing_zeros, trailing_of_zero}
use Rattle.rules.specs.Numbers.{minus, is_digit_of}
use Rattle.lists.specs.Tests.{T-&&}
use Rattle.tokens.specs.Tokens.{DigitsTo, digits-begin, digits-go-on, digit-bounds}
use Rattle.tokens.specs.Straight.{front, valued, front-short, front-next, digits-front, one-read, digits_from_of}

-- ---- a byte

-- Of a byte that was changed by 48: 0 where it was a digit, 128 where not.
unfoldable pub stop_byte : ℕ → ℕ
stop_byte x = bit_and (bit_or ((x + 118) % 256) x) 128

byte_right : ℕ → Bool
unfolding stop_byte is_digit_of
byte_right b =
    cond (is_digit_of b) (stop_byte (bit_xor b 48) == 0 && bit_xor b 48 == b - 48)
    (stop_byte (bit_xor b 48) == 128 && nat_le 10 (bit_xor b 48))

-- The test of each byte below n.
all_right_of : ℕ → Bool
all_right_of zero = true
all_right_of (suc n) = byte_right n && all_right_of n

right-at : (n b : ℕ) → T (all_right_of n) → b < n → T (byte_right b)
unfolding all_right_of
right-at zero b t h = absurd (omega arith)
right-at (suc n) b t h =
    let both = (T-&& (byte_right n) (all_right_of n)).0 t in by (ℕ_discrete b n) both.0 (λ less. right-at n b both.1 less)
  where
    by : Dec (b ≡ n) → T (byte_right n) → (b < n → T (byte_right b)) → T (byte_right b)
    by (yes e) here below = rw e here
    by (no e) here below = below (omega arith)

byte-right : (b : ℕ) → b < 256 → T (byte_right b)
unfolding all_right_of byte_right stop_byte is_digit_of
byte-right b h = right-at 256 b tt h

module _ (b : ℕ) (h : b < 256) where
  digit-byte : is_digit_of b ≡ true → (stop_byte (bit_xor b 48) ≡ 0) × (bit_xor b 48 ≡ b - 48)
  unfolding byte_right
  digit-byte e =
      let t = (T-&& (stop_byte (bit_xor b 48) == 0) (bit_xor b 48 == b - 48)).0 (rw e at (byte-right b h)) in
      (eqb→eq _ _ t.0, eqb→eq _ _ t.1)

  other_byte : is_digit_of b ≡ false → (stop_byte (bit_xor b 48) ≡ 128) × (10 ≤ bit_xor b 48)
  unfolding byte_right
  other_byte e =
      let t = (T-&& (stop_byte (bit_xor b 48) == 128) (nat_le 10 (bit_xor b 48))).0 (rw e at (byte-right b h)) in
      (eqb→eq _ _ t.0, leb→le _ _ t.1)

-- ---- places

-- One byte in k places.
unfoldable pub repeated : ℕ → ℕ → ℕ
repeated b zero = 0
repeated b (suc k) = repeated b k * 256 + b

-- k bytes from i on, the first of them lowest.
unfoldable pub word_at : List ℕ → ℕ → ℕ → ℕ
word_at bytes i zero = 0
word_at bytes i (suc k) = word_at bytes (i + 1) k * 256 + slice_index bytes i

unfoldable pub four_word_of : List ℕ → ℕ → ℕ
four_word_of bytes i =
    slice_index bytes i + 256 * slice_index bytes (i + 1) + 65536 * slice_index bytes (i + 2) + 16777216 * slice_index bytes (i + 3)

unfoldable pub eight_word_of : List ℕ → ℕ → ℕ
eight_word_of bytes i = four_word_of bytes i + 4294967296 * four_word_of bytes (i + 4)

eight-places : (bytes : List ℕ) (i : ℕ) → eight_word_of bytes i ≡ word_at bytes i 8
unfolding eight_word_of four_word_of word_at
eight-places bytes i = simp add_assoc (omega arith)

byte_power : (n : ℕ) → 2 ^ (8 * suc n) ≡ 2 ^ (8 * n) * 256
byte_power n = ap (λ e. 2 ^ e) more ∙ pow-add 2 (8 * n) 8
  where
    more : 8 * suc n ≡ 8 * n + 8
    more = omega arith

low-next : (p x b : ℕ) → 0 < p → b < 256 → (x * 256 + b) % (p * 256) ≡ x % p * 256 + b
low-next p x b some h =
    mod-mul (x * 256 + b) some (omega arith) ∙ ap₂ (λ q r. q % p * 256 + r) (digits_div x h) (digits_mod x h)

-- Of k bytes, each changed by 48: 0 in each place before the first that held no digit, and 128 in that one.
unfoldable pub stop_word : ℕ → ℕ → ℕ
unfolding repeated
stop_word k x = bit_and (bit_or ((x + repeated 118 k) % 2 ^ (8 * k)) x) (repeated 128 k)

-- A byte passes where what is added to it stays in its place and the mask meets nothing.
pass-next : (k x b m : ℕ) → b + 118 < 256 → m < 256 → bit_and (bit_or (b + 118) b) m ≡ 0
    → bit_and (bit_or ((x * 256 + b + repeated 118 (suc k)) % 2 ^ (8 * suc k)) (x * 256 + b)) (repeated 128 k * 256 + m) ≡ stop_word k x * 256 + 0
unfolding stop_word repeated
pass-next k x b m h hm e =
    let sum : x * 256 + b + (repeated 118 k * 256 + 118) ≡ (x + repeated 118 k) * 256 + (b + 118) = omega arith in
    let join = or_block 8 ((x + repeated 118 k) % 2 ^ (8 * k)) x (b + 118) b h (omega arith) in
    ap (λ n. bit_and (bit_or (n % 2 ^ (8 * suc k)) (x * 256 + b)) (repeated 128 k * 256 + m)) sum
    ∙ ap (λ n. bit_and (bit_or (((x + repeated 118 k) * 256 + (b + 118)) % n) (x * 256 + b)) (repeated 128 k * 256 + m)) (byte_power k)
    ∙ ap (λ n. bit_and (bit_or n (x * 256 + b)) (repeated 128 k * 256 + m))
    (low-next (2 ^ (8 * k)) (x + repeated 118 k) (b + 118) (pow_pos (8 * k)) h)
    ∙ ap (λ n. bit_and n (repeated 128 k * 256 + m)) join
    ∙ and_block 8 (bit_or ((x + repeated 118 k) % 2 ^ (8 * k)) x) (repeated 128 k) (bit_or (b + 118) b) m
    (or_lt 8 (b + 118) b h (omega arith)) hm
    ∙ ap (λ n. bit_and (bit_or ((x + repeated 118 k) % 2 ^ (8 * k)) x) (repeated 128 k) * 256 + n) e

stop-pass : (k x b : ℕ) → b ≤ 9 → stop_byte b ≡ 0 → stop_word (suc k) (x * 256 + b) ≡ stop_word k x * 256 + 0
unfolding stop_word stop_byte repeated
stop-pass k x b h e =
    pass-next k x b 128 (omega arith) (omega arith)
    (ap (λ n. bit_and (bit_or n b) 128) (sym (mod-eq_of_lt {n = b + 118} {m = 256} (omega arith))) ∙ e)

-- Any other byte stops, whatever is carried out of its place.
stop-stops : (k x b : ℕ) → b < 256 → stop_byte b ≡ 128 → stop_word (suc k) (x * 256 + b) % 256 ≡ 128
unfolding stop_word stop_byte repeated
stop-stops k x b h e =
    and_mod (bit_or ((x * 256 + b + (repeated 118 k * 256 + 118)) % 2 ^ (8 * suc k)) (x * 256 + b)) (repeated 128 k * 256 + 128) 8
    ∙ ap₂ bit_and
    (or_mod ((x * 256 + b + (repeated 118 k * 256 + 118)) % 2 ^ (8 * suc k)) (x * 256 + b) 8 ∙ ap₂ bit_or low (digits_mod x h))
    (digits_mod (repeated 128 k) (omega arith))
    ∙ e
  where
    low : (x * 256 + b + (repeated 118 k * 256 + 118)) % 2 ^ (8 * suc k) % 256 ≡ (b + 118) % 256
    low =
        ap (λ n. (x * 256 + b + (repeated 118 k * 256 + 118)) % n % 256) (ap (λ e. 2 ^ e) more)
        ∙ mod-mod-pow (x * 256 + b + (repeated 118 k * 256 + 118)) (8 * k) 8
        ∙ ap (λ n. n % 256) sum ∙ mul-add-mod_self_right (x + repeated 118 k) 256 (b + 118)
      where
        more : 8 * suc k ≡ 8 * k + 8
        more = omega arith

        sum : x * 256 + b + (repeated 118 k * 256 + 118) ≡ (x + repeated 118 k) * 256 + (b + 118)
        sum = omega arith

xor-next : (k w b : ℕ) → b < 256 → bit_xor (w * 256 + b) (repeated 48 (suc k)) ≡ bit_xor w (repeated 48 k) * 256 + bit_xor b 48
unfolding repeated
xor-next k w b h = xor_block 8 w (repeated 48 k) b 48 h (omega arith)

-- ---- how many digits stand in front

even-down : (m n y : ℕ) → n ≡ y * 2 → count_trailing_zeros (suc m) n ≡ suc (count_trailing_zeros m y)
unfolding count_trailing_zeros
even-down m n y e =
    let low : n % 2 ≡ 0 = omega arith in
    let high : n / 2 ≡ y = omega arith in
    rw (low, high)

odd-stop : (m n y : ℕ) → n ≡ y * 2 + 1 → count_trailing_zeros (suc m) n ≡ 0
unfolding count_trailing_zeros
odd-stop m n y e =
    let low : n % 2 ≡ 1 = omega arith in
    rw low

-- Eight binary places more.
eight_more : ℕ → ℕ
eight_more m = suc (suc (suc (suc (suc (suc (suc (suc m)))))))

-- The binary places of k bytes.
places : ℕ → ℕ
unfolding eight_more
places zero = 0
places (suc k) = eight_more (places k)

pass-byte : (m y : ℕ) → count_trailing_zeros (eight_more m) (y * 256 + 0) ≡ eight_more (count_trailing_zeros m y)
unfolding eight_more
pass-byte m y =
    even-down _ _ (y * 128) (omega arith)
    ∙ ap suc (even-down _ _ (y * 64) (omega arith)
    ∙ ap suc (even-down _ _ (y * 32) (omega arith)
    ∙ ap suc (even-down _ _ (y * 16) (omega arith)
    ∙ ap suc (even-down _ _ (y * 8) (omega arith)
    ∙ ap suc (even-down _ _ (y * 4) (omega arith)
    ∙ ap suc (even-down _ _ (y * 2) (omega arith)
    ∙ ap suc (even-down _ _ y (omega arith))))))))

stop-byte : (m y : ℕ) → count_trailing_zeros (eight_more m) (y * 256 + 128) ≡ 7
unfolding eight_more
stop-byte m y =
    even-down _ _ (y * 128 + 64) (omega arith)
    ∙ ap suc (even-down _ _ (y * 64 + 32) (omega arith)
    ∙ ap suc (even-down _ _ (y * 32 + 16) (omega arith)
    ∙ ap suc (even-down _ _ (y * 16 + 8) (omega arith)
    ∙ ap suc (even-down _ _ (y * 8 + 4) (omega arith)
    ∙ ap suc (even-down _ _ (y * 4 + 2) (omega arith)
    ∙ ap suc (even-down _ _ (y * 2 + 1) (omega arith)
    ∙ ap suc (odd-stop _ _ y (omega arith))))))))

unfoldable pub front_count_of : ℕ → ℕ
front_count_of s = count_trailing_zeros 64 s / 8

-- Digits as one number, the first of them lowest.
unfoldable pub packed : List ℕ → ℕ
packed [] = 0
packed (d ∷ l) = packed l * 256 + d

-- The bytes from i on, each changed by 48.
unfoldable pub changed : List ℕ → ℕ → ℕ → ℕ
unfolding word_at repeated
changed bytes i k = bit_xor (word_at bytes i k) (repeated 48 k)

module _ (bytes : List ℕ) (small : (j : ℕ) → slice_index bytes j < 256) where
  changed-next : (k i : ℕ) → changed bytes i (suc k) ≡ changed bytes (i + 1) k * 256 + bit_xor (slice_index bytes i) 48
  unfolding changed word_at
  changed-next k i = xor-next k (word_at bytes (i + 1) k) (slice_index bytes i) (small i)

  stopped : (n : ℕ) → n % 256 ≡ 128 → n ≡ n / 256 * 256 + 128
  stopped n e = omega arith

  counted : (k i : ℕ) → count_trailing_zeros (places k) (stop_word k (changed bytes i k)) / 8 ≡ length (front bytes i k)
  unfolding places count_trailing_zeros front eight_more
  counted zero i = refl
  counted (suc k) i =
      ap (λ x. count_trailing_zeros (eight_more (places k)) (stop_word (suc k) x) / 8) (changed-next k i)
      ∙ by (is_digit_of (slice_index bytes i)) refl (counted k (i + 1))
    where
      more : List ℕ
      more = (slice_index bytes i - 48) ∷ front bytes (i + 1) k

      word : ℕ
      word = stop_word (suc k) (changed bytes (i + 1) k * 256 + bit_xor (slice_index bytes i) 48)

      by : (t : Bool) → is_digit_of (slice_index bytes i) ≡ t
          → count_trailing_zeros (places k) (stop_word k (changed bytes (i + 1) k)) / 8 ≡ length (front bytes (i + 1) k)
          → count_trailing_zeros (eight_more (places k)) word / 8 ≡ length (cond t more [])
      by true e rest =
          let d = digit-byte _ (small i) e in
          let h = digit-bounds (slice_index bytes i) e in
          ap (λ n. count_trailing_zeros (eight_more (places k)) n / 8)
          (stop-pass k (changed bytes (i + 1) k) (bit_xor (slice_index bytes i) 48) (omega (arith, d.1)) d.0)
          ∙ ap (λ n. n / 8) (pass-byte (places k) (stop_word k (changed bytes (i + 1) k)))
          ∙ omega arith
      by false e rest =
          let low = stop-stops k (changed bytes (i + 1) k) (bit_xor (slice_index bytes i) 48)
          (xor_lt 8 (slice_index bytes i) 48 (small i) (omega arith)) (other_byte _ (small i) e).0 in
          ap (λ n. n / 8) (ap (count_trailing_zeros (eight_more (places k))) (stopped word low) ∙ stop-byte (places k) (word / 256))

  -- The digits stand in the low places.
  low-digits : (k i : ℕ) → changed bytes i k % 2 ^ (8 * length (front bytes i k)) ≡ packed (front bytes i k)
  unfolding front packed
  low-digits zero i = mod-one (changed bytes i zero)
  low-digits (suc k) i = ap (λ n. n % 2 ^ (8 * length (front bytes i (suc k)))) (changed-next k i) ∙ by (is_digit_of (slice_index bytes i)) refl (low-digits k (i + 1))
    where
      more : List ℕ
      more = (slice_index bytes i - 48) ∷ front bytes (i + 1) k

      by : (t : Bool) → is_digit_of (slice_index bytes i) ≡ t
          → changed bytes (i + 1) k % 2 ^ (8 * length (front bytes (i + 1) k)) ≡ packed (front bytes (i + 1) k)
          → (changed bytes (i + 1) k * 256 + bit_xor (slice_index bytes i) 48) % 2 ^ (8 * length (cond t more [])) ≡ packed (cond t more [])
      by true e rest =
          ap (λ n. (changed bytes (i + 1) k * 256 + bit_xor (slice_index bytes i) 48) % n) (byte_power (length (front bytes (i + 1) k)))
          ∙ low-next (2 ^ (8 * length (front bytes (i + 1) k))) (changed bytes (i + 1) k) (bit_xor (slice_index bytes i) 48)
          (pow_pos (8 * length (front bytes (i + 1) k))) (xor_lt 8 (slice_index bytes i) 48 (small i) (omega arith))
          ∙ ap₂ (λ p d. p * 256 + d) rest (digit-byte _ (small i) e).1
      by false e rest = mod-one (changed bytes (i + 1) k * 256 + bit_xor (slice_index bytes i) 48)

  digit-small : (k i j : ℕ) → slice_index (front bytes i k) j ≤ 9
  unfolding front
  digit-small zero i j = omega arith
  digit-small (suc k) i j = by (is_digit_of (slice_index bytes i)) refl j (digit-small k (i + 1))
    where
      by : (t : Bool) → is_digit_of (slice_index bytes i) ≡ t → (j : ℕ) → ((j : ℕ) → slice_index (front bytes (i + 1) k) j ≤ 9)
          → slice_index (cond t ((slice_index bytes i - 48) ∷ front bytes (i + 1) k) []) j ≤ 9
      by true e zero rest = let h = digit-bounds (slice_index bytes i) e in omega arith
      by true e (suc j) rest = rest j
      by false e j rest = omega arith

  -- Where all k bytes are digits, none stops.
  front-full : (k i : ℕ) → length (front bytes i k) ≡ k → stop_word k (changed bytes i k) ≡ 0
  unfolding front stop_word repeated
  front-full zero i e = and_zero_r (bit_or ((changed bytes i 0 + repeated 118 0) % 2 ^ (8 * 0)) (changed bytes i 0))
  front-full (suc k) i e =
      ap (stop_word (suc k)) (changed-next k i) ∙ by (is_digit_of (slice_index bytes i)) refl e (front-full k (i + 1))
    where
      by : (t : Bool) → is_digit_of (slice_index bytes i) ≡ t
          → length (cond t ((slice_index bytes i - 48) ∷ front bytes (i + 1) k) []) ≡ suc k
          → (length (front bytes (i + 1) k) ≡ k → stop_word k (changed bytes (i + 1) k) ≡ 0)
          → stop_word (suc k) (changed bytes (i + 1) k * 256 + bit_xor (slice_index bytes i) 48) ≡ 0
      by true e full rest =
          let d = digit-byte _ (small i) e in
          let h = digit-bounds (slice_index bytes i) e in
          stop-pass k (changed bytes (i + 1) k) (bit_xor (slice_index bytes i) 48) (omega (arith, d.1)) d.0
          ∙ ap (λ n. n * 256 + 0) (rest (omega arith))
      by false e full rest = absurd (omega arith)

-- ---- digits that were shifted to the high places

-- Zeros in front of digits.
unfoldable pub pad : ℕ → List ℕ → List ℕ
pad zero l = l
pad (suc m) l = 0 ∷ pad m l

pad-length : (m : ℕ) (l : List ℕ) → length (pad m l) ≡ m + length l
unfolding pad
pad-length zero l = omega arith
pad-length (suc m) l = omega (arith, pad-length m l)

pad-small : (m : ℕ) (l : List ℕ) → ((j : ℕ) → slice_index l j ≤ 9) → (j : ℕ) → slice_index (pad m l) j ≤ 9
unfolding pad
pad-small zero l h j = h j
pad-small (suc m) l h zero = omega arith
pad-small (suc m) l h (suc j) = pad-small m l h j

pad-value : (m : ℕ) (l : List ℕ) → valued 10 0 (pad m l) ≡ valued 10 0 l
unfolding pad valued
pad-value zero l = refl
pad-value (suc m) l = pad-value m l

pad-packed : (m : ℕ) (l : List ℕ) → packed (pad m l) ≡ packed l * 2 ^ (8 * m)
unfolding pad packed
pad-packed zero l = sym (mul-one (packed l))
pad-packed (suc m) l =
    ap (λ n. n * 256 + 0) (pad-packed m l) ∙ add-zero (packed l * 2 ^ (8 * m) * 256)
    ∙ mul_assoc (packed l) (2 ^ (8 * m)) 256 ∙ ap (λ n. packed l * n) (sym (byte_power m))

shifted : (x n : ℕ) → n ≤ 8 → x * 2 ^ (64 - 8 * n) % 2 ^ 64 ≡ x % 2 ^ (8 * n) * 2 ^ (64 - 8 * n)
shifted x n h =
    ap (λ m. x * 2 ^ (64 - 8 * n) % m) (ap (λ e. 2 ^ e) whole ∙ pow-add 2 (8 * n) (64 - 8 * n))
    ∙ mod-mul (x * 2 ^ (64 - 8 * n)) (pow_pos (8 * n)) (pow_pos (64 - 8 * n))
    ∙ ap₂ (λ q r. q % 2 ^ (8 * n) * 2 ^ (64 - 8 * n) + r) (mul-div_cancel x (pow_pos (64 - 8 * n))) (mul-mod_left x (2 ^ (64 - 8 * n)))
    ∙ add-zero (x % 2 ^ (8 * n) * 2 ^ (64 - 8 * n))
  where
    whole : 64 ≡ 8 * n + (64 - 8 * n)
    whole = omega arith

-- ---- the value of eight digits

-- Two neighbours are put together in every second place.
unfoldable pub pair_word : ℕ → ℕ
pair_word d = bit_and (10 * d + d / 256) 0x00ff00ff00ff00ff

unfoldable pub quad_word : ℕ → ℕ
quad_word a = bit_and (100 * a + a / 65536) 0x0000ffff0000ffff

unfoldable pub word_value_of : ℕ → ℕ
unfolding pair_word quad_word
word_value_of d = 10000 * (quad_word (pair_word d) % 4294967296) + quad_word (pair_word d) / 4294967296

-- A mask of which the lowest of two places is kept.
lane : (k y e u p : ℕ) → y / 2 ^ (k + k) ≡ u → y % 2 ^ k ≡ p
    → bit_and y (e * 2 ^ (k + k) + (2 ^ k - 1)) ≡ bit_and u e * 2 ^ (k + k) + p
lane k y e u p high low =
    ap (λ n. bit_and n (e * 2 ^ (k + k) + (2 ^ k - 1))) (sym (split y (k + k)))
    ∙ and_block (k + k) (y / 2 ^ (k + k)) e (y % 2 ^ (k + k)) (2 ^ k - 1) (mod-lt y (pow_pos (k + k)))
    (lt_of_lt_of_le (ones_lt k) (pow_mono (le-add_right k k)))
    ∙ ap₂ (λ q r. bit_and q e * 2 ^ (k + k) + r) high (and_mask (y % 2 ^ (k + k)) k ∙ mod-mod-pow y k k ∙ low)

pair-lane : (w a b e : ℕ) → a ≤ 9 → b ≤ 9 → w % 256 ≤ 9
    → bit_and (10 * ((w * 256 + b) * 256 + a) + ((w * 256 + b) * 256 + a) / 256) (e * 65536 + 255)
    ≡ bit_and (10 * w + w / 256) e * 65536 + (10 * a + b)
pair-lane w a b e ha hb hw =
    lane 8 (10 * ((w * 256 + b) * 256 + a) + ((w * 256 + b) * 256 + a) / 256) e (10 * w + w / 256) (10 * a + b) (omega arith)
    (ap (λ n. n % 256) whole ∙ digits_mod (2561 * w + 10 * b) (omega arith))
  where
    whole : 10 * ((w * 256 + b) * 256 + a) + ((w * 256 + b) * 256 + a) / 256 ≡ (2561 * w + 10 * b) * 256 + (10 * a + b)
    whole = omega arith

quad-lane : (w a b e : ℕ) → a ≤ 99 → b ≤ 99 → w % 65536 ≤ 99
    → bit_and (100 * ((w * 65536 + b) * 65536 + a) + ((w * 65536 + b) * 65536 + a) / 65536) (e * 4294967296 + 65535)
    ≡ bit_and (100 * w + w / 65536) e * 4294967296 + (100 * a + b)
quad-lane w a b e ha hb hw =
    lane 16 (100 * ((w * 65536 + b) * 65536 + a) + ((w * 65536 + b) * 65536 + a) / 65536) e (100 * w + w / 65536) (100 * a + b)
    (omega arith) (ap (λ n. n % 65536) whole ∙ digits_mod (6553601 * w + 100 * b) (omega arith))
  where
    whole : 100 * ((w * 65536 + b) * 65536 + a) + ((w * 65536 + b) * 65536 + a) / 65536 ≡ (6553601 * w + 100 * b) * 65536 + (100 * a + b)
    whole = omega arith

module _ (a b c d : ℕ) (ha : a ≤ 99) (hb : b ≤ 99) (hc : c ≤ 99) (hd : d ≤ 99) where
  quads : quad_word (((d * 65536 + c) * 65536 + b) * 65536 + a) ≡ (100 * c + d) * 4294967296 + (100 * a + b)
  unfolding quad_word
  quads =
      quad-lane (d * 65536 + c) a b 65535 ha hb (omega arith)
      ∙ ap (λ n. bit_and n 65535 * 4294967296 + (100 * a + b)) same
      ∙ ap (λ n. n * 4294967296 + (100 * a + b)) (quad-lane 0 c d 0 hc hd (omega arith) ∙ zero-add (100 * c + d))
    where
      same : 100 * (d * 65536 + c) + (d * 65536 + c) / 65536 ≡ 100 * ((0 * 65536 + d) * 65536 + c) + ((0 * 65536 + d) * 65536 + c) / 65536
      same = omega arith

-- Eight digits come to their value.
eight-valued : (l : List ℕ) → length l ≡ 8 → ((j : ℕ) → slice_index l j ≤ 9) → (word_value_of (packed l) ≡ valued 10 0 l) × (packed l < 720575940379279360)
unfolding word_value_of pair_word packed valued
eight-valued (a ∷ b ∷ c ∷ d ∷ e ∷ f ∷ g ∷ h ∷ []) len small =
    let h₀ : a ≤ 9 = small 0 in
    let h₁ : b ≤ 9 = small 1 in
    let h₂ : c ≤ 9 = small 2 in
    let h₃ : d ≤ 9 = small 3 in
    let h₄ : e ≤ 9 = small 4 in
    let h₅ : f ≤ 9 = small 5 in
    let h₆ : g ≤ 9 = small 6 in
    let h₇ : h ≤ 9 = small 7 in
    let w₆ = (0 * 256 + h) * 256 + g in
    let w₄ = (w₆ * 256 + f) * 256 + e in
    let w₂ = (w₄ * 256 + d) * 256 + c in
    let pairs : bit_and (10 * ((w₂ * 256 + b) * 256 + a) + ((w₂ * 256 + b) * 256 + a) / 256) 0x00ff00ff00ff00ff
    ≡ (((10 * g + h) * 65536 + (10 * e + f)) * 65536 + (10 * c + d)) * 65536 + (10 * a + b) =
    pair-lane w₂ a b 0x00ff00ff00ff h₀ h₁ (omega arith)
    ∙ ap (λ n. n * 65536 + (10 * a + b)) (pair-lane w₄ c d 0x00ff00ff h₂ h₃ (omega arith))
    ∙ ap (λ n. (n * 65536 + (10 * c + d)) * 65536 + (10 * a + b)) (pair-lane w₆ e f 0x00ff h₄ h₅ (omega arith))
    ∙ ap (λ n. ((n * 65536 + (10 * e + f)) * 65536 + (10 * c + d)) * 65536 + (10 * a + b)) (pair-lane 0 g h 0 h₆ h₇ (omega arith) ∙ zero-add (10 * g + h)) in
    let whole = ap quad_word pairs
    ∙ quads (10 * a + b) (10 * c + d) (10 * e + f) (10 * g + h) (omega arith) (omega arith) (omega arith) (omega arith) in
    (ap (λ q. 10000 * (q % 4294967296) + q / 4294967296) whole ∙ omega arith, omega arith)
eight-valued [] len small = absurd (omega arith)
eight-valued (a ∷ []) len small = absurd (omega arith)
eight-valued (a ∷ b ∷ []) len small = absurd (omega arith)
eight-valued (a ∷ b ∷ c ∷ []) len small = absurd (omega arith)
eight-valued (a ∷ b ∷ c ∷ d ∷ []) len small = absurd (omega arith)
eight-valued (a ∷ b ∷ c ∷ d ∷ e ∷ []) len small = absurd (omega arith)
eight-valued (a ∷ b ∷ c ∷ d ∷ e ∷ f ∷ []) len small = absurd (omega arith)
eight-valued (a ∷ b ∷ c ∷ d ∷ e ∷ f ∷ g ∷ []) len small = absurd (omega arith)
eight-valued (a ∷ b ∷ c ∷ d ∷ e ∷ f ∷ g ∷ h ∷ i ∷ l) len small = absurd (omega arith)

-- ---- what is read of eight bytes

-- The stops behind the first of eight bytes, which is a sign or a digit.
unfoldable pub rest_stops : ℕ → ℕ
rest_stops x = bit_and (bit_or ((x + 0x7676767676767676) % 2 ^ 64) x) 0x8080808080808000

-- The token begins with its first digit or with a minus.
abbrev pub Begins : List ℕ → ℕ → ℕ → Type 0
Begins bytes at from = ((from ≡ at) × (is_digit_of (slice_index bytes at) ≡ true)) ⊎ ((from ≡ at + 1) × (slice_index bytes at ≡ 45))

pub near : (bytes : List ℕ) (at from : ℕ) → Begins bytes at from → (at ≤ from) × (from ≤ at + 1)
near bytes at from (inl b) = (omega (arith, b.0), omega (arith, b.0))
near bytes at from (inr b) = (omega (arith, b.0), omega (arith, b.0))

module _ (bytes : List ℕ) (small : (j : ℕ) → slice_index bytes j < 256) (at from x s n : ℕ) (h : at + 8 ≤ length bytes)
    (how : Begins bytes at from) (ex : x ≡ bit_xor (eight_word_of bytes at) 0x3030303030303030) (es : s ≡ rest_stops x)
    (en : n ≡ front_count_of s) where
  abbrev first : ℕ
  first = bit_xor (slice_index bytes at) 48

  abbrev rest : ℕ
  rest = changed bytes (at + 1) 7

  abbrev behind : List ℕ
  behind = front bytes (at + 1) 7

  x-is : x ≡ rest * 256 + first
  unfolding changed repeated
  x-is = ex ∙ ap (λ w. bit_xor w 0x3030303030303030) (eight-places bytes at) ∙ changed-next bytes small 7 at

  -- What the first byte is worth: a sign counts as 0.
  first-is : Begins bytes at from → (29 * (from - at) ≤ first) × (first - 29 * (from - at) ≤ 9) × (first ≤ 29)
  first-is (inl b) =
      let d = (digit-byte _ (small at) b.1).1 in
      let bounds = digit-bounds (slice_index bytes at) b.1 in
      (omega arith, omega arith, omega arith)
  first-is (inr b) =
      let d : first ≡ 29 = ap (λ c. bit_xor c 48) b.1 in
      (omega arith, omega arith, omega arith)

  s-is : s ≡ stop_word 7 rest * 256 + 0
  unfolding rest_stops repeated
  s-is =
      es ∙ ap rest_stops x-is
      ∙ pass-next 7 rest first 0 (omega (arith, (first-is how).2)) (omega arith) (and_zero_r (bit_or (first + 118) first))

  n-is : n ≡ suc (length behind)
  unfolding front_count_of places eight_more
  n-is =
      en ∙ ap front_count_of s-is ∙ ap (λ t. t / 8) (pass-byte (places 7) (stop_word 7 rest))
      ∙ eight-more (count_trailing_zeros (places 7) (stop_word 7 rest)) ∙ ap suc (counted bytes small 7 (at + 1))
    where
      eight-more : (t : ℕ) → eight_more t / 8 ≡ suc (t / 8)
      eight-more t = omega arith

  pub front-most : (1 ≤ n) × (n ≤ 8)
  front-most = let short = front-short bytes 7 (at + 1) in (omega (arith, n-is), omega (arith, n-is))

  pub front-some : is_digit_of (slice_index bytes from) ≡ true → from < at + n
  unfolding front
  front-some digit = by how
    where
      by : Begins bytes at from → from < at + n
      by (inl b) = omega (arith, b.0, front-most.0)
      by (inr b) =
          let e : is_digit_of (slice_index bytes (at + 1)) ≡ true = subst (λ k. is_digit_of (slice_index bytes k) ≡ true) b.0 digit in
          omega (arith, b.0, n-is, ap (λ t. length (cond t ((slice_index bytes (at + 1) - 48) ∷ front bytes (at + 1 + 1) 6) [])) e)

  -- All eight are read where none stopped.
  pub front-all : s ≡ 0 → n ≡ 8
  unfolding front_count_of
  front-all e = en ∙ ap front_count_of e ∙ ap (λ t. t / 8) (trailing_of_zero 64)

  -- Where one stopped, the byte behind the digits is none.
  pub front-stops : (s ≢ 0) → is_digit_of (slice_index bytes (at + n)) ≡ false
  front-stops stop =
      let short = front-short bytes 7 (at + 1) in
      let less : length behind < 7 =
      lt_of_le-ne short (λ full. stop (omega (arith, s-is, front-full bytes small 7 (at + 1) full))) in
      ap (λ k. is_digit_of (slice_index bytes k)) (omega (arith, n-is)) ∙ front-next bytes 7 (at + 1) less

  pub sign-less : 29 * (from - at) ≤ x
  sign-less = omega (arith, x-is, (first-is how).0)

  -- Eight digits: zeros, what the first byte is worth, and the digits behind it.
  abbrev eight : List ℕ
  eight = pad (8 - n) ((first - 29 * (from - at)) ∷ behind)

  without_sign : x - 29 * (from - at) ≡ rest * 256 + (first - 29 * (from - at))
  without_sign = omega (arith, x-is, (first-is how).0)

  low_part : (x - 29 * (from - at)) % 2 ^ (8 * n) ≡ packed ((first - 29 * (from - at)) ∷ behind)
  unfolding packed
  low_part =
      ap₂ (λ y m. y % 2 ^ (8 * m)) without_sign n-is
      ∙ ap (λ m. (rest * 256 + (first - 29 * (from - at))) % m) (byte_power (length behind))
      ∙ low-next (2 ^ (8 * length behind)) rest (first - 29 * (from - at)) (pow_pos (8 * length behind)) (omega (arith, (first-is how).1))
      ∙ ap (λ p. p * 256 + (first - 29 * (from - at))) (low-digits bytes small 7 (at + 1))

  shifted-is : (x - 29 * (from - at)) * 2 ^ (64 - 8 * n) % 2 ^ 64 ≡ packed eight
  shifted-is =
      shifted (x - 29 * (from - at)) n front-most.1
      ∙ ap₂ (λ a e. a * 2 ^ e) low_part left
      ∙ sym (pad-packed (8 - n) ((first - 29 * (from - at)) ∷ behind))
    where
      left : 64 - 8 * n ≡ 8 * (8 - n)
      left = omega (arith, front-most)

  digit-each : (j : ℕ) → slice_index ((first - 29 * (from - at)) ∷ behind) j ≤ 9
  digit-each zero = (first-is how).1
  digit-each (suc j) = digit-small bytes small 7 (at + 1) j

  eight-long : (word_value_of (packed eight) ≡ valued 10 0 eight) × (packed eight < 720575940379279360)
  eight-long =
      eight-valued eight (pad-length (8 - n) ((first - 29 * (from - at)) ∷ behind) ∙ omega (arith, n-is, front-most))
      (pad-small (8 - n) ((first - 29 * (from - at)) ∷ behind) digit-each)

  pub shifted-small : (x - 29 * (from - at)) * 2 ^ (64 - 8 * n) % 2 ^ 64 < 720575940379279360
  shifted-small = rw shifted-is eight-long.1

  value-is : word_value_of ((x - 29 * (from - at)) * 2 ^ (64 - 8 * n) % 2 ^ 64) ≡ valued 10 (first - 29 * (from - at)) behind
  unfolding valued
  value-is =
      ap word_value_of shifted-is ∙ eight-long.0 ∙ pad-value (8 - n) ((first - 29 * (from - at)) ∷ behind)
      ∙ ap (λ v. valued 10 v behind) (zero-add (first - 29 * (from - at)))

  -- The digits in front, and their value.
  read-from : Begins bytes at from → DigitsTo bytes from (at + 1 + length behind) (valued 10 (first - 29 * (from - at)) behind)
  read-from (inl b) =
      digits-front bytes from 7 (at + 1) (first - 29 * (from - at))
      (subst (λ v. DigitsTo bytes from (at + 1) v) worth (subst (λ f. DigitsTo bytes f (at + 1) (slice_index bytes at - 48)) (sym b.0)
      (one-read bytes at (omega arith) b.1))) (omega arith) (omega arith)
    where
      worth : slice_index_or bytes at 0 - 48 ≡ first - 29 * (from - at)
      worth = omega (arith, (digit-byte _ (small at) b.1).1, b.0)
  read-from (inr b) =
      digits-front bytes from 7 (at + 1) (first - 29 * (from - at))
      (subst (λ v. DigitsTo bytes from (at + 1) v) worth (subst (λ f. DigitsTo bytes f (at + 1) 0) (sym b.0)
      (digits-begin bytes (at + 1) (omega arith)))) (omega arith) (omega arith)
    where
      worth : 0 ≡ first - 29 * (from - at)
      worth = omega (arith, (first-is how).1, b.0, ap (λ c. bit_xor c 48) b.1)

  pub front_read : DigitsTo bytes from (at + n) (word_value_of ((x - 29 * (from - at)) * 2 ^ (64 - 8 * n) % 2 ^ 64))
  front_read =
      subst (λ v. DigitsTo bytes from (at + n) v) (sym value-is)
      (subst (λ e. DigitsTo bytes from e (valued 10 (first - 29 * (from - at)) behind)) (omega (arith, n-is)) (read-from how))

pub no_digit : (b : ℕ) → b < 256 → nat_lt (bit_xor b 48) 10 ≡ false → is_digit_of b ≡ false
no_digit b h e = by (is_digit_of b) refl
  where
    by : (t : Bool) → is_digit_of b ≡ t → t ≡ false
    by true d = let k = digit-bounds b d in absurd (omega (arith, ltb-false (bit_xor b 48) 10 e, (digit-byte b h d).1))
    by false d = refl

-- The digits in front, with the ninth and the tenth byte or without, end at no digit or behind ten bytes.
module _ (bytes : List ℕ) (small : (j : ℕ) → slice_index bytes j < 256) (at s n : ℕ) (all : s ≡ 0 → n ≡ 8)
    (stops : (s ≢ 0) → is_digit_of (slice_index bytes (at + n)) ≡ false) where
  ended_by : (zero nine ten : Bool) → (s == 0) ≡ zero → nat_lt (bit_xor (slice_index bytes (at + 8)) 48) 10 ≡ nine
      → nat_lt (bit_xor (slice_index bytes (at + 9)) 48) 10 ≡ ten
      → at + n + bool_byte (zero && nine) + bool_byte (zero && nine && ten) < at + 10
      → is_digit_of (slice_index bytes (at + n + bool_byte (zero && nine) + bool_byte (zero && nine && ten))) ≡ false
  ended_by false nine ten e f g h = ap (λ k. is_digit_of (slice_index bytes k)) (omega arith) ∙ stops (eqb-false s 0 e)
  ended_by true false ten e f g h =
      let eight = all (eqb-true s 0 e) in
      ap (λ k. is_digit_of (slice_index bytes k)) (omega arith) ∙ no_digit (slice_index bytes (at + 8)) (small (at + 8)) f
  ended_by true true false e f g h =
      let eight = all (eqb-true s 0 e) in
      ap (λ k. is_digit_of (slice_index bytes k)) (omega arith) ∙ no_digit (slice_index bytes (at + 9)) (small (at + 9)) g
  ended_by true true true e f g h = let eight = all (eqb-true s 0 e) in absurd (omega arith)

  pub front-ended : (more last : Bool) → more ≡ (s == 0 && nat_lt (bit_xor (slice_index bytes (at + 8)) 48) 10)
      → last ≡ (more && nat_lt (bit_xor (slice_index bytes (at + 9)) 48) 10)
      → at + n + bool_byte more + bool_byte last < at + 10
      → is_digit_of (slice_index bytes (at + n + bool_byte more + bool_byte last)) ≡ false
  front-ended more last e f =
      rw (f, e)
      (ended_by (s == 0) (nat_lt (bit_xor (slice_index bytes (at + 8)) 48) 10) (nat_lt (bit_xor (slice_index bytes (at + 9)) 48) 10)
      refl refl refl)

-- One digit more, if it was found.
pub more-read : (bytes : List ℕ) → ((j : ℕ) → slice_index bytes j < 256) → (from end v place : ℕ) → place < length bytes → place < from + 10
    → (t : Bool) → (t ≡ true → (end ≡ place) × (bit_xor (slice_index bytes place) 48 < 10)) → DigitsTo bytes from end v
    → DigitsTo bytes from (end + bool_byte t) (cond t (10 * v + bit_xor (slice_index bytes place) 48) v)
more-read bytes small from end v place h short false found read = subst (λ k. DigitsTo bytes from k v) (omega arith) read
more-read bytes small from end v place h short true found read =
    let f = found refl in
    let digit = is_digit (slice_index bytes place) (small place) f.1 in
    let next = digits-go-on bytes from place v (rw f.0 at read) (omega arith) (omega arith) digit in
    rw (f.0, (digit-byte (slice_index bytes place) (small place) digit).1) next
  where
    is_digit : (b : ℕ) → b < 256 → bit_xor b 48 < 10 → is_digit_of b ≡ true
    is_digit b h less = by (is_digit_of b) refl
      where
        by : (t : Bool) → is_digit_of b ≡ t → t ≡ true
        by true e = refl
        by false e = absurd (omega (arith, (other_byte b h e).1))

-- A token whose digits begin with a digit begins with that or with a minus.
pub begins : (bytes : List ℕ) (at : ℕ) {from : ℕ} → from ≡ digits_from_of bytes at → is_digit_of (slice_index bytes from) ≡ true
    → Begins bytes at from
unfolding digits_from_of
begins bytes at {from} = by (slice_index bytes at == minus) refl
  where
    by : (t : Bool) → (slice_index bytes at == minus) ≡ t → from ≡ cond t (at + 1) at
        → is_digit_of (slice_index bytes from) ≡ true → Begins bytes at from
    by true e f digit = inr (f, eqb-true _ _ e)
    by false e f digit = inl (f, subst (λ k. is_digit_of (slice_index bytes k) ≡ true) f digit)
