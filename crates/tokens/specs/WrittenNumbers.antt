-- Numbers and their bytes.
--
-- Main statements
--   decimal_within-bound                   the number of calls allowed does not matter, if it is above the number
--   length-decimal_within                  a number below 10^(d + 1) has at most d + 1 digits
--   is_number-decimal, number_of-decimal    what is written of a number of at most ten digits is a number, namely that one
--   decimal-number_of                      a token that is a number is what is written of that number
--   word-decimal, after_word-decimal       a number that is written in front of a separator is the first token
--   word-after_word                        a token and what follows it are all bytes
--   word-in_word, after_word-separator      a token holds no separator, and what follows it begins with one
use Rattle.std.specs.Prelude.{◌≡◌, ℕ, zero, suc, ◌+◌, ◌-◌, ◌*◌, ◌/◌, ◌%◌, ◌^◌, ◌<◌, ◌≤◌, Bool, true, false, cond, not, ◌&&◌, ◌||◌, T, ◌⊎◌, ◌↔◌, List, [], ◌∷◌, ◌++◌, length, ℤ, pos, negsuc, neg_ℤ, ◌==◌, ◌≢◌, nat_le, nat_lt, unsigned_abs, refl}
use Rattle.std.proofs.Common.{not-suc-le-zero, suc-ne-zero, pow-suc, div-lt_iff_lt-mul, sym, ◌∙◌, ap, ap₂, subst, inl, inr, lit<, leb→le, le→leb, ltb→lt, lt→ltb, nltb→le, eqb→eq, T_not}
use native.Mathlib.Omega.{arith}
use mathlib.Core.List.{append-nil, nil≢cons, head-eq_of_cons-eq}
use Rattle.std.proofs.Math.Dec.{eqb_refl, not_T}
use Rattle.lists.specs.Tests.{T-&&, T-or-left, cond-not, cond-passed, every, every-cons}
use Rattle.rules.specs.Numbers.{space, newline, minus, is_separator_of, word, after_word, is_digit_of, signed, digits, starts_right_of, is_number}
use Rattle.rules.specs.Numbers.{value_from, number_of, decimal_within, decimal}

-- ---- the digits of a natural number

-- A number with several digits, and its last digit.
decimal_within-tens : (k n : ℕ) (written : List ℕ) → 10 ≤ n
    → decimal_within (suc k) n written ≡ decimal_within k (n / 10) ((48 + n % 10) ∷ written)
unfolding decimal_within
decimal_within-tens k n written h = cond-not (nat_lt n 10) _ _ (not_T (nat_lt n 10) (λ i. not-lt (ltb→lt n 10 i)))
  where
    not-lt : n < 10 → ⊥
    not-lt i = omega arith

decimal_within-digit : (k n : ℕ) (written : List ℕ) → n < 10 → decimal_within (suc k) n written ≡ (48 + n) ∷ written
unfolding decimal_within
decimal_within-digit k n written h = cond-passed (nat_lt n 10) _ _ (lt→ltb n 10 h)

-- What holds of the digits of every number, by its last digit; P's arguments are a number, the bytes that stand after it, and
-- its digits with those bytes.
module _ (P : ℕ → List ℕ → List ℕ → Type 0) (one : (n : ℕ) (written : List ℕ) → n < 10 → P n written ((48 + n) ∷ written))
    (more : (n : ℕ) (written bytes : List ℕ) → 10 ≤ n → P (n / 10) ((48 + n % 10) ∷ written) bytes → P n written bytes) where
  decimal-induction : (k n : ℕ) (written : List ℕ) → n < k → P n written (decimal_within k n written)
  unfolding decimal_within
  decimal-induction zero n written h = absurd (not-suc-le-zero h)
  decimal-induction (suc k) n written h =
      go (nat_lt n 10) (ltb→lt n 10) (nltb→le n 10) (λ i. decimal-induction k (n / 10) ((48 + n % 10) ∷ written) (fewer i))
    where
      fewer : 10 ≤ n → n / 10 < k
      fewer i = omega arith

      go : (t : Bool) → (T t → n < 10) → (T (not t) → 10 ≤ n)
          → (10 ≤ n → P (n / 10) ((48 + n % 10) ∷ written) (decimal_within k (n / 10) ((48 + n % 10) ∷ written)))
          → P n written (cond t ((48 + n) ∷ written) (decimal_within k (n / 10) ((48 + n % 10) ∷ written)))
      go true low high rest = one n written (low tt)
      go false low high rest = more n written _ (high tt) (rest (high tt))

-- Any bound on the number of calls serves that is above the number.
pub decimal_within-bound : (k j n : ℕ) (written : List ℕ) → n < k → n < j → decimal_within j n written ≡ decimal_within k n written
decimal_within-bound k j n written h i =
    decimal-induction (λ m w bytes. (b : ℕ) → m < b → decimal_within b m w ≡ bytes) one more k n written h j i
  where
    one : (m : ℕ) (w : List ℕ) → m < 10 → (b : ℕ) → m < b → decimal_within b m w ≡ (48 + m) ∷ w
    one m w h zero i = absurd (not-suc-le-zero i)
    one m w h (suc b) i = decimal_within-digit b m w h

    more : (m : ℕ) (w bytes : List ℕ) → 10 ≤ m
        → ((b : ℕ) → m / 10 < b → decimal_within b (m / 10) ((48 + m % 10) ∷ w) ≡ bytes)
        → (b : ℕ) → m < b → decimal_within b m w ≡ bytes
    more m w bytes h e zero i = absurd (not-suc-le-zero i)
    more m w bytes h e (suc b) i = decimal_within-tens b m w h ∙ e b (omega arith)

-- The digits of n in front of those written.
decimal_from : ℕ → List ℕ → List ℕ
decimal_from n written = decimal_within (suc n) n written

decimal_from-digit : (d : ℕ) (written : List ℕ) → d < 10 → decimal_from d written ≡ (48 + d) ∷ written
unfolding decimal_from
decimal_from-digit d written h = decimal_within-digit d d written h

decimal_from-tens : (v d : ℕ) (written : List ℕ) → 1 ≤ v → d < 10 → decimal_from (10 * v + d) written ≡ decimal_from v ((48 + d) ∷ written)
unfolding decimal_from
decimal_from-tens v d written h i =
    decimal_within-tens (10 * v + d) (10 * v + d) written (omega arith)
    ∙ ap₂ (λ q r. decimal_within (10 * v + d) q ((48 + r) ∷ written)) quotient remainder
    ∙ decimal_within-bound (suc v) (10 * v + d) v ((48 + d) ∷ written) (omega arith) (omega arith)
  where
    quotient : (10 * v + d) / 10 ≡ v
    quotient = omega arith

    remainder : (10 * v + d) % 10 ≡ d
    remainder = omega arith

value-decimal_within : (k n : ℕ) (written : List ℕ) → n < k → value_from 0 (decimal_within k n written) ≡ value_from n written
unfolding value_from
value-decimal_within =
    decimal-induction (λ n written bytes. value_from 0 bytes ≡ value_from n written)
    (λ n written h. ap (λ v. value_from v written) (omega arith))
    (λ n written bytes h e. e ∙ ap (λ v. value_from v written) (omega arith))

digit-byte : (d : ℕ) → d < 10 → T (is_digit_of (48 + d))
unfolding is_digit_of
digit-byte d h = (T-&& (nat_le 48 (48 + d)) (nat_le (48 + d) 57)).1 (le→leb 48 (48 + d) (omega arith), le→leb (48 + d) 57 (omega arith))

digits-decimal_within : (k n : ℕ) (written : List ℕ) → n < k → T (every is_digit_of written) → T (every is_digit_of (decimal_within k n written))
unfolding every
digits-decimal_within =
    decimal-induction (λ n written bytes. T (every is_digit_of written) → T (every is_digit_of bytes))
    (λ n written h i. (T-&& (is_digit_of (48 + n)) (every is_digit_of written)).1 (digit-byte n h, i))
    (λ n written bytes h e i. e ((T-&& (is_digit_of (48 + n % 10)) (every is_digit_of written)).1 (digit-byte (n % 10) (omega arith), i)))

pub length-decimal_within : (k n : ℕ) (written : List ℕ) → n < k → (d : ℕ) → n < 10 ^ suc d
    → length (decimal_within k n written) ≤ suc d + length written
length-decimal_within =
    decimal-induction (λ n written bytes. (d : ℕ) → n < 10 ^ suc d → length bytes ≤ suc d + length written)
    (λ n written h d i. omega arith) more
  where
    more : (n : ℕ) (written bytes : List ℕ) → 10 ≤ n
        → ((d : ℕ) → n / 10 < 10 ^ suc d → length bytes ≤ suc d + length ((48 + n % 10) ∷ written))
        → (d : ℕ) → n < 10 ^ suc d → length bytes ≤ suc d + length written
    more n written bytes h e zero i = omega arith
    more n written bytes h e (suc d) i = omega (arith, e d ((div-lt_iff_lt-mul (lit< tt)).1 (rw pow-suc at i)))

-- Does a digit other than 0 stand first?
leading : List ℕ → Bool
leading [] = false
leading (d ∷ ds) = not (d == 48)

leading-decimal_within : (k n : ℕ) (written : List ℕ) → n < k → 1 ≤ n → T (leading (decimal_within k n written))
unfolding leading
leading-decimal_within =
    decimal-induction (λ n written bytes. 1 ≤ n → T (leading bytes))
    (λ n written h i. not_T (48 + n == 48) (λ e. above n i (eqb→eq (48 + n) 48 e)))
    (λ n written bytes h e i. e (omega arith))
  where
    above : (n : ℕ) → 1 ≤ n → 48 + n ≢ 48
    above n h e = omega arith

-- ---- sign and digits

-- A minus or nothing, then digits.
with_sign : Bool → List ℕ → List ℕ
with_sign true ds = minus ∷ ds
with_sign false ds = ds

signed_value_of : Bool → ℕ → ℤ
signed_value_of true v = neg_ℤ (pos v)
signed_value_of false v = pos v

-- Digits that make a number with this sign.
right_digits : Bool → List ℕ → Bool
right_digits sign ds = nat_le 1 (length ds) && (every is_digit_of ds && nat_le (length ds) 10 && starts_right_of sign ds)

is_number-parts : (w : List ℕ) → is_number w ≡ right_digits (signed w) (digits w)
unfolding is_number right_digits
is_number-parts w = refl

number_of-parts : (w : List ℕ) → number_of w ≡ signed_value_of (signed w) (value_from 0 (digits w))
unfolding number_of signed_value_of
number_of-parts w = go (signed w) (value_from 0 (digits w))
  where
    go : (sign : Bool) (v : ℕ) → cond sign (neg_ℤ (pos v)) (pos v) ≡ signed_value_of sign v
    go true v = refl
    go false v = refl

with_sign-parts : (w : List ℕ) → with_sign (signed w) (digits w) ≡ w
unfolding signed digits with_sign
with_sign-parts [] = refl
with_sign-parts (b ∷ w) = go (b == minus) (eqb→eq b minus)
  where
    go : (t : Bool) → (T t → b ≡ minus) → with_sign t (cond t w (b ∷ w)) ≡ b ∷ w
    go true e = ap (λ c. c ∷ w) (sym (e tt))
    go false e = refl

digit-bounds : (b : ℕ) → T (is_digit_of b) → (48 ≤ b) × (b ≤ 57)
unfolding is_digit_of
digit-bounds b h = let e = (T-&& (nat_le 48 b) (nat_le b 57)).0 h in (leb→le 48 b e.0, leb→le b 57 e.1)

-- The sign and the digits of digits with a sign.
parts-with_sign : (sign : Bool) (ds : List ℕ) → T (every is_digit_of ds) → (signed (with_sign sign ds) ≡ sign) × (digits (with_sign sign ds) ≡ ds)
unfolding signed digits with_sign
parts-with_sign true ds h = (refl, refl)
parts-with_sign false [] h = (refl, refl)
parts-with_sign false (d ∷ ds) h = go (d == minus) (λ e. no_minus (eqb→eq d minus e))
  where
    no_minus : d ≡ minus → ⊥
    no_minus e = omega (arith, digit-bounds d ((every-cons is_digit_of d ds).0 h).0)

    go : (t : Bool) → (T t → ⊥) → (t ≡ false) × (cond t ds (d ∷ ds) ≡ d ∷ ds)
    go true e = absurd (e tt)
    go false e = (refl, refl)

negative : ℤ → Bool
negative (pos n) = false
negative (negsuc n) = true

decimal-parts : (a : ℤ) → decimal a ≡ with_sign (negative a) (decimal_from (unsigned_abs a) [])
unfolding decimal with_sign negative decimal_from
decimal-parts (pos n) = refl
decimal-parts (negsuc n) = refl

signed_value-parts : (a : ℤ) → signed_value_of (negative a) (unsigned_abs a) ≡ a
unfolding signed_value_of negative
signed_value-parts (pos n) = refl
signed_value-parts (negsuc n) = refl

right_digits-iff : (sign : Bool) (ds : List ℕ)
    → T (right_digits sign ds) ↔ ((1 ≤ length ds) × T (every is_digit_of ds) × (length ds ≤ 10) × T (starts_right_of sign ds))
unfolding right_digits
right_digits-iff sign ds = (
  λ h. let e = simp T-&& at h in (leb→le _ _ e.0, e.1.0.0, leb→le _ _ e.1.0.1, e.1.1),
  λ h. simp T-&& (le→leb _ _ h.0, ((h.1, le→leb _ _ h.2), h.3)),
)

leading-right : (sign : Bool) (ds : List ℕ) → T (leading ds) → (1 ≤ length ds) × T (starts_right_of sign ds)
unfolding leading starts_right_of
leading-right sign [] h = absurd h
leading-right sign (d ∷ ds) h = (omega arith, T-or-left (not (d == 48)) _ h)

digits_decimal : (a : ℤ) → T (every is_digit_of (decimal_from (unsigned_abs a) []))
unfolding decimal_from every
digits_decimal a = digits-decimal_within (suc (unsigned_abs a)) (unsigned_abs a) [] (omega arith) tt

starts-decimal : (a : ℤ) → (1 ≤ length (decimal_from (unsigned_abs a) [])) × T (starts_right_of (negative a) (decimal_from (unsigned_abs a) []))
unfolding decimal_from negative starts_right_of
starts-decimal (pos zero) = rw (decimal_within-digit 0 0 [] (lit< tt)) (omega arith, tt)
starts-decimal (pos (suc n)) = leading-right false _ (leading-decimal_within (suc (suc n)) (suc n) [] (omega arith) (omega arith))
starts-decimal (negsuc n) = leading-right true _ (leading-decimal_within (suc (suc n)) (suc n) [] (omega arith) (omega arith))

right-decimal : (a : ℤ) → unsigned_abs a < 10 ^ 10 → T (right_digits (negative a) (decimal_from (unsigned_abs a) []))
unfolding decimal_from
right-decimal a h =
    (right_digits-iff (negative a) (decimal_from (unsigned_abs a) [])).1
    ((starts-decimal a).0, digits_decimal a, length-decimal_within (suc (unsigned_abs a)) (unsigned_abs a) [] (omega arith) 9 h, (starts-decimal a).1)

-- ---- numbers written and read

pub is_number-decimal : (a : ℤ) → unsigned_abs a < 10 ^ 10 → T (is_number (decimal a))
is_number-decimal a h =
    let e = parts-with_sign (negative a) (decimal_from (unsigned_abs a) []) (digits_decimal a) in
    rw (decimal-parts, is_number-parts, e.0, e.1) (right-decimal a h)

pub number_of-decimal : (a : ℤ) → number_of (decimal a) ≡ a
unfolding decimal_from value_from
number_of-decimal a =
    let e = parts-with_sign (negative a) (decimal_from (unsigned_abs a) []) (digits_decimal a) in
    ap number_of (decimal-parts a)
    ∙ number_of-parts (with_sign (negative a) (decimal_from (unsigned_abs a) []))
    ∙ ap₂ (λ sign ds. signed_value_of sign (value_from 0 ds)) e.0 e.1
    ∙ ap (signed_value_of (negative a)) (value-decimal_within (suc (unsigned_abs a)) (unsigned_abs a) [] (omega arith))
    ∙ signed_value-parts a

value_from-grows : (v : ℕ) (ds : List ℕ) → v ≤ value_from v ds
unfolding value_from
value_from-grows v [] = omega arith
value_from-grows v (d ∷ ds) = omega (arith, value_from-grows (10 * v + (d - 48)) ds)

decimal_from-value_from : (v : ℕ) (ds written : List ℕ) → 1 ≤ v → T (every is_digit_of ds)
    → decimal_from (value_from v ds) written ≡ decimal_from v (ds ++ written)
unfolding value_from
decimal_from-value_from v [] written h i = refl
decimal_from-value_from v (d ∷ ds) written h i =
    let e = (every-cons is_digit_of d ds).0 i in
    decimal_from-value_from (10 * v + (d - 48)) ds written (omega arith) e.1
    ∙ decimal_from-tens v (d - 48) (ds ++ written) h (last (digit-bounds d e.0))
    ∙ ap (λ b. decimal_from v (b ∷ (ds ++ written))) (same (digit-bounds d e.0))
  where
    last : (48 ≤ d) × (d ≤ 57) → d - 48 < 10
    last b = omega arith

    same : (48 ≤ d) × (d ≤ 57) → 48 + (d - 48) ≡ d
    same b = omega arith

-- Digits of which the first is not 0 are those of their value, which is not 0.
decimal_from-leading : (ds : List ℕ) → T (leading ds) → T (every is_digit_of ds) → (1 ≤ value_from 0 ds) × (decimal_from (value_from 0 ds) [] ≡ ds)
unfolding leading value_from
decimal_from-leading [] h i = absurd h
decimal_from-leading (d ∷ ds) h i = (
  omega (arith, value_from-grows v ds, first),
  decimal_from-value_from v ds [] first e.1
      ∙ decimal_from-digit v (ds ++ []) last
      ∙ ap₂ (λ b l. b ∷ l) same (append-nil ds),
)
  where
    v : ℕ
    v = 10 * 0 + (d - 48)

    e : T (is_digit_of d) × T (every is_digit_of ds)
    e = (every-cons is_digit_of d ds).0 i

    bounds : (48 ≤ d) × (d ≤ 57)
    bounds = digit-bounds d e.0

    nonzero : d ≡ 48 → ⊥
    nonzero p = T_not (d == 48) h (rw p (eqb_refl 48))

    first : 1 ≤ v
    first = omega (arith, nonzero, bounds)

    last : v < 10
    last = omega (arith, bounds)

    same : 48 + v ≡ d
    same = omega (arith, bounds)

-- A 0 in front stands alone and has no sign (SCOPE 4.2).
starts-cases : (sign : Bool) (d : ℕ) (ds : List ℕ) → T (starts_right_of sign (d ∷ ds))
    → T (leading (d ∷ ds)) ⊎ ((sign ≡ false) × (d ≡ 48) × (ds ≡ []))
unfolding starts_right_of leading
starts-cases sign d ds h = go sign (d == 48) ds (eqb→eq d 48) h
  where
    go : (sign t : Bool) (l : List ℕ) → (T t → d ≡ 48) → T (not t || (not sign && length l == 0))
        → T (not t) ⊎ ((sign ≡ false) × (d ≡ 48) × (l ≡ []))
    go sign false l e h = inl tt
    go true true l e h = absurd h
    go false true [] e h = inr (refl, e tt, refl)
    go false true (x ∷ l) e h = absurd (suc-ne-zero (length l) (eqb→eq (suc (length l)) 0 h))

decimal-signed_value : (sign : Bool) (v : ℕ) → 1 ≤ v → decimal (signed_value_of sign v) ≡ with_sign sign (decimal_from v [])
unfolding decimal signed_value_of with_sign decimal_from
decimal-signed_value sign zero h = absurd (not-suc-le-zero h)
decimal-signed_value true (suc v) h = refl
decimal-signed_value false (suc v) h = refl

decimal-zero : decimal (signed_value_of false (value_from 0 (48 ∷ []))) ≡ with_sign false (48 ∷ [])
unfolding decimal signed_value_of with_sign value_from
decimal-zero = refl

decimal-with_sign : (sign : Bool) (ds : List ℕ) → (1 ≤ length ds) × T (every is_digit_of ds) × (length ds ≤ 10) × T (starts_right_of sign ds)
    → decimal (signed_value_of sign (value_from 0 ds)) ≡ with_sign sign ds
decimal-with_sign sign [] h = absurd (not-suc-le-zero h.0)
decimal-with_sign sign (d ∷ ds) h = go (starts-cases sign d ds h.3)
  where
    go : T (leading (d ∷ ds)) ⊎ ((sign ≡ false) × (d ≡ 48) × (ds ≡ []))
        → decimal (signed_value_of sign (value_from 0 (d ∷ ds))) ≡ with_sign sign (d ∷ ds)
    go (inl i) =
        let e = decimal_from-leading (d ∷ ds) i h.1 in
        decimal-signed_value sign (value_from 0 (d ∷ ds)) e.0 ∙ ap (with_sign sign) e.1
    go (inr e) = rw (e.0, e.1, e.2) decimal-zero

pub decimal-number_of : (w : List ℕ) → T (is_number w) → decimal (number_of w) ≡ w
decimal-number_of w h =
    ap decimal (number_of-parts w)
    ∙ decimal-with_sign (signed w) (digits w) ((right_digits-iff (signed w) (digits w)).0 (rw is_number-parts at h))
    ∙ with_sign-parts w

-- ---- words

-- A byte within a token.
unfoldable pub in_word : ℕ → Bool
in_word b = not (is_separator_of b)

separator-low : (b : ℕ) → T (is_separator_of b) → b ≤ space
unfolding is_separator_of
separator-low b h = go (b == space) (b == newline) (eqb→eq b space) (eqb→eq b newline) h
  where
    go : (s t : Bool) → (T s → b ≡ space) → (T t → b ≡ newline) → T (s || t) → b ≤ space
    go true t e f h = omega (arith, e tt)
    go false true e f h = omega (arith, f tt)
    go false false e f h = absurd h

above-in_word : (b : ℕ) → minus ≤ b → T (in_word b)
unfolding in_word
above-in_word b h = not_T (is_separator_of b) (λ i. clash (separator-low b i))
  where
    clash : b ≤ space → ⊥
    clash i = omega arith

digits-in_word : (ds : List ℕ) → T (every is_digit_of ds) → T (every in_word ds)
unfolding every
digits-in_word [] h = tt
digits-in_word (d ∷ ds) h =
    let e = (every-cons is_digit_of d ds).0 h in
    (every-cons in_word d ds).1 (above-in_word d (high (digit-bounds d e.0)), digits-in_word ds e.1)
  where
    high : (48 ≤ d) × (d ≤ 57) → minus ≤ d
    high i = omega arith

decimal-in_word : (a : ℤ) → T (every in_word (decimal a))
unfolding with_sign
decimal-in_word a = rw decimal-parts (go (negative a))
  where
    go : (sign : Bool) → T (every in_word (with_sign sign (decimal_from (unsigned_abs a) [])))
    go true = (every-cons in_word minus (decimal_from (unsigned_abs a) [])).1 (above-in_word minus (omega arith), digits-in_word _ (digits_decimal a))
    go false = digits-in_word _ (digits_decimal a)

word-append : (w : List ℕ) (b : ℕ) (rest : List ℕ) → T (every in_word w) → T (is_separator_of b) → word (w ++ (b ∷ rest)) ≡ w
unfolding word in_word
word-append [] b rest h i = cond-passed (is_separator_of b) _ _ i
word-append (c ∷ w) b rest h i =
    let e = (every-cons in_word c w).0 h in
    cond-not (is_separator_of c) _ _ e.0 ∙ ap (λ l. c ∷ l) (word-append w b rest e.1 i)

after_word-append : (w : List ℕ) (b : ℕ) (rest : List ℕ) → T (every in_word w) → T (is_separator_of b)
    → after_word (w ++ (b ∷ rest)) ≡ b ∷ rest
unfolding after_word in_word
after_word-append [] b rest h i = cond-passed (is_separator_of b) _ _ i
after_word-append (c ∷ w) b rest h i =
    let e = (every-cons in_word c w).0 h in
    cond-not (is_separator_of c) _ _ e.0 ∙ after_word-append w b rest e.1 i

pub word-decimal : (a : ℤ) (b : ℕ) (rest : List ℕ) → T (is_separator_of b) → word (decimal a ++ (b ∷ rest)) ≡ decimal a
word-decimal a b rest h = word-append (decimal a) b rest (decimal-in_word a) h

pub after_word-decimal : (a : ℤ) (b : ℕ) (rest : List ℕ) → T (is_separator_of b) → after_word (decimal a ++ (b ∷ rest)) ≡ b ∷ rest
after_word-decimal a b rest h = after_word-append (decimal a) b rest (decimal-in_word a) h

pub word-after_word : (bytes : List ℕ) → word bytes ++ after_word bytes ≡ bytes
unfolding word after_word
word-after_word [] = refl
word-after_word (b ∷ bytes) = go (is_separator_of b) (word-after_word bytes)
  where
    go : (t : Bool) → word bytes ++ after_word bytes ≡ bytes → cond t [] (b ∷ word bytes) ++ cond t (b ∷ bytes) (after_word bytes) ≡ b ∷ bytes
    go true e = refl
    go false e = ap (λ l. b ∷ l) e

-- A token holds no separator, and what follows it begins with one.
pub word-in_word : (bytes : List ℕ) → T (every in_word (word bytes))
unfolding word every in_word
word-in_word [] = tt
word-in_word (b ∷ bytes) = go (is_separator_of b) (λ h. h) (word-in_word bytes)
  where
    go : (t : Bool) → (T (not t) → T (in_word b)) → T (every in_word (word bytes)) → T (every in_word (cond t [] (b ∷ word bytes)))
    go true f h = tt
    go false f h = (every-cons in_word b (word bytes)).1 (f tt, h)

pub after_word-separator : (bytes : List ℕ) (b : ℕ) (rest : List ℕ) → after_word bytes ≡ b ∷ rest → T (is_separator_of b)
unfolding after_word
after_word-separator [] b rest e = absurd (nil≢cons e)
after_word-separator (c ∷ bytes) b rest e = go (is_separator_of c) (λ h. h) (after_word-separator bytes b rest) e
  where
    go : (t : Bool) → (T t → T (is_separator_of c)) → (after_word bytes ≡ b ∷ rest → T (is_separator_of b)) → cond t (c ∷ bytes) (after_word bytes)
        ≡ b ∷ rest
        → T (is_separator_of b)
    go true f h e = subst (λ x. T (is_separator_of x)) (head-eq_of_cons-eq e) (f tt)
    go false f h e = h e
