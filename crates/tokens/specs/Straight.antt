-- Numbers that are read straight, without a loop: those of one digit, and those of eight to ten.
--
-- Main definitions
--   two_digits_of, four_digits_of, eight_digits_of   are the bytes from a place on digits?
--   two_bytes_of, four_bytes_of   what they come to as digits, with 48 too much in each place
--   front, valued         the digits in front of some bytes, and their value
--   digit_at_of, digits_at_of, long_at_of   exactly when each straight way reads a number, and what it answers
--   Closed                a number with the separator that was asked for behind it
--
-- Main statements
--   eight-read, one-read, digits-front   eight digits, one digit, the digits in front, and their value
--   front-next, front-end  no digit follows those in front; digits that no other follows are those in front
--   digit-closed, digits-closed, long-number   what is read straight is the number that stands there
--   digit-right, whole-number   one digit starts right; digits that start right, with a separator behind them, are a number
--   digits-some, signed-some   a number that does not begin with 0 is not 0
--   closed-field          a number that was read with its separator, judged, is a field
use Rattle.std.specs.Prelude.{◌≡◌, ℕ, zero, suc, ◌+◌, ◌-◌, ◌*◌, ◌<◌, ◌≤◌, Bool, true, false, cond, not, ◌&&◌, List, [], ◌∷◌, length, drop, ℤ, pos, neg_ℤ, ◌==◌, ◌≢◌, nat_le, nat_lt, slice_index, slice_index_or, unsigned_abs}
use Rattle.std.proofs.Common.{le_refl, ◌∙◌}
use Rattle.std.proofs.Math.Decide.{ℕ_discrete}
use native.Mathlib.Omega.{arith}
use Rattle.std.proofs.Math.Path.{refl, sym, ap, ap₂, subst}
use Rattle.std.proofs.lemmas.Bool.{false≢true}
use Rattle.std.proofs.Math.Seq.{slice}
use borrow.Author.Tests.{eq-eqb, le-ltb, le-leb, eqb-true, eqb-false, leb-true, not-true}
use Rattle.std.proofs.Math.Arith.{lt_of_le-ne}
use Rattle.lists.specs.Tests.{both_true, every}
use Rattle.algebra.specs.Integers.{nat_abs-neg_ℤ}
use Rattle.rules.specs.Numbers.{minus, is_separator_of, is_digit_of, starts_right_of, value_from, got, fault, field}
use Rattle.tokens.specs.Tokens.{DigitsStart, DigitsTo, digits-signed, digits-unsigned, digits-begin, digits-go-on}
use Rattle.tokens.specs.Tokens.{digit-bounds, slice-next, starts-nonzero, starts-zero}
use Rattle.tokens.specs.Fields.{NumberAt, read_in, read_number_of, number-whole, field-refused, field-separated, separator-right}
use Rattle.refusals.specs.Refusals.{number_of as refusal_number}
use Rattle.refusals.specs.declared.Refusal.{Refusal}
use Rattle.tokens.specs.declared.Found.{Found}
use Rattle.std.specs.Prelude.{Option}
use Rattle.std.proofs.Common.{Some, None, Ok}

-- ---- eight digits

unfoldable pub two_digits_of : List ℕ → ℕ → Bool
two_digits_of bytes i = is_digit_of (slice_index bytes i) && is_digit_of (slice_index bytes (i + 1))

unfoldable pub four_digits_of : List ℕ → ℕ → Bool
four_digits_of bytes i = two_digits_of bytes i && two_digits_of bytes (i + 2)

unfoldable pub eight_digits_of : List ℕ → ℕ → Bool
eight_digits_of bytes i = four_digits_of bytes i && four_digits_of bytes (i + 4)

unfoldable pub two_bytes_of : List ℕ → ℕ → ℕ
two_bytes_of bytes i = 10 * slice_index bytes i + slice_index bytes (i + 1)

unfoldable pub four_bytes_of : List ℕ → ℕ → ℕ
four_bytes_of bytes i = 100 * two_bytes_of bytes i + two_bytes_of bytes (i + 2)

module _ (bytes : List ℕ) (from : ℕ) where
  digits-as : {end end' v v' : ℕ} → end ≡ end' → v ≡ v' → DigitsTo bytes from end v → DigitsTo bytes from end' v'
  digits-as {end} {v' = v'} e f read = subst (λ k. DigitsTo bytes from k v') e (subst (λ k. DigitsTo bytes from end k) f read)

  -- Two digits more; 528 is 48 in each of two places.
  two-more : (end v : ℕ) → DigitsTo bytes from end v → end + 2 ≤ length bytes → end + 2 ≤ from + 10 → two_digits_of bytes end ≡ true
      → (528 ≤ two_bytes_of bytes end) × DigitsTo bytes from (end + 2) (100 * v + (two_bytes_of bytes end - 528))
  unfolding two_digits_of two_bytes_of
  two-more end v read h short e =
      let two = both_true (is_digit_of (slice_index bytes end)) (is_digit_of (slice_index bytes (end + 1))) e in
      let first = digit-bounds (slice_index bytes end) two.0 in
      let second = digit-bounds (slice_index bytes (end + 1)) two.1 in
      let one = digits-go-on bytes from end v read (omega arith) (omega arith) two.0 in
      let next = digits-go-on bytes from (end + 1) (10 * v + (slice_index bytes end - 48)) one (omega arith) (omega arith) two.1 in
      (omega arith, digits-as (omega arith) (omega arith) next)

  -- Four digits more.
  four-more : (end v : ℕ) → DigitsTo bytes from end v → end + 4 ≤ length bytes → end + 4 ≤ from + 10 → four_digits_of bytes end ≡ true
      → (53328 ≤ four_bytes_of bytes end) × DigitsTo bytes from (end + 4) (10000 * v + (four_bytes_of bytes end - 53328))
  unfolding four_digits_of four_bytes_of
  four-more end v read h short e =
      let two = both_true (two_digits_of bytes end) (two_digits_of bytes (end + 2)) e in
      let first = two-more end v read (omega arith) (omega arith) two.0 in
      let next = two-more (end + 2) (100 * v + (two_bytes_of bytes end - 528)) first.1 (omega arith) (omega arith) two.1 in
      (omega arith, digits-as (omega arith) (omega arith) next.1)

  -- Eight digits, and their value.
  pub eight-read : from + 8 ≤ length bytes → eight_digits_of bytes from ≡ true
      → (533333328 ≤ 10000 * four_bytes_of bytes from + four_bytes_of bytes (from + 4))
      × DigitsTo bytes from (from + 8) (10000 * four_bytes_of bytes from + four_bytes_of bytes (from + 4) - 533333328)
  unfolding eight_digits_of
  eight-read h e =
      let two = both_true (four_digits_of bytes from) (four_digits_of bytes (from + 4)) e in
      let first = four-more from 0 (digits-begin bytes from (omega arith)) (omega arith) (omega arith) two.0 in
      let next = four-more (from + 4) (10000 * 0 + (four_bytes_of bytes from - 53328)) first.1 (omega arith) (omega arith) two.1 in
      (omega arith, digits-as (omega arith) (omega arith) next.1)

  -- One digit.
  pub one-read : from < length bytes → is_digit_of (slice_index bytes from) ≡ true → DigitsTo bytes from (from + 1) (slice_index bytes from - 48)
  one-read h e = digits-as refl (omega arith) (digits-go-on bytes from from 0 (digits-begin bytes from (omega arith)) h (omega arith) e)

-- ---- the digits in front

-- The digits in front of k bytes from i on.
unfoldable pub front : List ℕ → ℕ → ℕ → List ℕ
front bytes i zero = []
front bytes i (suc k) = cond (is_digit_of (slice_index bytes i)) ((slice_index bytes i - 48) ∷ front bytes (i + 1) k) []

-- Where the digits from `from` on end, at most k, and their value.
abbrev pub digits_end : List ℕ → ℕ → ℕ → ℕ
digits_end bytes from k = from + length (front bytes from k)

abbrev pub digits_size : List ℕ → ℕ → ℕ → ℕ
digits_size bytes from k = value_from 0 (slice from (digits_end bytes from k) bytes)

-- The value of digits of a base, behind those of the value v.
unfoldable pub valued : ℕ → ℕ → List ℕ → ℕ
valued c v [] = v
valued c v (d ∷ l) = valued c (c * v + d) l

module _ (bytes : List ℕ) where
  pub front-short : (k i : ℕ) → length (front bytes i k) ≤ k
  unfolding front
  front-short zero i = omega arith
  front-short (suc k) i = by (is_digit_of (slice_index bytes i)) (front-short k (i + 1))
    where
      by : (t : Bool) → length (front bytes (i + 1) k) ≤ k
          → length (cond t ((slice_index bytes i - 48) ∷ front bytes (i + 1) k) []) ≤ suc k
      by true h = omega arith
      by false h = omega arith

  pub front-digit : (k i : ℕ) → is_digit_of (slice_index bytes i) ≡ true
      → length (front bytes i (suc k)) ≡ suc (length (front bytes (i + 1) k))
  unfolding front
  front-digit k i e = ap (λ t. length (cond t ((slice_index bytes i - 48) ∷ front bytes (i + 1) k) [])) e

  pub front-none : (k i : ℕ) → is_digit_of (slice_index bytes i) ≡ false → length (front bytes i (suc k)) ≡ 0
  unfolding front
  front-none k i e = ap (λ t. length (cond t ((slice_index bytes i - 48) ∷ front bytes (i + 1) k) [])) e

  pub front-some : (from k : ℕ) → 0 < k → is_digit_of (slice_index bytes from) ≡ true → from < from + length (front bytes from k)
  front-some from zero h e = absurd (omega arith)
  front-some from (suc k) h e = omega (arith, front-digit k from e)

  -- Where they are fewer than k, no digit follows.
  pub front-next : (k i : ℕ) → length (front bytes i k) < k
      → is_digit_of (slice_index bytes (i + length (front bytes i k))) ≡ false
  front-next zero i h = absurd (omega arith)
  front-next (suc k) i h = by (is_digit_of (slice_index bytes i)) refl (front-next k (i + 1))
    where
      by : (t : Bool) → is_digit_of (slice_index bytes i) ≡ t
          → (length (front bytes (i + 1) k) < k
          → is_digit_of (slice_index bytes (i + 1 + length (front bytes (i + 1) k))) ≡ false)
          → is_digit_of (slice_index bytes (i + length (front bytes i (suc k)))) ≡ false
      by true e rest =
          let one = front-digit k i e in
          ap (λ n. is_digit_of (slice_index bytes n)) (omega arith) ∙ rest (omega arith)
      by false e rest = ap (λ n. is_digit_of (slice_index bytes n)) (omega (arith, front-none k i e)) ∙ e

  -- Digits that no other follows, or that are k, are those in front.
  pub front-end : (k from end : ℕ) → from ≤ end → end ≤ length bytes → every is_digit_of (slice from end bytes) ≡ true
      → end ≤ from + k → (end < from + k → is_digit_of (slice_index bytes end) ≡ false)
      → end ≡ from + length (front bytes from k)
  unfolding front every
  front-end zero from end begun within all most stop = omega arith
  front-end (suc k) from end begun within all most stop =
      by (ℕ_discrete from end)
      (λ some digits. front-end k (from + 1) end (omega arith) within digits (omega arith) (λ h. stop (omega arith)))
    where
      by : Dec (from ≡ end)
          → (from < end → every is_digit_of (slice (from + 1) end bytes) ≡ true
          → end ≡ from + 1 + length (front bytes (from + 1) k))
          → end ≡ from + length (front bytes from (suc k))
      by (yes e) more = omega (arith, front-none k from (ap (λ n. is_digit_of (slice_index bytes n)) e ∙ stop (omega arith)))
      by (no n) more =
          let some : from < end = lt_of_le-ne begun n in
          let part = slice-next bytes from end some within in
          let both = both_true (is_digit_of (slice_index bytes from)) _ (ap (every is_digit_of) (sym part) ∙ all) in
          omega (arith, front-digit k from both.0, more some both.1)

  -- One digit and then one more, or what stops them.
  pub stop-two : (i : ℕ) {j e : ℕ} → j ≡ i + length (front bytes i 1) → e ≡ j + length (front bytes j 1) → e < i + 2
      → is_digit_of (slice_index bytes e) ≡ false
  stop-two i {j} {e} f g h = by (is_digit_of (slice_index bytes j)) refl
    where
      by : (t : Bool) → is_digit_of (slice_index bytes j) ≡ t → is_digit_of (slice_index bytes e) ≡ false
      by false d = ap (λ n. is_digit_of (slice_index bytes n)) (omega (arith, front-none 0 j d)) ∙ d
      by true d =
          let one = front-digit 0 j d in
          let none = front-next 1 i (omega arith) in
          absurd (false≢true (sym none ∙ ap (λ n. is_digit_of (slice_index bytes n)) (sym f) ∙ d))

  pub digits-front : (from k i v : ℕ) → DigitsTo bytes from i v → i + k ≤ length bytes → i + k ≤ from + 10
      → DigitsTo bytes from (i + length (front bytes i k)) (valued 10 v (front bytes i k))
  unfolding front valued
  digits-front from zero i v read h short = subst (λ e. DigitsTo bytes from e v) (omega arith) read
  digits-front from (suc k) i v read h short =
      by (is_digit_of (slice_index bytes i)) refl (λ w one. digits-front from k (i + 1) w one (omega arith) (omega arith))
    where
      by : (t : Bool) → is_digit_of (slice_index bytes i) ≡ t
          → ((w : ℕ) → DigitsTo bytes from (i + 1) w
          → DigitsTo bytes from (i + 1 + length (front bytes (i + 1) k)) (valued 10 w (front bytes (i + 1) k)))
          → DigitsTo bytes from (i + length (cond t ((slice_index bytes i - 48) ∷ front bytes (i + 1) k) []))
          (valued 10 v (cond t ((slice_index bytes i - 48) ∷ front bytes (i + 1) k) []))
      by true e rest =
          let w = 10 * v + (slice_index bytes i - 48) in
          subst (λ n. DigitsTo bytes from n (valued 10 w (front bytes (i + 1) k))) (omega arith)
          (rest w (digits-go-on bytes from i v read (omega arith) (omega arith) e))
      by false e rest = subst (λ n. DigitsTo bytes from n v) (omega arith) read

  -- All digits in front of k bytes, at most ten.
  digits-all : (from k : ℕ) → from + k ≤ length bytes → k ≤ 10
      → DigitsTo bytes from (digits_end bytes from k) (digits_size bytes from k)
  digits-all from k h short =
      let read = digits-front from k from 0 (digits-begin bytes from (omega arith)) h (omega arith) in
      subst (λ v. DigitsTo bytes from (digits_end bytes from k) v) (sym read.value) read

-- ---- the number that digits are

-- One digit starts right unless it is a 0 with a sign.
pub digit-right : (bytes : List ℕ) (at from : ℕ) → from + 1 ≤ length bytes → from - at ≤ slice_index bytes from - 48
    → starts_right_of (nat_lt at from) (slice from (from + 1) bytes) ≡ true
digit-right bytes at from h sign = by (ℕ_discrete (slice_index bytes from) 48)
  where
    by : Dec (slice_index bytes from ≡ 48) → starts_right_of (nat_lt at from) (slice from (from + 1) bytes) ≡ true
    by (yes z) =
        starts-zero bytes from (from + 1) (nat_lt at from) (omega arith) h z
        ∙ ap₂ (λ s t. not s && t) (le-ltb at from (omega arith)) (eq-eqb (from + 1) (from + 1) refl)
    by (no n) = starts-nonzero bytes from (from + 1) (nat_lt at from) (omega arith) h n

pub whole-number : {bytes : List ℕ} {at from end v : ℕ} → DigitsStart bytes at from → DigitsTo bytes from end v → from < end
    → end < length bytes → is_separator_of (slice_index bytes end) ≡ true → starts_right_of (nat_lt at from) (slice from end bytes) ≡ true
    → read_number_of (drop at bytes) ≡ got (cond (nat_lt at from) (neg_ℤ (pos v)) (pos v)) (drop end bytes)
whole-number {bytes} {at} {from} {end} {v} start read some h e right =
    number-whole bytes at from end v start read h e
    ∙ ap₂ (λ s t. cond (s && t) (got (cond (nat_lt at from) (neg_ℤ (pos v)) (pos v)) (drop end bytes)) (fault 3))
    (le-leb 1 (end - from) (omega arith)) right

-- ---- a number that does not begin with 0

value_keeps : (v : ℕ) (l : List ℕ) → v ≤ value_from v l
unfolding value_from
value_keeps v [] = le_refl v
value_keeps v (d ∷ l) = omega (arith, value_keeps (10 * v + (d - 48)) l)

pub digits-some : (bytes : List ℕ) (from end v : ℕ) → DigitsTo bytes from end v → from < end → (slice_index bytes from ≢ 48) → 1 ≤ v
unfolding every value_from
digits-some bytes from end v read some e =
    let part = slice-next bytes from end some read.token.within in
    let digit = (both_true (is_digit_of (slice_index bytes from)) _ (ap (every is_digit_of) (sym part) ∙ read.all_digits)).0 in
    let more : 49 ≤ slice_index_or bytes from 0 = lt_of_le-ne (digit-bounds (slice_index bytes from) digit).0 (λ z. e (sym z)) in
    omega (arith, value_keeps (10 * 0 + (slice_index bytes from - 48)) (slice (from + 1) end bytes), ap (value_from 0) (sym part) ∙ read.value)

pub signed-some : (minus : Bool) (v : ℕ) → 1 ≤ v → cond minus (neg_ℤ (pos v)) (pos v) ≢ pos 0
signed-some true v h e = omega (arith, sym (nat_abs-neg_ℤ (pos v)) ∙ ap unsigned_abs e)
signed-some false v h e = omega (arith, ap unsigned_abs e)

-- ---- a number with its separator

-- The number at `at` is `value`; the separator that was asked for stands behind it, and `next` is the place after that.
pub record Closed (bytes : List ℕ) (at separator : ℕ) (value : ℤ) (next : ℕ) : Type 0 where
  pub end : ℕ
  pub behind : next ≡ end + 1
  pub inside : end < length bytes
  pub number : read_number_of (drop at bytes) ≡ got value (drop end bytes)
  pub mark : slice_index_or bytes end 0 ≡ separator

pub closed-within : {bytes : List ℕ} {at separator : ℕ} {v : ℤ} {next : ℕ} → Closed bytes at separator v next → next ≤ length bytes
closed-within d = omega (arith, d.behind, d.inside)

-- Such a number, judged, is a field.
module _ (judge follow : ℤ → ℕ) {bytes : List ℕ} {at separator : ℕ} {v : ℤ} {next : ℕ}
    (d : Closed bytes at separator v next) where
  pub closed-refused : (r : Refusal) → judge v ≡ refusal_number r → field judge follow (drop at bytes) ≡ fault (refusal_number r)
  closed-refused = field-refused judge follow (drop at bytes) d.number

  pub closed-field : separator ≡ follow v → judge v ≡ 0 → field judge follow (drop at bytes) ≡ got v (drop next bytes)
  closed-field s z =
      sym (field-separated judge follow (drop at bytes) d.number z s)
      ∙ separator-right bytes d.end separator v d.inside d.mark
      ∙ ap (λ k. got v (drop k bytes)) (sym d.behind)

-- ---- what the straight ways read

-- Where the digits of the token at `at` begin: after a minus, if it has one.
unfoldable pub digits_from_of : List ℕ → ℕ → ℕ
digits_from_of bytes at = cond (slice_index bytes at == minus) (at + 1) at

-- A number by its sign and its size.
abbrev signed_by : Bool → ℕ → ℤ
signed_by sign size = cond sign (neg_ℤ (pos size)) (pos size)

-- What is found straight: a number by its sign and its size, and the place after it, if a test passes; otherwise nothing.
-- Test, size and place are told by where the digits begin.
unfoldable pub found_at : List ℕ → ℕ → (ℕ → Bool) → (ℕ → ℕ) → (ℕ → ℕ) → Option Found
unfolding digits_from_of
found_at bytes at test size next =
    let from = digits_from_of bytes at in
    cond (test from) (Some (record { value = signed_by (nat_lt at from) (size from); at = next from })) None

-- One digit: three bytes are left, the separator that was asked for stands behind it, and a 0 has no sign.
unfoldable pub is_digit_at : List ℕ → ℕ → ℕ → ℕ → Bool
is_digit_at bytes at from separator =
    nat_le 3 (length bytes - at) && slice_index bytes (from + 1) == separator && is_separator_of separator
    && is_digit_of (slice_index bytes from) && nat_le (from - at) (slice_index bytes from - 48)

unfoldable pub digit_at_of : List ℕ → ℕ → ℕ → Option Found
unfolding found_at is_digit_at
digit_at_of bytes at separator =
    found_at bytes at (λ from. is_digit_at bytes at from separator) (λ from. slice_index bytes from - 48) (λ from. from + 1 + 1)

-- Digits of which the first is not 0, within ten bytes with their sign: twelve bytes are left, and the separator that
-- was asked for stands behind.
unfoldable pub are_digits_at : List ℕ → ℕ → ℕ → ℕ → Bool
are_digits_at bytes at from separator =
    nat_le 12 (length bytes - at) && is_separator_of separator && not (slice_index bytes from == 48)
    && is_digit_of (slice_index bytes from) && slice_index bytes (digits_end bytes from (at + 10 - from)) == separator

unfoldable pub digits_at_of : List ℕ → ℕ → ℕ → Option Found
unfolding found_at are_digits_at value_from
digits_at_of bytes at separator =
    found_at bytes at (λ from. are_digits_at bytes at from separator) (λ from. digits_size bytes from (at + 10 - from))
    (λ from. digits_end bytes from (at + 10 - from) + 1)

-- Eight to ten digits of which the first is not 0: twelve bytes are left, and a separator stands behind.
unfoldable pub is_long_at : List ℕ → ℕ → ℕ → Bool
unfolding eight_digits_of
is_long_at bytes at from =
    nat_le 12 (length bytes - at) && eight_digits_of bytes from && not (slice_index bytes from == 48)
    && is_separator_of (slice_index bytes (digits_end bytes from 10))

unfoldable pub long_at_of : List ℕ → ℕ → Option Found
unfolding found_at is_long_at value_from
long_at_of bytes at =
    found_at bytes at (λ from. is_long_at bytes at from) (λ from. digits_size bytes from 10)
    (λ from. digits_end bytes from 10)

module _ (bytes : List ℕ) (at : ℕ) (test : ℕ → Bool) (size next : ℕ → ℕ) where
  abbrev found_from : ℕ → Bool → Option Found
  found_from from t = cond t (Some (record { value = signed_by (nat_lt at from) (size from); at = next from })) None

  module _ {from : ℕ} (e : from ≡ digits_from_of bytes at) where
    found_none : test from ≡ false → None ≡ found_at bytes at test size next
    unfolding found_at
    found_none f = sym (ap (found_from from) f) ∙ ap (λ k. found_from k (test k)) e

    found_number : {v : ℤ} {place : ℕ} → test from ≡ true → v ≡ signed_by (nat_lt at from) (size from)
        → place ≡ next from → Some (record { value = v; at = place }) ≡ found_at bytes at test size next
    unfolding found_at
    found_number f g h =
        ap₂ (λ v k. Some (record { value = v; at = k })) g h ∙ sym (ap (found_from from) f)
        ∙ ap (λ k. found_from k (test k)) e

  -- What was found, where something was.
  found-is : {d : Found} → found_at bytes at test size next ≡ Some d
      → (test (digits_from_of bytes at) ≡ true)
      × (signed_by (nat_lt at (digits_from_of bytes at)) (size (digits_from_of bytes at)) ≡ d.value)
      × (next (digits_from_of bytes at) ≡ d.at)
  unfolding found_at
  found-is {d} e = by (test (digits_from_of bytes at)) e
    where
      by : (t : Bool) → found_from (digits_from_of bytes at) t ≡ Some d
          → (t ≡ true)
          × (signed_by (nat_lt at (digits_from_of bytes at)) (size (digits_from_of bytes at)) ≡ d.value)
          × (next (digits_from_of bytes at) ≡ d.at)
      by true f =
          let from = digits_from_of bytes at in
          let same : record { value = signed_by (nat_lt at from) (size from); at = next from } ≡ d = cc in
          (refl, ap (λ n. n.value) same, ap (λ n. n.at) same)
      by false f = let z : ◌≡◌ {A = ℕ} 0 1 = cc in absurd (omega arith)

-- What each straight way answers, told by where the digits begin.
module _ (bytes : List ℕ) (at : ℕ) {from : ℕ} (e : from ≡ digits_from_of bytes at) where
  module _ (separator : ℕ) where
    pub digit-none : is_digit_at bytes at from separator ≡ false → None ≡ digit_at_of bytes at separator
    unfolding digit_at_of
    digit-none =
        found_none bytes at (λ from. is_digit_at bytes at from separator) (λ from. slice_index bytes from - 48)
        (λ from. from + 1 + 1) e

    pub digit-found : {v : ℤ} {place : ℕ} → is_digit_at bytes at from separator ≡ true
        → v ≡ signed_by (nat_lt at from) (slice_index bytes from - 48) → place ≡ from + 1 + 1
        → Some (record { value = v; at = place }) ≡ digit_at_of bytes at separator
    unfolding digit_at_of
    digit-found =
        found_number bytes at (λ from. is_digit_at bytes at from separator) (λ from. slice_index bytes from - 48)
        (λ from. from + 1 + 1) e

    pub digits-none : are_digits_at bytes at from separator ≡ false → None ≡ digits_at_of bytes at separator
    unfolding digits_at_of
    digits-none =
        found_none bytes at (λ from. are_digits_at bytes at from separator)
        (λ from. digits_size bytes from (at + 10 - from)) (λ from. digits_end bytes from (at + 10 - from) + 1) e

    pub digits-found : {v : ℤ} {place : ℕ} → are_digits_at bytes at from separator ≡ true
        → v ≡ signed_by (nat_lt at from) (digits_size bytes from (at + 10 - from))
        → place ≡ digits_end bytes from (at + 10 - from) + 1
        → Some (record { value = v; at = place }) ≡ digits_at_of bytes at separator
    unfolding digits_at_of
    digits-found =
        found_number bytes at (λ from. are_digits_at bytes at from separator)
        (λ from. digits_size bytes from (at + 10 - from)) (λ from. digits_end bytes from (at + 10 - from) + 1) e

  pub long-none : is_long_at bytes at from ≡ false → None ≡ long_at_of bytes at
  unfolding long_at_of
  long-none =
      found_none bytes at (λ from. is_long_at bytes at from) (λ from. digits_size bytes from 10)
      (λ from. digits_end bytes from 10) e

  pub long-found : {v : ℤ} {place : ℕ} → is_long_at bytes at from ≡ true
      → v ≡ signed_by (nat_lt at from) (digits_size bytes from 10) → place ≡ digits_end bytes from 10
      → Some (record { value = v; at = place }) ≡ long_at_of bytes at
  unfolding long_at_of
  long-found =
      found_number bytes at (λ from. is_long_at bytes at from) (λ from. digits_size bytes from 10)
      (λ from. digits_end bytes from 10) e

pub start-at : (bytes : List ℕ) (at : ℕ) → at < length bytes → DigitsStart bytes at (digits_from_of bytes at)
unfolding digits_from_of
start-at bytes at h = by (slice_index bytes at == minus) refl
  where
    by : (t : Bool) → (slice_index bytes at == minus) ≡ t → DigitsStart bytes at (cond t (at + 1) at)
    by true e = digits-signed bytes at h (eqb-true _ _ e)
    by false e = digits-unsigned bytes at h (eqb-false _ _ e)

pub start-near : (bytes : List ℕ) (at : ℕ) → (at ≤ digits_from_of bytes at) × (digits_from_of bytes at ≤ at + 1)
unfolding digits_from_of
start-near bytes at = by (slice_index bytes at == minus)
  where
    by : (t : Bool) → (at ≤ cond t (at + 1) at) × (cond t (at + 1) at ≤ at + 1)
    by true = (omega arith, omega arith)
    by false = (omega arith, omega arith)

module _ {bytes : List ℕ} {at : ℕ} {d : Found} where
  pub digit-closed : {separator : ℕ} → digit_at_of bytes at separator ≡ Some d
      → Closed bytes at separator d.value d.at
  unfolding digit_at_of is_digit_at
  digit-closed {separator} e =
      let from = digits_from_of bytes at in
      let f = found-is bytes at (λ from. is_digit_at bytes at from separator) (λ from. slice_index bytes from - 48)
      (λ from. from + 1 + 1) e in
      let t = both_true _ _ f.0 in
      let u = both_true _ _ t.0 in
      let v = both_true _ _ u.0 in
      let w = both_true _ _ v.0 in
      let room = leb-true 3 (length bytes - at) w.0 in
      let near = start-near bytes at in
      let mark = eqb-true (slice_index bytes (from + 1)) separator w.1 in
      record {
        end = from + 1;
        behind = sym f.2;
        inside = omega arith;
        number =
            whole-number (start-at bytes at (omega arith)) (one-read bytes from (omega arith) u.1) (omega arith)
            (omega arith) (ap is_separator_of mark ∙ v.1) (digit-right bytes at from (omega arith) (leb-true _ _ t.1))
            ∙ ap (λ n. got n (drop (from + 1) bytes)) f.1;
        mark = mark;
      }

  -- Such a number is not 0.
  pub digits-closed : {separator : ℕ} → digits_at_of bytes at separator ≡ Some d
      → Closed bytes at separator d.value d.at × (d.value ≢ pos 0)
  unfolding digits_at_of are_digits_at
  digits-closed {separator} e =
      let from = digits_from_of bytes at in
      let end = digits_end bytes from (at + 10 - from) in
      let f = found-is bytes at (λ from. are_digits_at bytes at from separator)
      (λ from. digits_size bytes from (at + 10 - from)) (λ from. digits_end bytes from (at + 10 - from) + 1) e in
      let t = both_true _ _ f.0 in
      let u = both_true _ _ t.0 in
      let v = both_true _ _ u.0 in
      let w = both_true _ _ v.0 in
      let room = leb-true 12 (length bytes - at) w.0 in
      let near = start-near bytes at in
      let mark = eqb-true (slice_index bytes end) separator t.1 in
      let first = eqb-false (slice_index bytes from) 48 (not-true _ v.1) in
      let read = digits-all bytes from (at + 10 - from) (omega arith) (omega arith) in
      let short = front-short bytes (at + 10 - from) from in
      let some : from < end = front-some bytes from (at + 10 - from) (omega arith) u.1 in (
        record {
          end = end;
          behind = sym f.2;
          inside = omega arith;
          number =
              whole-number (start-at bytes at (omega arith)) read some (omega arith) (ap is_separator_of mark ∙ w.1)
              (starts-nonzero bytes from end (nat_lt at from) some (omega arith) first)
              ∙ ap (λ n. got n (drop end bytes)) f.1;
          mark = mark;
        },
        λ z. signed-some (nat_lt at from) _ (digits-some bytes from end _ read some first) (f.1 ∙ z),
      )

  pub long-number : long_at_of bytes at ≡ Some d → NumberAt bytes at (Ok d)
  unfolding long_at_of is_long_at eight_digits_of four_digits_of two_digits_of read_in
  long-number e =
      let from = digits_from_of bytes at in
      let end = digits_end bytes from 10 in
      let f = found-is bytes at (λ from. is_long_at bytes at from) (λ from. digits_size bytes from 10)
      (λ from. digits_end bytes from 10) e in
      let t = both_true _ _ f.0 in
      let u = both_true _ _ t.0 in
      let v = both_true _ _ u.0 in
      let room = leb-true 12 (length bytes - at) v.0 in
      let near = start-near bytes at in
      let first = eqb-false (slice_index bytes from) 48 (not-true _ u.1) in
      let two = (both_true _ _ (both_true _ _ v.1).0).0 in
      let digit : is_digit_of (slice_index bytes from) ≡ true = (both_true _ _ two).0 in
      let read = digits-all bytes from 10 (omega arith) (omega arith) in
      let short = front-short bytes 10 from in
      let some : from < end = front-some bytes from 10 (omega arith) digit in
      record {
        answer =
            ap₂ (λ n k. got n (drop k bytes)) (sym f.1) (sym f.2)
            ∙ sym
            (whole-number (start-at bytes at (omega arith)) read some (omega arith) t.1
            (starts-nonzero bytes from end (nat_lt at from) some (omega arith) first));
        separator = omega (arith, f.2);
      }
