-- A token of a sheet or a batch line, found and judged from a place in the bytes: what the functions of `tokens` answer, and the
-- laws by which their answers are those of the definitions of `rules`, which read a list from its front.
--
-- Main definitions
--   TokenEnd, TokenTo     the token from a place on ends at another place, or goes at least up to it
--   DigitsStart           where the digits of a token begin
--   DigitsTo, Stopped     the digits that were read, and that no other follows or they are ten
--   token_answer           a token that was read, or none
--
-- Main statements
--   token-goes-on, token-stops, token-cut   a token goes on at a byte that is no separator, and ends at one or at the end of the bytes
--   digits-go-on          one digit more
--   digits-followed       digits with another byte of the token after them cannot begin a number
--   begins-is, number_is, number-of   what a token is whose digits are all that it has
use Rattle.std.specs.Prelude.{◌≡◌, ℕ, suc, ◌+◌, ◌-◌, ◌*◌, ◌^◌, ◌<◌, ◌≤◌, Bool, true, false, cond, not, ◌&&◌, ◌||◌, T, ◌⊎◌, List, [], ◌∷◌, ◌++◌, length, take, drop, ℤ, pos, neg_ℤ, ◌==◌, ◌≢◌, nat_le, nat_lt, slice_index, slice_index_or}
use Rattle.std.proofs.Math.Nat.{le_refl, sub_self, pow-le-pow_right, pow-succ'}
use Rattle.std.proofs.Common.{le_of_lt, lt_of_lt_of_le, add-one, arith, ◌∙◌, subst, inl, inr, append-nil, length-append, drop_of_length-le, drop-cons, take-suc, length-take-le, leb→le, lit<}
use Rattle.std.proofs.Math.Path.{refl, sym, ap}
use Rattle.std.proofs.Math.Bool.{and-false}
use Rattle.std.proofs.Math.Seq.{slice, slice_empty, slice-cons, length-slice, drop-length, append_snoc}
use Rattle.std.proofs.lemmas.List.{drop-append-le}
use borrow.Author.Tests.{lt-ltb, le-ltb, eq-eqb, ne_eqb, lt-leb, le-leb}
use Rattle.std.proofs.Math.Decide.{ℕ_discrete}
use Rattle.lists.specs.Tests.{T-&&, every, every_append}
use Rattle.rules.specs.Numbers.{minus, is_separator_of, word, after_word, is_digit_of, signed, digits, starts_right_of, begins_number, is_number}
use Rattle.rules.specs.Numbers.{value_from, number_of, Read, got, fault}
use Rattle.std.specs.Prelude.{Option}
use Rattle.std.proofs.Common.{Some, None}

-- ---- tokens

slice-suc : (bytes : List ℕ) (at end : ℕ) → at ≤ end → end < length bytes
    → slice at (suc end) bytes ≡ slice at end bytes ++ (slice_index bytes end ∷ [])
slice-suc bytes at end begun h =
    ap (drop at) (take-suc bytes end 0 h)
    ∙ drop-append-le at (take end bytes) (slice_index bytes end ∷ []) (rw (length-take-le end bytes (omega arith)) begun)

-- The token that begins at `at` ends at `end`.
pub record TokenEnd (bytes : List ℕ) (at end : ℕ) : Type 0 where
  pub begun : at ≤ end
  pub within : end ≤ length bytes
  pub token : word (drop at bytes) ≡ slice at end bytes
  pub rest : after_word (drop at bytes) ≡ drop end bytes

-- The token that begins at `at` goes at least up to `end`.
pub record TokenTo (bytes : List ℕ) (at end : ℕ) : Type 0 where
  pub begun : at ≤ end
  pub within : end ≤ length bytes
  pub token : word (drop at bytes) ≡ slice at end bytes ++ word (drop end bytes)
  pub rest : after_word (drop at bytes) ≡ after_word (drop end bytes)

pub token_begins : (bytes : List ℕ) (at : ℕ) → at ≤ length bytes → TokenTo bytes at at
token_begins bytes at h =
    record { begun = le_refl at; within = h; token = ap (λ s. s ++ word (drop at bytes)) (sym (slice_empty at bytes)); rest = refl }

module _ (bytes : List ℕ) (at end : ℕ) (so_far : TokenTo bytes at end) where
  pub token-goes-on : end < length bytes → is_separator_of (slice_index bytes end) ≡ false → TokenTo bytes at (end + 1)
  unfolding word after_word
  token-goes-on h e =
      rw (add-one end)
      (record {
        begun = omega arith;
        within = omega arith;
        token =
            so_far.token
            ∙ ap (λ w. slice at end bytes ++ w) (ap word (drop-cons bytes end 0 h) ∙ step (drop (suc end) bytes))
            ∙ sym (append_snoc (slice at end bytes) (slice_index bytes end) (word (drop (suc end) bytes)))
            ∙ ap (λ s. s ++ word (drop (suc end) bytes)) (sym (slice-suc bytes at end so_far.begun h));
        rest = so_far.rest ∙ ap after_word (drop-cons bytes end 0 h) ∙ step_after (drop (suc end) bytes);
      })
    where
      step : (l : List ℕ) → word (slice_index bytes end ∷ l) ≡ slice_index bytes end ∷ word l
      step l = rw e

      step_after : (l : List ℕ) → after_word (slice_index bytes end ∷ l) ≡ after_word l
      step_after l = rw e

  ended : word (drop end bytes) ≡ [] → after_word (drop end bytes) ≡ drop end bytes → TokenEnd bytes at end
  ended e f =
      record {
        begun = so_far.begun;
        within = so_far.within;
        token = so_far.token ∙ ap (λ w. slice at end bytes ++ w) e ∙ append-nil (slice at end bytes);
        rest = so_far.rest ∙ f;
      }

  pub token-stops : end < length bytes → is_separator_of (slice_index bytes end) ≡ true → TokenEnd bytes at end
  unfolding word after_word
  token-stops h e = ended (rw (drop-cons bytes end 0 h, e)) (rw (drop-cons bytes end 0 h, e))

  pub token-cut : length bytes ≤ end → TokenEnd bytes at end
  unfolding word after_word
  token-cut h = ended (rw (drop_of_length-le bytes h)) (rw (drop_of_length-le bytes h))

-- ---- the form of a number

-- The bytes from i up to `end` are the byte at i and those after it.
pub slice-next : (bytes : List ℕ) (i end : ℕ) → i < end → end ≤ length bytes
    → slice i end bytes ≡ slice_index bytes i ∷ slice (i + 1) end bytes
slice-next bytes i end h within = rw (add-one i) (slice-cons i end bytes 0 h within)

-- The digits of the token at `at` begin at `from`, after the sign if there is one.
pub record DigitsStart (bytes : List ℕ) (at from : ℕ) : Type 0 where
  pub begun : at ≤ from
  pub within : from ≤ length bytes
  pub sign : signed (word (drop at bytes)) ≡ nat_lt at from
  pub digit-part : digits (word (drop at bytes)) ≡ word (drop from bytes)
  pub rest : after_word (drop at bytes) ≡ after_word (drop from bytes)

module _ (bytes : List ℕ) (at : ℕ) where
  pub digits-signed : at < length bytes → slice_index bytes at ≡ minus → DigitsStart bytes at (at + 1)
  unfolding word after_word digits signed
  digits-signed h e =
      let first : drop at bytes
      ≡ minus ∷ drop (at + 1) bytes = rw (add-one at) (drop-cons bytes at 0 h ∙ ap (λ b. b ∷ drop (suc at) bytes) e) in
      record {
        begun = omega arith;
        within = omega arith;
        sign = rw first (sym (lt-ltb at (at + 1) (omega arith)));
        digit-part = rw first;
        rest = rw first;
      }

  unsigned : at ≤ length bytes → signed (word (drop at bytes)) ≡ false → DigitsStart bytes at at
  unfolding digits
  unsigned h e =
      record {
        begun = le_refl at;
        within = h;
        sign = e ∙ sym (le-ltb at at (le_refl at));
        digit-part = rw e;
        rest = refl;
      }

  pub digits-unsigned : at < length bytes → (slice_index bytes at ≢ minus) → DigitsStart bytes at at
  unfolding word signed
  digits-unsigned h e = unsigned (le_of_lt h) (ap (λ l. signed (word l)) (drop-cons bytes at 0 h) ∙ by (is_separator_of (slice_index bytes at)))
    where
      by : (t : Bool) → signed (cond t [] (slice_index bytes at ∷ word (drop (suc at) bytes))) ≡ false
      by true = refl
      by false = ne_eqb (slice_index bytes at) minus e

  pub digits-none : at ≡ length bytes → DigitsStart bytes at at
  unfolding word signed
  digits-none e = unsigned (omega arith) (rw (e, drop-length bytes))

-- ---- may the bytes begin a number?

module _ (bytes : List ℕ) (from end : ℕ) (sign : Bool) where
  pub starts-empty : from ≡ end → starts_right_of sign (slice from end bytes) ≡ true
  unfolding starts_right_of
  starts-empty e = ap (starts_right_of sign) (ap (λ k. slice from k bytes) (sym e) ∙ slice_empty from bytes)

  module _ (h : from < end) (within : end ≤ length bytes) where
    starts-next : starts_right_of sign (slice from end bytes)
        ≡ (not (slice_index bytes from == 48) || (not sign && end - (from + 1) == 0))
    unfolding starts_right_of
    starts-next =
        ap (starts_right_of sign) (slice-next bytes from end h within)
        ∙ ap (λ n. not (slice_index bytes from == 48) || (not sign && n == 0)) (length-slice (from + 1) end bytes within)

    pub starts-nonzero : (slice_index bytes from ≢ 48) → starts_right_of sign (slice from end bytes) ≡ true
    starts-nonzero e = starts-next ∙ ap (λ t. not t || (not sign && end - (from + 1) == 0)) (ne_eqb (slice_index bytes from) 48 e)

    -- A 0 is right where it has no sign and nothing follows it.
    pub starts-zero : slice_index_or bytes from 0 ≡ 48 → starts_right_of sign (slice from end bytes) ≡ (not sign && from + 1 == end)
    starts-zero e =
        starts-next
        ∙ ap (λ t. not t || (not sign && end - (from + 1) == 0)) (eq-eqb (slice_index bytes from) 48 e)
        ∙ ap (λ t. not sign && t) (nothing_left (ℕ_discrete end (from + 1)))
      where
        nothing_left : Dec (end ≡ from + 1) → (end - (from + 1) == 0) ≡ (from + 1 == end)
        nothing_left (yes p) = eq-eqb (end - (from + 1)) 0 (omega arith) ∙ sym (eq-eqb (from + 1) end (sym p))
        nothing_left (no p) = ne_eqb (end - (from + 1)) 0 (λ z. p (omega arith)) ∙ sym (ne_eqb (from + 1) end (λ z. p (sym z)))

-- ---- the value of digits

-- A byte that is a digit, as bounds.
pub digit-bounds : (b : ℕ) → is_digit_of b ≡ true → (48 ≤ b) × (b ≤ 57)
unfolding is_digit_of
digit-bounds b e = let h = (T-&& (nat_le 48 b) (nat_le b 57)).0 (subst T (sym e) tt) in (leb→le 48 b h.0, leb→le b 57 h.1)

-- The bytes from `from` up to `end` are digits of one token, at most ten, and their value is v.
pub record DigitsTo (bytes : List ℕ) (from end v : ℕ) : Type 0 where
  pub token : TokenTo bytes from end
  pub short : end ≤ from + 10
  pub all_digits : every is_digit_of (slice from end bytes) ≡ true
  pub value : value_from 0 (slice from end bytes) ≡ v
  pub size : v < 10 ^ (end - from)

-- They are all the digits there, or ten.
abbrev pub Stopped : List ℕ → ℕ → ℕ → Type 0
Stopped bytes from end = end < length bytes → (is_digit_of (slice_index bytes end) ≡ false) ⊎ (from + 10 ≤ end)

pub digits-begin : (bytes : List ℕ) (from : ℕ) → from ≤ length bytes → DigitsTo bytes from from 0
unfolding every value_from
digits-begin bytes from h =
    record {
      token = token_begins bytes from h;
      short = omega arith;
      all_digits = rw (slice_empty from bytes);
      value = rw (slice_empty from bytes);
      size = rw (sub_self from) (lit< tt);
    }

value-append : (v : ℕ) (l : List ℕ) (d : ℕ) → value_from v (l ++ (d ∷ [])) ≡ 10 * value_from v l + (d - 48)
unfolding value_from
value-append v [] d = refl
value-append v (x ∷ l) d = value-append (10 * v + (x - 48)) l d

no-separator : (b : ℕ) → is_digit_of b ≡ true → is_separator_of b ≡ false
unfolding is_separator_of
no-separator b e =
    let h = digit-bounds b e in
    ap (λ t. t || b == 10) (ne_eqb b 32 (λ z. omega (arith, h))) ∙ ne_eqb b 10 (λ z. omega (arith, h))

module _ (bytes : List ℕ) (from end v : ℕ) (read : DigitsTo bytes from end v) where
  pub digits-size : v < 10 ^ 10
  digits-size = lt_of_lt_of_le read.size (pow-le-pow_right {n = 10} (lit< tt) {i = end - from} {j = 10} (omega (arith, read.short)))

  pub digits-go-on : end < length bytes → end < from + 10 → is_digit_of (slice_index bytes end) ≡ true
      → DigitsTo bytes from (end + 1) (10 * v + (slice_index bytes end - 48))
  unfolding every
  digits-go-on h short e =
      record {
        token = token-goes-on bytes from end read.token h (no-separator (slice_index bytes end) e);
        short = omega arith;
        all_digits = ap (every is_digit_of) more ∙ every_append is_digit_of (slice from end bytes) (slice_index bytes end ∷ [])
            ∙ rw (read.all_digits, e);
        value = ap (value_from 0) more ∙ value-append 0 (slice from end bytes) (slice_index bytes end)
            ∙ ap (λ v. 10 * v + (slice_index bytes end - 48)) read.value;
        size = rw power (omega (arith, digit-bounds (slice_index bytes end) e, read.size));
      }
    where
      more : slice from (end + 1) bytes ≡ slice from end bytes ++ (slice_index bytes end ∷ [])
      more = rw (add-one end) (slice-suc bytes from end read.token.begun h)

      power : 10 ^ (end + 1 - from) ≡ 10 * 10 ^ (end - from)
      power = ap (λ k. 10 ^ k) (omega (arith, read.token.begun)) ∙ pow-succ' 10 (end - from)

-- ---- the number of a token whose digits have been read

module _ (bytes : List ℕ) (at from end v : ℕ) (start : DigitsStart bytes at from) (read : DigitsTo bytes from end v) where
  -- Another byte of the token after them: no digit, or an eleventh, which is 3 too (SCOPE 4.33).
  pub digits-followed : end < length bytes → is_separator_of (slice_index bytes end) ≡ false → Stopped bytes from end
      → begins_number (word (drop at bytes)) ≡ false
  unfolding begins_number word every
  digits-followed h e stopped = by (stopped h)
    where
      more : List ℕ
      more = word (drop (suc end) bytes)

      part : digits (word (drop at bytes)) ≡ slice from end bytes ++ (slice_index bytes end ∷ more)
      part = start.digit-part ∙ read.token.token ∙ ap (λ w. slice from end bytes ++ w) (rw (drop-cons bytes end 0 h, e))

      by : (is_digit_of (slice_index bytes end) ≡ false) ⊎ (from + 10 ≤ end) → begins_number (word (drop at bytes)) ≡ false
      by (inl e') = rw (part, every_append is_digit_of (slice from end bytes) (slice_index bytes end ∷ more), read.all_digits, e')
      by (inr ten) =
          rw (lt-leb (length (digits (word (drop at bytes)))) 10
          (rw (part, length-append (slice from end bytes) (slice_index bytes end ∷ more), length-slice from end bytes (le_of_lt h))
          (omega arith)))
          (ap (λ t. t && starts_right_of (signed (word (drop at bytes))) (digits (word (drop at bytes))))
          (and-false (every is_digit_of (digits (word (drop at bytes))))))

  module _ (ended : TokenEnd bytes from end) where
    part : digits (word (drop at bytes)) ≡ slice from end bytes
    part = start.digit-part ∙ ended.token

    pub begins-is : begins_number (word (drop at bytes)) ≡ starts_right_of (nat_lt at from) (slice from end bytes)
    unfolding begins_number
    begins-is = rw (
      part,
      start.sign,
      read.all_digits,
      length-slice from end bytes ended.within,
      le-leb (end - from) 10
          (omega (arith, read.short)),
    )

    pub number_is : is_number (word (drop at bytes)) ≡ (nat_le 1 (end - from) && starts_right_of (nat_lt at from) (slice from end bytes))
    unfolding is_number
    number_is =
        ap (λ t. nat_le 1 (length (digits (word (drop at bytes)))) && t) begins-is
        ∙ ap (λ n. nat_le 1 n && starts_right_of (nat_lt at from) (slice from end bytes))
        (ap length part ∙ length-slice from end bytes ended.within)

    pub number-of : number_of (word (drop at bytes)) ≡ cond (nat_lt at from) (neg_ℤ (pos v)) (pos v)
    unfolding number_of
    number-of = rw (part, start.sign, read.value)

-- The judgement that lets every number through.
unfoldable pub unjudged : ℤ → ℕ
unjudged v = 0

-- What a token means: one that is no number is 3; a number is read, and its separator is next (SCOPE 4.33, 8.21).
unfoldable pub token_answer : Option ℤ → List ℕ → Read ℤ
token_answer (Some v) rest = got v rest
token_answer None rest = fault 3
