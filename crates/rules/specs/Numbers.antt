-- Numbers in sheets and batch lines: ASCII, one to ten digits, with or without a minus in front; no zero in front of
-- other digits, no minus in front of a zero (SCOPE 4.1, 4.2, 5.3).
--
-- Main definitions
--   word, after_word         the bytes of a token, and those from its separator on
--   begins_number, is_number, number_of   can the bytes begin a number, are they one, and which
--   Read                    what was read and the bytes after it, or a fault
--   field judge follow      one number, judged, with its separator
--   decimal, line           the bytes of a number, and of a line of numbers
use Rattle.std.specs.Prelude.{ℕ, zero, suc, ◌+◌, ◌*◌, ◌-◌, ◌/◌, ◌%◌, Bool, true, false, ◌&&◌, ◌||◌, not, cond, leb, ltb, eqb, length, drop, ℤ, pos, negsuc, neg_ℤ}
use mathlib.Core.List.{List, [], ◌∷◌, ◌++◌, map, flatten}
use Rattle.std.specs.Int.Signed.{le_z}
use Rattle.rules.specs.Limits.{small}
use Rattle.lists.specs.Tests.{every}

abbrev pub space : ℕ
space = 32

-- Byte 10 closes a line (SCOPE 4.1).
abbrev pub newline : ℕ
newline = 10

abbrev pub minus : ℕ
minus = 45

unfoldable pub is_separator_of : ℕ → Bool
is_separator_of b = eqb b space || eqb b newline

-- The bytes of a token: those before the next space or byte 10 (SCOPE 4.31).
unfoldable pub word : List ℕ → List ℕ
unfolding is_separator_of
word [] = []
word (b ∷ bytes) = let more = b ∷ word bytes in cond (is_separator_of b) [] more

unfoldable pub after_word : List ℕ → List ℕ
unfolding is_separator_of
after_word [] = []
after_word (b ∷ bytes) = let more = after_word bytes in cond (is_separator_of b) (b ∷ bytes) more

-- ---- the form of a number

unfoldable pub is_digit_of : ℕ → Bool
is_digit_of b = leb 48 b && leb b 57

unfoldable pub signed : List ℕ → Bool
signed [] = false
signed (b ∷ w) = eqb b minus

unfoldable pub digits : List ℕ → List ℕ
unfolding signed
digits w = cond (signed w) (drop 1 w) w

-- A 0 in front stands alone and without a sign (SCOPE 4.2).
unfoldable pub starts_right_of : Bool → List ℕ → Bool
starts_right_of sign [] = true
starts_right_of sign (d ∷ ds) = not (eqb d 48) || (not sign && eqb (length ds) 0)

-- Can these bytes begin a number? No byte at all and a minus alone can (SCOPE 4.32).
unfoldable pub begins_number : List ℕ → Bool
unfolding every is_digit_of digits starts_right_of signed
begins_number w = every is_digit_of (digits w) && leb (length (digits w)) 10 && starts_right_of (signed w) (digits w)

unfoldable pub is_number : List ℕ → Bool
unfolding begins_number digits
is_number w = leb 1 (length (digits w)) && begins_number w

unfoldable pub value_from : ℕ → List ℕ → ℕ
value_from v [] = v
value_from v (d ∷ ds) = value_from (10 * v + (d - 48)) ds

unfoldable pub number_of : List ℕ → ℤ
unfolding signed digits value_from
number_of w = let v = value_from 0 (digits w) in cond (signed w) (neg_ℤ (pos v)) (pos v)

-- ---- reading

-- What was read with the bytes after it, or the refusal's number.
pub data Read (A : Type 0) : Type 0 where
  got : A → List ℕ → Read A
  fault : ℕ → Read A

-- The first fault ends the reading (SCOPE 4.37).
unfoldable pub then_read : {A B : Type 0} → Read A → (A → List ℕ → Read B) → Read B
then_read (got a bytes) f = f a bytes
then_read (fault n) f = fault n

-- A judgement is 0, or the number of the refusal.
unfoldable pub judged : ℕ → ℤ → List ℕ → Read ℤ
judged zero v bytes = got v bytes
judged (suc n) v bytes = fault (suc n)

-- With no separator behind it a token is 4, or 3 if it cannot begin a number (SCOPE 4.32). Otherwise its form comes
-- first (3), and then what `judge` finds: its range (2 or 5), the order of terms or a zero last coefficient (3)
-- (SCOPE 4.33 to 4.35).
unfoldable pub read_word : (ℤ → ℕ) → List ℕ → List ℕ → Read ℤ
unfolding begins_number is_number number_of judged
read_word judge w [] = fault (cond (begins_number w) 4 3)
read_word judge w (b ∷ bytes) =
    let found = judged (judge (number_of w)) (number_of w) (b ∷ bytes) in
    cond (is_number w) found (fault 3)

-- A separator of the wrong kind is 3 (SCOPE 4.36).
unfoldable pub read_separator : ℕ → ℤ → List ℕ → Read ℤ
read_separator separator v [] = fault 4
read_separator separator v (b ∷ bytes) = cond (eqb b separator) (got v bytes) (fault 3)

-- A number with its separator: `judge` says what is wrong with its value, `follow` which separator has to stand after it.
unfoldable pub field : (ℤ → ℕ) → (ℤ → ℕ) → List ℕ → Read ℤ
unfolding then_read read_word word after_word read_separator
field judge follow bytes =
    then_read (read_word judge (word bytes) (after_word bytes)) (λ v rest. read_separator (follow v) v rest)

-- A number out of its range is 2 (SCOPE 4.34).
unfoldable pub between : ℤ → ℤ → ℤ → ℕ
between low high v = cond (le_z low v && le_z v high) 0 2

-- A coefficient or n0 past ±C is 5 (SCOPE 4.34).
unfoldable pub judge_small_of : ℤ → ℕ
unfolding small
judge_small_of v = cond (small v) 0 5

-- ---- writing

-- The digits of a number in front of those written; the first argument bounds the number of calls.
unfoldable pub decimal_within : ℕ → ℕ → List ℕ → List ℕ
decimal_within zero n written = written
decimal_within (suc k) n written =
    let more = decimal_within k (n / 10) ((48 + n % 10) ∷ written) in
    cond (ltb n 10) ((48 + n) ∷ written) more

unfoldable pub decimal : ℤ → List ℕ
unfolding decimal_within
decimal (pos n) = decimal_within (suc n) n []
decimal (negsuc n) = minus ∷ decimal_within (suc (suc n)) (suc n) []

-- One space between two numbers, byte 10 at the end (SCOPE 4.1).
unfoldable pub line : List ℤ → List ℕ
unfolding decimal
line [] = newline ∷ []
line (a ∷ []) = decimal a ++ (newline ∷ [])
line (a ∷ b ∷ l) = decimal a ++ (space ∷ line (b ∷ l))

unfoldable pub lines : List (List ℤ) → List ℕ
unfolding flatten line
lines l = flatten (map line l)
