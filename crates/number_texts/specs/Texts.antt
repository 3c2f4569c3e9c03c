-- The bytes of whole numbers, of numbers within ±C, and of lines of them.
--
-- Main definitions
--   digits_of, spaced  the digits of a whole number; numbers with a space before each
--
-- Main statements
--   digits_last, digits-back   the last digit of a number comes after the digits of its tenth, and may be stored before them
--   digits-size       the number of digits goes by the powers of ten
--   decimal-length    a number within ±C takes at most ten bytes
--   spaced-append, spaced-then, spaced-next   numbers one after the other
--   line-is, count-line   a line is its first number, the others spaced, and byte 10
use Rattle.std.specs.Prelude.{◌≡◌, refl, Bool, true, false, cond, List, [], ◌∷◌, ◌++◌, map, ℕ, zero, suc, ◌+◌, ◌/◌, ◌%◌, ◌^◌, ◌≤◌, ◌<◌, T, ltb, ℤ, pos, negsuc, nat_abs, length, drop, get_or, set}
use Rattle.std.proofs.Common.{sym, ◌∙◌, ap, subst, append_assoc, append-nil, pow-suc, le-div_iff_mul-le, div-lt_iff_lt-mul, lt_trans, lt_of_le_of_lt, not-suc-le-zero, arith, ltb-true, lt-ltb, le-ltb, leb→le, le→leb, lit<, length-append}
use Rattle.std.proofs.Math.Nat.{div-lt_self, one-le-pow}
use Rattle.std.specs.Int.Signed.{lt_z}
use Rattle.std.proofs.lemmas.List.Edits.{sets}
use Rattle.lists.specs.Taken.{drop-next}
use Rattle.rules.specs.Limits.{bound, small}
use Rattle.rules.specs.Numbers.{space, newline, minus, decimal_within, decimal, line}
use Rattle.tokens.specs.WrittenNumbers.{decimal_within-bound, length-decimal_within}
use Rattle.lists.specs.Pasted.{sets-append, sets-later}
use Rattle.number_texts.specs.Runs.{Put, put_same, put_then}

-- ---- digits

unfoldable pub digits_of : ℕ → List ℕ
unfolding decimal_within
digits_of n = decimal_within (suc n) n []

-- What is written already only follows.
within-append : (k n : ℕ) (w v : List ℕ) → decimal_within k n (w ++ v) ≡ decimal_within k n w ++ v
unfolding decimal_within
within-append zero n w v = refl
within-append (suc k) n w v = step (ltb n 10) _ (within-append k (n / 10) ((48 + n % 10) ∷ w) v)
  where
    step : (t : Bool) {a : List ℕ} (b : List ℕ) → a ≡ b ++ v → cond t ((48 + n) ∷ (w ++ v)) a ≡ cond t ((48 + n) ∷ w) b ++ v
    step true b e = refl
    step false b e = e

pub digits-one : (n : ℕ) → n < 10 → digits_of n ≡ (48 + n) ∷ []
unfolding digits_of decimal_within
digits-one n h = rw (lt-ltb n 10 h)

pub digits_last : (n : ℕ) → 10 ≤ n → digits_of n ≡ digits_of (n / 10) ++ ((48 + n % 10) ∷ [])
unfolding digits_of decimal_within
digits_last n h =
    rw (le-ltb n 10 h)
    (decimal_within-bound (suc (n / 10)) n (n / 10) ((48 + n % 10) ∷ []) (omega arith)
    (div-lt_self {n = n} {k = 10} (omega arith) (omega arith))
    ∙ within-append (suc (n / 10)) (n / 10) [] ((48 + n % 10) ∷ []))

pub digits_more : (n : ℕ) → 10 ≤ n → length (digits_of n) ≡ length (digits_of (n / 10)) + 1
digits_more n h = ap length (digits_last n h) ∙ length-append (digits_of (n / 10)) _

-- The number of digits goes by the powers of ten.
pub digits-size : (k n : ℕ) → 10 ^ k ≤ n → n < 10 ^ suc k → length (digits_of n) ≡ suc k
digits-size zero n low high = ap length (digits-one n high)
digits-size (suc k) n low high =
    let less : 10 ^ k ≤ n / 10 = (le-div_iff_mul-le (lit< tt)).1 (rw pow-suc at low) in
    let more : n / 10 < 10 ^ suc k = (div-lt_iff_lt-mul (lit< tt)).1 (rw pow-suc at high) in
    digits_more n (omega (arith, less, one-le-pow k 10 (lit< tt))) ∙ omega (arith, digits-size k (n / 10) less more)

-- The last digit may be stored first.
pub digits-back : (d : List ℕ) (at n : ℕ) → 10 ≤ n
    → sets (set d (at + length (digits_of (n / 10))) (48 + n % 10)) at (digits_of (n / 10)) ≡ sets d at (digits_of n)
digits-back d at n h =
    sym (sets-later d at (digits_of (n / 10)) _ _ (omega arith)) ∙ sets-append d at (digits_of (n / 10)) _
    ∙ ap (sets d at) (sym (digits_last n h))

pub digits-length : (n : ℕ) → n < 2 ^ 64 → length (digits_of n) ≤ 20
unfolding digits_of
digits-length n h = length-decimal_within (suc n) n [] (omega arith) 19 (lt_trans h (lit< tt))

-- ---- numbers

pub nine-digits : (n : ℕ) → n ≤ bound → length (digits_of n) ≤ 9
unfolding digits_of
nine-digits n h = length-decimal_within (suc n) n [] (omega arith) 8 (lt_of_le_of_lt h (lit< tt))

pub small_size : (a : ℤ) → T (small a) → nat_abs a ≤ bound
unfolding small
small_size a h = leb→le (nat_abs a) bound h

-- A number within ±C has at most nine digits.
pub decimal-length : (a : ℤ) → T (small a) → length (decimal a) ≤ 10
unfolding decimal digits_of small
decimal-length (pos n) h = omega (arith, nine-digits n (leb→le n bound h))
decimal-length (negsuc n) h = omega (arith, nine-digits (suc n) (leb→le (suc n) bound h))

-- So is one of two digits.
pub small-pair : (a : ℤ) → nat_abs a < 100 → T (small a)
unfolding small
small-pair a h = le→leb (nat_abs a) bound (omega arith)

pub decimal-negative : (a : ℤ) → lt_z a (pos 0) ≡ true → decimal a ≡ minus ∷ digits_of (nat_abs a)
unfolding decimal digits_of
decimal-negative (pos n) h = absurd (not-suc-le-zero (ltb-true n 0 h))
decimal-negative (negsuc n) h = refl

pub decimal-positive : (a : ℤ) → lt_z a (pos 0) ≡ false → decimal a ≡ digits_of (nat_abs a)
unfolding decimal digits_of
decimal-positive (pos n) h = refl
decimal-positive (negsuc n) h = absurd (subst T h tt)

-- Numbers of a line past the first: a space before each.
unfoldable pub spaced : List ℤ → List ℕ
unfolding decimal
spaced [] = []
spaced (a ∷ l) = space ∷ (decimal a ++ spaced l)

pub spaced-append : (l m : List ℤ) → spaced l ++ spaced m ≡ spaced (l ++ m)
unfolding spaced
spaced-append [] m = refl
spaced-append (a ∷ l) m =
    ap (λ r. space ∷ r) (append_assoc (decimal a) (spaced l) (spaced m) ∙ ap (λ r. decimal a ++ r) (spaced-append l m))

-- A line is its first number, the others, and the byte that ends it (SCOPE 4.1).
pub line-is : (a : ℤ) (l : List ℤ) → line (a ∷ l) ≡ (decimal a ++ spaced l) ++ (newline ∷ [])
unfolding line spaced
line-is a [] = ap (λ r. r ++ (newline ∷ [])) (sym (append-nil (decimal a)))
line-is a (b ∷ l) = ap (λ r. decimal a ++ (space ∷ r)) (line-is b l) ∙ sym (append_assoc (decimal a) (spaced (b ∷ l)) (newline ∷ []))

pub spaced-then : {d e f : List ℕ} {at j k next last : ℕ} (l m : List ℤ) → Put d at (spaced l) j e next → Put e next (spaced m) k f last
    → Put d at (spaced (l ++ m)) (j + k) f last
spaced-then l m p q = put_same (put_then p q) (spaced-append l m)

pub spaced-next : (l : List ℤ) (i : ℕ) → i < length l → spaced (drop i l) ≡ spaced (get_or l i (pos 0) ∷ []) ++ spaced (drop (i + 1) l)
spaced-next l i h = ap spaced (drop-next l i (pos 0) h) ∙ sym (spaced-append (get_or l i (pos 0) ∷ []) (drop (i + 1) l))

pub columns-next : (l : List ℕ) (i : ℕ) → i < length l
    → spaced (map pos (drop i l)) ≡ spaced (pos (get_or l i 0) ∷ []) ++ spaced (map pos (drop (i + 1) l))
columns-next l i h =
    ap (λ r. spaced (map pos r)) (drop-next l i 0 h) ∙ sym (spaced-append (pos (get_or l i 0) ∷ []) (map pos (drop (i + 1) l)))

pub spaced-number : (a : ℤ) → space ∷ decimal a ≡ spaced (a ∷ [])
unfolding spaced
spaced-number a = ap (λ r. space ∷ r) (sym (append-nil (decimal a)))

pub decimal-count : (n : ℕ) → decimal (pos n) ≡ digits_of n
unfolding decimal digits_of
decimal-count n = refl

pub count-line : (n : ℕ) → digits_of n ++ (newline ∷ []) ≡ line (pos n ∷ [])
unfolding line
count-line n = ap (λ d. d ++ (newline ∷ [])) (sym (decimal-count n))
