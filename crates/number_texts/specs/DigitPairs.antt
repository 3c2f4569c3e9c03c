-- The digits of a number, stored by pairs from the last back. Where their number is odd, a zero comes in front of them, which what stands
-- before the number is stored over.
--
-- Main definitions
--   pair_of n           the two digits of a number below 100
--   four_of n, eight_of n   the four digits of a number below 10^4, and the eight of one below 10^8
--   Ends d at end n e  the digits of n were stored in d up to a place, and what stands between `at` and them is still to be stored
--   Begins at a start  where the digits of a number begin that has a space before it
--
-- Main statements
--   run-behind, run-over   a run of bytes stored behind another, before that; a byte that a run is stored over
--   digits-pair, digits-two   the digits of a number below 100, and the last two of any other
--   pair-back, pair-first   one pair more, and the last
--   four-first         three or four digits at once
--   nine-stored        eight digits at once, and the ninth before them
--   long-stored        a number with the space before it, stored so that no step depends on its sign
--   few-stored         a count with the space before it
use Rattle.std.specs.Prelude.{◌≡◌, refl, Bool, true, false, not, ◌⊎◌, List, [], ◌∷◌, ◌++◌, ℕ, suc, ◌+◌, ◌-◌, ◌/◌, ◌%◌, ◌≤◌, ◌<◌, T, ltb, ℤ, pos, nat_abs, length, set}
use Rattle.std.proofs.Common.{sym, ◌∙◌, ap, ap₂, ⊎_elim, append_assoc, eq-or-lt_of_le, arith, ltb→lt, nltb→le, length-append, set-set}
use Rattle.std.specs.Int.Signed.{lt_z}
use Rattle.std.proofs.lemmas.List.Edits.{sets}
use Rattle.std.proofs.lemmas.List.{set_comm}
use Rattle.lists.specs.Pasted.{sets-append, sets-later}
use Rattle.rules.specs.Numbers.{space, minus}
use Rattle.number_texts.specs.Runs.{Put, put_same}
use Rattle.number_texts.specs.Texts.{digits_of, digits-one, digits_last, digits_more, spaced, spaced-number}
use Rattle.number_texts.specs.Texts.{decimal-negative, decimal-positive, decimal-count}

-- ---- pairs of digits

abbrev pub pair_of : ℕ → List ℕ
pair_of n = (48 + n / 10) ∷ (48 + n % 10) ∷ []

pub digits-pair : (n : ℕ) → 10 ≤ n → n < 100 → digits_of n ≡ pair_of n
digits-pair n h few = digits_last n h ∙ ap (λ l. l ++ ((48 + n % 10) ∷ [])) (digits-one (n / 10) (omega arith))

pub digits-two : (n : ℕ) → 100 ≤ n → digits_of n ≡ digits_of (n / 100) ++ pair_of (n % 100)
digits-two n h =
    let tenth : n / 10 / 10 ≡ n / 100 = omega arith in
    let tens : n / 10 % 10 ≡ n % 100 / 10 = omega arith in
    let ones : n % 10 ≡ n % 100 % 10 = omega arith in
    digits_last n (omega arith)
    ∙ ap₂ (λ l k. l ++ ((48 + k) ∷ [])) (digits_last (n / 10) (omega arith)) ones
    ∙ append_assoc (digits_of (n / 10 / 10)) ((48 + n / 10 % 10) ∷ []) ((48 + n % 100 % 10) ∷ [])
    ∙ ap₂ (λ l k. digits_of l ++ ((48 + k) ∷ (48 + n % 100 % 10) ∷ [])) tenth tens

pub digits-some : (n : ℕ) → 0 < length (digits_of n)
digits-some n = go (ltb n 10) (ltb→lt n 10) (nltb→le n 10)
  where
    go : (t : Bool) → (T t → n < 10) → (T (not t) → 10 ≤ n) → 0 < length (digits_of n)
    go true low high = omega (arith, ap length (digits-one n (low tt)))
    go false low high = omega (arith, digits_more n (high tt))

-- ---- runs of bytes

-- Two runs of which the later may be stored first.
runs-apart : (d : List ℕ) (at q : ℕ) (xs ys : List ℕ) → at + length xs ≤ q → sets (sets d at xs) q ys ≡ sets (sets d q ys) at xs
runs-apart d at q xs [] h = refl
runs-apart d at q xs (y ∷ ys) h =
    ap (λ l. sets l (suc q) ys) (sets-later d at xs q y h) ∙ runs-apart (set d q y) at (suc q) xs ys (omega arith)

pub run-behind : (d : List ℕ) (at q : ℕ) (xs ys : List ℕ) → q ≡ at + length xs → sets (sets d q ys) at xs ≡ sets d at (xs ++ ys)
run-behind d at q xs ys e =
    sym (runs-apart d at q xs ys (omega arith)) ∙ ap (λ i. sets (sets d at xs) i ys) e ∙ sets-append d at xs ys

pub run-over : (d : List ℕ) (at p b : ℕ) (xs : List ℕ) → at ≤ p → p < at + length xs → sets (set d p b) at xs ≡ sets d at xs
run-over d at p b [] low high = absurd (omega arith)
run-over d at p b (x ∷ xs) low high =
    ⊎_elim (λ e. ap (λ l. sets l (suc at) xs) (ap (λ i. set (set d i b) at x) (sym e) ∙ set-set d at b x))
    (λ less.
    ap (λ l. sets l (suc at) xs) (set_comm d p at b x (λ e. omega arith)) ∙ run-over (set d at x) (suc at) p b xs less (omega arith))
    (eq-or-lt_of_le low)

-- ---- digits before which something is still to be stored

-- The digits of n were stored in d up to `end`, which gave e: whatever is stored from `at` up to them, they stand behind it.
abbrev pub Ends : List ℕ → ℕ → ℕ → ℕ → List ℕ → Type 0
Ends d at end n e =
    (front : List ℕ) → 0 < length front → at + (length front + length (digits_of n)) ≡ end → sets e at front ≡ sets d at (front ++ digits_of n)

pub two-more : (n : ℕ) → 100 ≤ n → length (digits_of n) ≡ length (digits_of (n / 100)) + 2
two-more n h = ap length (digits-two n h) ∙ length-append (digits_of (n / 100)) (pair_of (n % 100))

pub pair-back : (d : List ℕ) (at i n : ℕ) (front : List ℕ) → 100 ≤ n → at + (length front + length (digits_of n)) ≡ i
    → sets (sets d (i - 2) (pair_of (n % 100))) at (front ++ digits_of (n / 100)) ≡ sets d at (front ++ digits_of n)
pair-back d at i n front h e =
    run-behind d at (i - 2) (front ++ digits_of (n / 100)) (pair_of (n % 100))
    (rw length-append (omega (arith, two-more n h)))
    ∙ ap (sets d at) (append_assoc front (digits_of (n / 100)) (pair_of (n % 100)) ∙ ap (λ l. front ++ l) (sym (digits-two n h)))

pub pair-first : (d : List ℕ) (at i n : ℕ) → n < 100 → Ends d at i n (sets d (i - 2) (pair_of n))
pair-first d at i n few front some e = go (ltb n 10) (ltb→lt n 10) (nltb→le n 10)
  where
    several : 10 ≤ n → sets (sets d (i - 2) (pair_of n)) at front ≡ sets d at (front ++ digits_of n)
    several h =
        let digits = digits-pair n h few in
        run-behind d at (i - 2) front (pair_of n) (omega (arith, ap length digits)) ∙ ap (λ l. sets d at (front ++ l)) (sym digits)

    one : n < 10 → sets (sets d (i - 2) (pair_of n)) at front ≡ sets d at (front ++ digits_of n)
    one h =
        let digits = digits-one n h in
        let ones : n % 10 ≡ n = omega arith in
        run-behind (set d (i - 2) (48 + n / 10)) at (suc (i - 2)) front ((48 + n % 10) ∷ []) (omega (arith, ap length digits))
        ∙ run-over d at (i - 2) (48 + n / 10) (front ++ ((48 + n % 10) ∷ [])) (omega (arith, ap length digits))
        (rw length-append (omega (arith, ap length digits)))
        ∙ ap (λ l. sets d at (front ++ l)) (ap (λ k. (48 + k) ∷ []) ones ∙ sym digits)

    go : (t : Bool) → (T t → n < 10) → (T (not t) → 10 ≤ n) → sets (sets d (i - 2) (pair_of n)) at front ≡ sets d at (front ++ digits_of n)
    go true low high = one (low tt)
    go false low high = several (high tt)

-- ---- several digits at once

abbrev pub four_of : ℕ → List ℕ
four_of n = pair_of (n / 100) ++ pair_of (n % 100)

abbrev pub eight_of : ℕ → List ℕ
eight_of n = four_of (n / 10000) ++ four_of (n % 10000)

-- Three digits or four.
pub four-first : (d : List ℕ) (at i n : ℕ) → 100 ≤ n → n < 10000 → Ends d at i n (sets d (i - 4) (four_of n))
four-first d at i n low high front some e =
    let top = pair_of (n / 100) in
    let last = sets d (i - 2) (pair_of (n % 100)) in
    let place : i - 4 ≡ i - 2 - 2 = omega arith in
    ap (λ l. sets l at front)
    (sym (run-behind d (i - 4) (i - 2) top (pair_of (n % 100)) (omega (arith, two-more n low, digits-some (n / 100))))
    ∙ ap (λ j. sets last j top) place)
    ∙ pair-first last at (i - 2) (n / 100) (omega arith) front some (omega (arith, two-more n low))
    ∙ pair-back d at i n front low e

-- The last six digits.
abbrev six_of : ℕ → List ℕ
six_of n = pair_of (n / 10000 % 100) ++ four_of (n % 10000)

digits-four : (n : ℕ) → 10000 ≤ n → digits_of n ≡ digits_of (n / 10000) ++ four_of (n % 10000)
digits-four n h =
    let rest : n / 100 / 100 ≡ n / 10000 = omega arith in
    let high : n / 100 % 100 ≡ n % 10000 / 100 = omega arith in
    let low : n % 100 ≡ n % 10000 % 100 = omega arith in
    digits-two n (omega arith)
    ∙ ap₂ (λ l k. l ++ pair_of k) (digits-two (n / 100) (omega arith)) low
    ∙ append_assoc (digits_of (n / 100 / 100)) (pair_of (n / 100 % 100)) (pair_of (n % 10000 % 100))
    ∙ ap₂ (λ q k. digits_of q ++ (pair_of k ++ pair_of (n % 10000 % 100))) rest high

digits-six : (n : ℕ) → 1000000 ≤ n → digits_of n ≡ digits_of (n / 1000000) ++ six_of n
digits-six n h =
    let rest : n / 10000 / 100 ≡ n / 1000000 = omega arith in
    digits-four n (omega arith)
    ∙ ap (λ l. l ++ four_of (n % 10000)) (digits-two (n / 10000) (omega arith))
    ∙ append_assoc (digits_of (n / 10000 / 100)) (pair_of (n / 10000 % 100)) (four_of (n % 10000))
    ∙ ap (λ q. digits_of q ++ six_of n) rest

pub six-more : (n : ℕ) → 1000000 ≤ n → length (digits_of n) ≡ length (digits_of (n / 1000000)) + 6
six-more n h = ap length (digits-six n h) ∙ length-append (digits_of (n / 1000000)) (six_of n)

eight-six : (n : ℕ) → eight_of (n % 100000000) ≡ pair_of (n / 1000000 % 100) ++ six_of n
eight-six n =
    let first : n % 100000000 / 10000 / 100 ≡ n / 1000000 % 100 = omega arith in
    let second : n % 100000000 / 10000 % 100 ≡ n / 10000 % 100 = omega arith in
    let last : n % 100000000 % 10000 ≡ n % 10000 = omega arith in
    ap₂ (λ i j. pair_of i ++ (pair_of j ++ four_of (n % 100000000 % 10000))) first second
    ∙ ap (λ k. pair_of (n / 1000000 % 100) ++ (pair_of (n / 10000 % 100) ++ four_of k)) last

-- The ninth digit stands before the others where there is room for it. Where there are fewer digits, what comes before the number is
-- stored over it.
module _ (d : List ℕ) (at end n first : ℕ) (big : 1000000 ≤ n) (few : n < 1000000000)
    (place : ((at + 9 ≤ end) × (first ≡ end - 9)) ⊎ ((end < at + 9) × (first ≡ at))) where
  abbrev top : ℕ
  top = n / 1000000

  abbrev ninth : ℕ
  ninth = 48 + n / 100000000

  module _ (front : List ℕ) (some : 0 < length front) (e : at + (length front + length (digits_of n)) ≡ end) where
    abbrev Stored : Type 0
    Stored = sets (sets (set d first ninth) (end - 8) (pair_of (top % 100) ++ six_of n)) at front ≡ sets d at (front ++ digits_of n)

    seven : top < 10 → Stored
    seven h =
        let digits : digits_of n ≡ (48 + top) ∷ six_of n = digits-six n big ∙ ap (λ l. l ++ six_of n) (digits-one top h) in
        let size : length (digits_of n) ≡ 7 = ap length digits in
        let same : top % 100 % 10 ≡ top = omega arith in
        let zeroth = 48 + top % 100 / 10 in
        let rest = (48 + top % 100 % 10) ∷ six_of n in
        let long : length (front ++ rest) ≡ length front + 7 = length-append front rest in
        let low : at ≤ first = ⊎_elim (λ w. omega arith) (λ w. omega arith) place in
        let high : first < at + length front = ⊎_elim (λ w. omega arith) (λ w. omega arith) place in
        run-behind (set (set d first ninth) (end - 8) zeroth) at (suc (end - 8)) front rest (omega arith)
        ∙ run-over (set d first ninth) at (end - 8) zeroth (front ++ rest) (omega arith) (omega arith)
        ∙ run-over d at first ninth (front ++ rest) low (omega arith)
        ∙ ap (λ l. sets d at (front ++ l)) (ap (λ k. (48 + k) ∷ six_of n) same ∙ sym digits)

    eight : 10 ≤ top → top < 100 → Stored
    eight h less =
        let digits : digits_of n ≡ pair_of top ++ six_of n = digits-six n big ∙ ap (λ l. l ++ six_of n) (digits-pair top h less) in
        let size : length (digits_of n) ≡ 8 = ap length digits in
        let same : top % 100 ≡ top = omega arith in
        let rest = pair_of (top % 100) ++ six_of n in
        let long : length (front ++ rest) ≡ length front + 8 = length-append front rest in
        let low : at ≤ first = ⊎_elim (λ w. omega arith) (λ w. omega arith) place in
        let high : first < at + length front = ⊎_elim (λ w. omega arith) (λ w. omega arith) place in
        run-behind (set d first ninth) at (end - 8) front rest (omega arith)
        ∙ run-over d at first ninth (front ++ rest) low (omega arith)
        ∙ ap (λ l. sets d at (front ++ l)) (ap (λ k. pair_of k ++ six_of n) same ∙ sym digits)

    nine : 100 ≤ top → Stored
    nine h =
        let rest = pair_of (top % 100) ++ six_of n in
        let digits : digits_of n ≡ (48 + top / 100) ∷ rest =
        digits-six n big
        ∙ ap (λ l. l ++ six_of n) (digits-two top h ∙ ap (λ l. l ++ pair_of (top % 100)) (digits-one (top / 100) (omega arith))) in
        let size : length (digits_of n) ≡ 9 = ap length digits in
        let same : n / 100000000 ≡ top / 100 = omega arith in
        let here : first ≡ at + length front = ⊎_elim (λ w. omega arith) (λ w. omega arith) place in
        let next : end - 8 ≡ suc first = omega arith in
        ap (λ i. sets (sets (set d first ninth) i rest) at front) next
        ∙ run-behind d at first front (ninth ∷ rest) here
        ∙ ap (λ l. sets d at (front ++ l)) (ap (λ k. (48 + k) ∷ rest) same ∙ sym digits)

    cases : Stored
    cases = go (ltb top 10) (ltb→lt top 10) (nltb→le top 10) (ltb top 100) (ltb→lt top 100) (nltb→le top 100)
      where
        go : (s : Bool) → (T s → top < 10) → (T (not s) → 10 ≤ top) → (t : Bool) → (T t → top < 100) → (T (not t) → 100 ≤ top) → Stored
        go true l h t m k = seven (l tt)
        go false l h true m k = eight (h tt) (m tt)
        go false l h false m k = nine (k tt)

  pub nine-stored : Ends d at end n (sets (set d first ninth) (end - 8) (eight_of (n % 100000000)))
  nine-stored front some e =
      ap (λ l. sets (sets (set d first ninth) (end - 8) l) at front) (eight-six n) ∙ cases front some e

-- ---- a number with the space before it

-- The digits of a stand behind the minus of a negative number, and behind the space otherwise.
pub record Begins (at : ℕ) (a : ℤ) (start : ℕ) : Type 0 where
  pub sides : ((lt_z a (pos 0) ≡ true) × (start ≡ at + 2)) ⊎ ((lt_z a (pos 0) ≡ false) × (start ≡ at + 1))
  pub bottom : at < start
  pub top : start ≤ at + 2

-- The minus is stored in any case, and the space over it where there is none.
pub long-stored : (d e : List ℕ) (at start end n k : ℕ) (a : ℤ) → n ≡ nat_abs a → Ends d at end n e → end ≡ start + length (digits_of n)
    → length (digits_of n) + 2 ≤ k → Begins at a start → Put d at (spaced (a ∷ [])) k (set (set e (start - 1) minus) at space) end
long-stored d e at start end n k a size ends last room begins =
    ⊎_elim
    (λ w.
    let sign : start - 1 ≡ suc at = omega (arith, w.1) in
    put_same
    (record {
      stored =
          ap (λ i. set (set e i minus) at space) sign ∙ set_comm e (suc at) at minus space (λ e. omega arith)
          ∙ ends (space ∷ minus ∷ []) (omega arith) (omega (arith, w.1));
      passed = omega (arith, w.1);
      few = omega arith;
    })
    (ap (λ l. space ∷ l) (ap (λ i. minus ∷ digits_of i) size ∙ sym (decimal-negative a w.0)) ∙ spaced-number a))
    (λ w.
    let sign : start - 1 ≡ at = omega (arith, w.1) in
    put_same
    (record {
      stored =
          ap (λ i. set (set e i minus) at space) sign ∙ set-set e at minus space ∙ ends (space ∷ []) (omega arith) (omega (arith, w.1));
      passed = omega (arith, w.1);
      few = omega arith;
    })
    (ap (λ l. space ∷ l) (ap digits_of size ∙ sym (decimal-positive a w.0)) ∙ spaced-number a))
    begins.sides

-- A count has no sign.
pub few-stored : (d e : List ℕ) (at end n k : ℕ) → Ends d at end n e → end ≡ at + 1 + length (digits_of n) → length (digits_of n) < k
    → Put d at (spaced (pos n ∷ [])) k (set e at space) end
few-stored d e at end n k ends same room =
    put_same (record { stored = ends (space ∷ []) (omega arith) (omega arith); passed = omega arith; few = omega arith })
    (ap (λ l. space ∷ l) (sym (decimal-count n)) ∙ spaced-number (pos n))
