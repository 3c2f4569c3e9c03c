-- The front of a list and what comes after it.
--
-- Main definitions
--   Overwritten n t q i                    the first i of the n places of q hold what t has there
--
-- Main statements
--   drop-take, part-of-part                a part of a part
--   drop-next                              the members from i on are member i and those from i + 1 on
--   length_none, none_before               a list of no member
--   take-least, whole_part                 as many members as there are
--   part-longer                           a part of a list to which more is appended
--   first-and-rest, rest_of, rest-past          a longer front, by a shorter one
--   overwritten-next, overwritten-all, suffix-next, suffix-first   a list overwritten from the front, member by member
--   front-last, drop_last-behind, get_last_d-behind, get_last_d-place   all members but the last, and the last
use Rattle.std.specs.Prelude.{◌≡◌, Bool, not, true, false, T, leb, length, get_or, take, drop, set}
use Rattle.std.proofs.Math.Path.{refl, ap}
use Rattle.std.proofs.Common.{sym, ◌∙◌, ap₂, add-zero, suc-ne-zero, zero-add, suc-add, not-suc-le-zero, le_refl, zero-lt-suc, add-sub_of_le, add-one, arith, leb→le, length-drop, length-set, drop_of_length-le, take_all, take-suc, drop-cons, drop-set-lt, take-suc-set, get_or-drop, take-take, drop-drop, take-add}
use mathlib.Core.List.{List, [], ◌∷◌, ◌++◌, drop_last, get_last_d}
use Prim.Native.Nat.{ℕ, zero, suc, ◌+◌, ◌-◌, ◌≤◌, ◌<◌, min}
use Rattle.std.proofs.Math.Nat.{suc_inj}
use Rattle.std.proofs.Math.Dec.{nleb→lt}
use Rattle.std.proofs.Math.Seq.{take-nil}
use Rattle.std.proofs.lemmas.List.{take-append-le, drop-append-le}

pub drop-take : {A : Type 0} (k i : ℕ) (l : List A) → drop k (take (k + i) l) ≡ take i (drop k l)
drop-take zero i l = ap (λ j. take j l) (zero-add i)
drop-take (suc k) i [] = ap (λ j. drop (suc k) (take j [])) (suc-add k i) ∙ sym (take-nil i)
drop-take (suc k) i (x ∷ l) = ap (λ j. drop (suc k) (take j (x ∷ l))) (suc-add k i) ∙ drop-take k i l

-- A part of a part is a part.
pub part-of-part : {A : Type 0} (i j k n : ℕ) (l : List A) → j + k ≤ n → take k (drop j (take n (drop i l))) ≡ take k (drop (i + j) l)
part-of-part i j k n l h =
    ap (λ m. take k (drop j (take m (drop i l)))) whole ∙ ap (take k) (drop-take j (n - j) (drop i l))
    ∙ take-take k (n - j) (drop j (drop i l)) (omega arith) ∙ ap (take k) (drop-drop j i l)
  where
    whole : n ≡ j + (n - j)
    whole = omega arith

-- The members from i on are member i and those from i + 1 on.
pub drop-next : {A : Type 0} (l : List A) (i : ℕ) (d : A) → i < length l → drop i l ≡ get_or l i d ∷ drop (i + 1) l
drop-next l i d h = drop-cons l i d h ∙ ap (λ j. get_or l i d ∷ drop j l) (sym (add-one i))

pub length_none : {A : Type 0} (l : List A) → length l ≡ 0 → l ≡ []
length_none [] h = refl
length_none (c ∷ l) h = absurd (omega arith)

pub none_before : {A : Type 0} (l store : List A) → length l ≡ 0 → l ++ store ≡ store
none_before [] store e = refl
none_before (x ∷ l) store e = absurd (suc-ne-zero (length l) e)

pub take-least : {A : Type 0} (l : List A) (k : ℕ) → take k l ≡ take (min (length l) k) l
take-least l k = go (leb (length l) k) (leb→le (length l) k) (nleb→lt (length l) k)
  where
    go : (t : Bool) → (T t → length l ≤ k) → (T (not t) → k < length l) → take k l ≡ take (min (length l) k) l
    go true h i =
        let least : min (length l) k ≡ length l = omega (arith, h tt) in
        take_all k l (h tt) ∙ sym (ap (λ n. take n l) least ∙ take_all (length l) l (le_refl (length l)))
    go false h i = let least : k ≡ min (length l) k = omega (arith, i tt) in ap (λ n. take n l) least

-- All members from a place on, and what comes after them.
pub whole_part : {A : Type 0} (store : List A) (n : ℕ) → n ≤ length store
    → (take (length store - n) (drop n store) ≡ drop n store) × (drop (length store - n) (drop n store) ≡ [])
whole_part store n h =
    let few : length (drop n store) ≤ length store - n = omega (arith, length-drop n store) in
    (take_all (length store - n) (drop n store) few, drop_of_length-le (drop n store) few)

-- More members behind change no part of a list.
pub part-longer : {A : Type 0} (from to : ℕ) (l x : List A) → from ≤ to → to ≤ length l
    → take (to - from) (drop from (l ++ x)) ≡ take (to - from) (drop from l)
part-longer from to l x h i =
    ap (take (to - from)) (drop-append-le from l x (omega arith))
    ∙ take-append-le (to - from) (drop from l) x (omega (arith, length-drop from l))

module _ (n need : ℕ) (inside : n ≤ need) where
  pub first-and-rest : {A : Type 0} (l : List A) → take need l ≡ take n l ++ take (need - n) (drop n l)
  first-and-rest l = ap (λ j. take j l) (sym (add-sub_of_le inside)) ∙ take-add n (need - n) l

  pub rest_of : {A : Type 0} (l : List A) → drop n (take need l) ≡ take (need - n) (drop n l)
  rest_of l = ap (λ j. drop n (take j l)) (sym (add-sub_of_le inside)) ∙ drop-take n (need - n) l

  pub rest-past : {A : Type 0} (l : List A) → drop need l ≡ drop (need - n) (drop n l)
  rest-past l = ap (λ j. drop j l) (sym (add-sub_of_le inside)) ∙ sym (drop-drop (need - n) n l)

-- ---- a list q of n places that is overwritten from the front with what t has; l is what it had

pub record Overwritten {A : Type 0} (n : ℕ) (t q : List A) (i : ℕ) : Type 0 where
  pub within : i ≤ n
  pub long : length q ≡ n
  pub front : take i q ≡ take i t

module _ {A : Type 0} {n i : ℕ} {t q : List A} (w : Overwritten n t q i) (long : length t ≡ n) where
  -- One place more.
  pub overwritten-next : {a : A} (z : A) → i < n → a ≡ get_or t i z → Overwritten n t (set q i a) (i + 1)
  overwritten-next {a} z h e =
      record {
        within = omega arith;
        long = length-set q i a ∙ w.long;
        front = rw add-one
            (take-suc-set q i a (omega arith) ∙ ap₂ (λ r b. r ++ (b ∷ [])) w.front e ∙ sym (take-suc t i z (omega arith)));
      }

  pub overwritten-all : n ≤ i → q ≡ t
  overwritten-all h = sym (take_all i q (omega arith)) ∙ w.front ∙ take_all i t (omega arith)

-- The places from i on are as they were.
pub suffix-next : {A : Type 0} (q l : List A) (i : ℕ) (a : A) → drop i q ≡ drop i l → drop (i + 1) (set q i a) ≡ drop (i + 1) l
suffix-next q l i a e = drop-set-lt (i + 1) q i a (omega arith) ∙ sym (drop-drop 1 i q) ∙ ap (drop 1) e ∙ drop-drop 1 i l

pub suffix-first : {A : Type 0} (q l : List A) (i : ℕ) (z : A) → drop i q ≡ drop i l → get_or q i z ≡ get_or l i z
suffix-first q l i z e = simp add-zero at (sym (get_or-drop i q 0 z) ∙ ap (λ r. get_or r 0 z) e ∙ get_or-drop i l 0 z)

-- ---- all members but the last, and the last

module _ {A : Type 0} where
  pub front-last : (l : List A) (d : A) → 0 < length l → drop_last l ++ (get_last_d l d ∷ []) ≡ l
  unfolding get_last_d
  front-last [] d h = absurd (not-suc-le-zero h)
  front-last (x ∷ []) d h = refl
  front-last (x ∷ y ∷ l) d h = ap (λ k. x ∷ k) (front-last (y ∷ l) d (zero-lt-suc (length l)))

  pub drop_last-behind : (l : List A) (x : A) → drop_last (l ++ (x ∷ [])) ≡ l
  drop_last-behind [] x = refl
  drop_last-behind (y ∷ []) x = refl
  drop_last-behind (y ∷ z ∷ l) x = ap (λ k. y ∷ k) (drop_last-behind (z ∷ l) x)

  pub get_last_d-behind : (l : List A) (x d : A) → get_last_d (l ++ (x ∷ [])) d ≡ x
  unfolding get_last_d
  get_last_d-behind [] x d = refl
  get_last_d-behind (y ∷ []) x d = refl
  get_last_d-behind (y ∷ z ∷ l) x d = get_last_d-behind (z ∷ l) x d

  pub get_last_d-place : (l : List A) (d : A) (n : ℕ) → length l ≡ suc n → get_last_d l d ≡ get_or l n d
  unfolding get_last_d
  get_last_d-place [] d n e = absurd (suc-ne-zero n (sym e))
  get_last_d-place (x ∷ []) d zero e = refl
  get_last_d-place (x ∷ []) d (suc n) e = absurd (suc-ne-zero n (sym (suc_inj e)))
  get_last_d-place (x ∷ y ∷ l) d zero e = absurd (suc-ne-zero (length l) (suc_inj e))
  get_last_d-place (x ∷ y ∷ l) d (suc n) e = get_last_d-place (y ∷ l) d n (suc_inj e)
