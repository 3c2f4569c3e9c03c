-- Tests: booleans, what they choose, and a test that every member of a list passes.
--
-- Main definitions
--   every t l                              does every member of l pass the test t?
--
-- Main statements
--   true_of, false_of, true-T, T-is        what passes is true, what fails is false, and back
--   dec-T                                  a test passes or fails
--   same_test                              tests that pass together are equal
--   T-&&, both_true                        both pass; both are true
--   and_second, and_first, and-joined      what `s && t` is where s passed, where s failed, and where the two cases meet
--   first-failed, second-failed, both-passed   what `s && t && u` is where s failed, where t failed, and where both passed
--   T-or, T-or-left, or_right, or-imply, T-not-or   one of two passes, or neither
--   cond-passed, cond-failed, cond-not     what a test chooses
--   cond-zero, cond-zero-iff               a choice that is zero
--   every-all                              the test `every` says that all pass
--   every-cons                             the first member and the others
--   every-get_or, every-from-at, every_from_all   the members at the places, and at the places from n on
--   every-false, every-member              a member that fails; members that pass
--   every-each                             what tells whether each member passes
--   every_append, every-join, every-flatten     the test of ++ and of flatten
--   every_take, every_drop, every-part, every-longer, every-reverse   of parts, of one member more, of the reverse
use Rattle.std.specs.Prelude.{◌≡◌, refl, ◌↔◌, ◌⊎◌, Bool, cond, not, true, false, ◌&&◌, ◌||◌, T, IsTrue, EachIndex, eqb, length, get_or, take, drop}
use Rattle.std.proofs.Common.{sym, ◌∙◌, ap, ap₂, subst, inl, inr, ⊎_elim, true≢false, suc-ne-zero, le_of_suc-le-suc, not-suc-le-zero, zero-le, add-sub_of_le, add-one, arith, length-drop, take-suc, get_or-drop}
use Rattle.std.proofs.lemmas.Bool.{false≢true}
use Rattle.std.proofs.Math.Bool.{and-false, and_assoc}
use Prim.Native.Nat.{ℕ, zero, suc, ◌+◌, ◌-◌, ◌≤◌, ◌<◌}
use mathlib.Core.List.{List, [], ◌∷◌, ◌++◌, reverse, flatten, Mem, mem-cons_self, mem-cons_of_mem, reverse-cons}
use Rattle.lists.specs.Everywhere.{All, all_get_or, get_or-all}

pub true_of : (t : Bool) → T t → t ≡ true
true_of true h = refl
true_of false h = absurd h

pub false_of : (t : Bool) → (T t → ⊥) → t ≡ false
false_of true h = absurd (h tt)
false_of false h = refl

pub true-T : (t : Bool) → t ≡ true → T t
true-T t e = subst T (sym e) tt

pub T-is : (t : Bool) → T t ↔ (t ≡ true)
T-is true = (λ h. refl, λ e. tt)
T-is false = (λ h. absurd h, λ e. true-T false e)

pub dec-T : (t : Bool) → Dec (T t)
dec-T true = yes tt
dec-T false = no (λ t. t)

-- Two tests that pass alike are equal.
pub same_test : (s t : Bool) → (T s → T t) → (T t → T s) → s ≡ t
same_test true true f g = refl
same_test true false f g = absurd (f tt)
same_test false true f g = absurd (g tt)
same_test false false f g = refl

-- ---- both, and either

pub T-&& : (s t : Bool) → T (s && t) ↔ (T s × T t)
T-&& true t = (λ h. (tt, h), λ h. h.1)
T-&& false t = (λ h. absurd h, λ h. h.0)

pub both_true : (s t : Bool) → (s && t) ≡ true → (s ≡ true) × (t ≡ true)
both_true true t e = (refl, e)
both_true false t e = absurd (false≢true e)

pub and_second : (s t : Bool) → s ≡ true → t ≡ (s && t)
and_second s t e = ap (λ b. b && t) (sym e)

pub and_first : (s t : Bool) → s ≡ false → s ≡ (s && t)
and_first s t e = e ∙ ap (λ b. b && t) (sym e)

pub and-joined : {P Q : Type 0} (r s t : Bool) → (P → s ≡ true) → (Q → s ≡ false) → (P × (r ≡ t)) ⊎ (Q × (r ≡ s)) → r ≡ (s && t)
and-joined r s t taken left came =
    ⊎_elim (λ w. w.1 ∙ and_second s t (taken w.0)) (λ w. w.1 ∙ and_first s t (left w.0)) came

pub first-failed : (s t u : Bool) → s ≡ false → false ≡ (s && t && u)
first-failed s t u e = sym (ap (λ b. b && t && u) e)

pub second-failed : (s t u : Bool) → s ≡ true → t ≡ false → false ≡ (s && t && u)
second-failed s t u e f = sym (ap₂ (λ a b. a && b && u) e f)

pub both-passed : (s t u : Bool) → s ≡ true → t ≡ true → u ≡ (s && t && u)
both-passed s t u e f = sym (ap₂ (λ a b. a && b && u) e f)

pub T-or : (s t : Bool) → T (s || t) ↔ (T s ⊎ T t)
T-or true t = (λ h. inl tt, λ h. tt)
T-or false t = (λ h. inr h, λ h. ⊎_elim (λ i. absurd i) (λ i. i) h)

pub T-or-left : (s t : Bool) → T s → T (s || t)
T-or-left true t h = tt
T-or-left false t h = absurd h

pub or_right : (s t : Bool) → T t → T (s || t)
or_right true t h = tt
or_right false t h = h

pub or-imply : (s t u : Bool) → (T t → T u) → T (s || t) → T (s || u)
or-imply true t u f h = tt
or-imply false t u f h = f h

pub T-not-or : (s t : Bool) → T (not (s || t)) ↔ (T (not s) × T (not t))
T-not-or true t = (λ h. absurd h, λ h. h.0)
T-not-or false t = (λ h. (tt, h), λ h. h.1)

-- ---- what a test chooses

pub cond-passed : {A : Type 0} (t : Bool) (x y : A) → T t → cond t x y ≡ x
cond-passed true x y h = refl
cond-passed {A = A} false x y h = elim h [ ]

pub cond-failed : {A : Type 0} (t : Bool) (x y : A) → ¬ T t → cond t x y ≡ y
cond-failed true x y h = absurd (h tt)
cond-failed false x y h = refl

pub cond-not : {A : Type 0} (t : Bool) (a b : A) → T (not t) → cond t a b ≡ b
cond-not true a b h = absurd h
cond-not false a b h = refl

-- Where the choice is zero the test has passed, and so have those after it.
pub cond-zero : (t : Bool) (a b : ℕ) → cond t a (suc b) ≡ 0 → T t × (a ≡ 0)
cond-zero true a b e = (tt, e)
cond-zero false a b e = absurd (suc-ne-zero b e)

pub cond-zero-iff : (t : Bool) (a n : ℕ) → eqb n 0 ≡ false → (cond t a n ≡ 0) ↔ (T t × (a ≡ 0))
cond-zero-iff true a n h = (λ e. (tt, e), λ i. i.1)
cond-zero-iff false a n h = (λ e. absurd (true≢false (sym (ap (λ k. eqb k 0) e) ∙ h)), λ i. absurd i.0)

-- ---- a test of every member

-- Does every member pass the test?
unfoldable pub every : {A : Type 0} → (A → Bool) → List A → Bool
every t [] = true
every t (x ∷ l) = t x && every t l

pub all-of-every : {A : Type 0} (t : A → Bool) (l : List A) → T (every t l) → All (λ x. T (t x)) l
unfolding All every
all-of-every t [] h = tt
all-of-every t (x ∷ l) h = let both = (T-&& (t x) (every t l)).0 h in (both.0, all-of-every t l both.1)

pub every-of-all : {A : Type 0} (t : A → Bool) (l : List A) → All (λ x. T (t x)) l → T (every t l)
unfolding All every
every-of-all t [] h = tt
every-of-all t (x ∷ l) h = (T-&& (t x) (every t l)).1 (h.0, every-of-all t l h.1)

pub every-all : {A : Type 0} (t : A → Bool) (l : List A) → T (every t l) ↔ All (λ x. T (t x)) l
every-all t l = (all-of-every t l, every-of-all t l)

pub every-cons : {A : Type 0} (t : A → Bool) (x : A) (l : List A) → T (every t (x ∷ l)) ↔ (T (t x) × T (every t l))
unfolding every
every-cons t x l = T-&& (t x) (every t l)

pub every-get_or : {A : Type 0} (t : A → Bool) (l : List A) (d : A) → T (t d) → T (every t l) → (i : ℕ) → T (t (get_or l i d))
unfolding every
every-get_or t [] d h e i = h
every-get_or t (x ∷ l) d h e zero = ((T-&& (t x) (every t l)).0 e).0
every-get_or t (x ∷ l) d h e (suc i) = every-get_or t l d h ((T-&& (t x) (every t l)).0 e).1 i

-- The members from place n on.
module _ {A : Type 0} (t : A → Bool) where
  pub every-from-at : (l : List A) (d : A) (n : ℕ) → T (every t (drop n l)) → (i : ℕ) → n ≤ i → i < length l → T (t (get_or l i d))
  every-from-at l d n h i low high =
      subst (λ x. T (t x)) (get_or-drop n l (i - n) d ∙ ap (λ k. get_or l k d) (add-sub_of_le low))
      (all_get_or (λ x. T (t x)) (drop n l) d (i - n) (rw length-drop (omega arith)) (all-of-every t (drop n l) h))

  pub every_from_all : (l : List A) (d : A) (n : ℕ) → ((i : ℕ) → n ≤ i → i < length l → T (t (get_or l i d))) → T (every t (drop n l))
  every_from_all l d n h = every-of-all t (drop n l) (get_or-all (λ x. T (t x)) (drop n l) d each)
    where
      each : (i : ℕ) → i < length (drop n l) → T (t (get_or (drop n l) i d))
      each i below = rw (get_or-drop n l i d) (h (n + i) (omega arith) (omega (arith, length-drop n l)))

pub every-false : {A : Type 0} (t : A → Bool) (l : List A) (i : ℕ) (d : A) → i < length l → t (get_or l i d) ≡ false → every t l ≡ false
unfolding every
every-false t [] i d h e = absurd (not-suc-le-zero h)
every-false t (x ∷ l) zero d h e = ap (λ b. b && every t l) e
every-false t (x ∷ l) (suc i) d h e = ap (λ b. t x && b) (every-false t l i d (le_of_suc-le-suc h) e) ∙ and-false (t x)

pub every-member : {A : Type 0} (t : A → Bool) (l : List A) → ((x : A) → Mem x l → T (t x)) → T (every t l)
unfolding every
every-member t [] h = tt
every-member t (x ∷ l) h = (T-&& (t x) (every t l)).1 (h x mem-cons_self, every-member t l (λ y m. h y (mem-cons_of_mem x m)))

-- What `all` tells of a slice: whether the member at each place passes.
pub every-each : {A : Type 0} (t : A → Bool) (l : List A) (d : A) (b : Bool) → (IsTrue b ↔ EachIndex l (λ i. T (t (get_or l i d)))) → b ≡ every t l
every-each t l d b h = same_test b (every t l) (λ p. every_from_all t l d 0 (λ i low high. h.0 (true_of b p) i high)) (λ q. true-T b (h.1 (λ i high. every-from-at t l d 0 q i zero-le high)))

-- ---- the test of lists made from others

pub every_append : {A : Type 0} (t : A → Bool) (l m : List A) → every t (l ++ m) ≡ (every t l && every t m)
unfolding every
every_append t [] m = refl
every_append t (x ∷ l) m = ap (λ b. t x && b) (every_append t l m) ∙ sym (and_assoc (t x) (every t l) (every t m))

pub every-join : {A : Type 0} (t : A → Bool) (l m : List A) → T (every t l) → T (every t m) → T (every t (l ++ m))
every-join t l m h g = subst T (sym (every_append t l m)) ((T-&& (every t l) (every t m)).1 (h, g))

pub every-flatten : {A : Type 0} (t : A → Bool) (ls : List (List A)) → every t (flatten ls) ≡ every (every t) ls
unfolding every flatten
every-flatten t [] = refl
every-flatten t (l ∷ ls) = every_append t l (flatten ls) ∙ ap (λ b. every t l && b) (every-flatten t ls)

module _ {A : Type 0} (t : A → Bool) where
  pub every_take : (n : ℕ) (l : List A) → T (every t l) → T (every t (take n l))
  unfolding every
  every_take zero l h = tt
  every_take (suc n) [] h = tt
  every_take (suc n) (x ∷ l) h = let e = (T-&& (t x) (every t l)).0 h in (T-&& (t x) (every t (take n l))).1 (e.0, every_take n l e.1)

  pub every_drop : (n : ℕ) (l : List A) → T (every t l) → T (every t (drop n l))
  unfolding every
  every_drop zero l h = h
  every_drop (suc n) [] h = tt
  every_drop (suc n) (x ∷ l) h = every_drop n l ((T-&& (t x) (every t l)).0 h).1

  -- What every member passes, every member of a part passes.
  pub every-part : (n m : ℕ) (l : List A) → T (every t l) → T (every t (take m (drop n l)))
  every-part n m l h = every_take m (drop n l) (every_drop n l h)

-- One member more that passes.
pub every-longer : {A : Type 0} (t : A → Bool) (l : List A) (i : ℕ) (d : A) → i < length l
    → every t (take i l) ≡ true → t (get_or l i d) ≡ true → every t (take (i + 1) l) ≡ true
unfolding every
every-longer t l i d h passed next =
    ap (λ n. every t (take n l)) (add-one i) ∙ ap (every t) (take-suc l i d h) ∙ every_append t (take i l) (get_or l i d ∷ [])
    ∙ ap₂ (λ a b. a && (b && true)) passed next

pub every-reverse : {A : Type 0} (t : A → Bool) (l : List A) → T (every t l) → T (every t (reverse l))
unfolding every
every-reverse t [] h = tt
every-reverse t (x ∷ l) h =
    let both = (T-&& (t x) (every t l)).0 h in
    subst T (sym (ap (every t) (reverse-cons x l) ∙ every_append t (reverse l) (x ∷ [])))
    ((T-&& (every t (reverse l)) (t x && true)).1 (every-reverse t l both.1, (T-&& (t x) true).1 (both.0, tt)))
