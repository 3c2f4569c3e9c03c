-- The places of a list: members that change places, or go.
--
-- Main definitions
--   swap l d i j                           the members at places i and j exchanged
--   without l i                            the member at place i left out, the later ones moved up
--
-- Main statements
--   get_or_default                           a member, whatever stands for a missing one
--   member-place, get_or-member              a member stands at a place, and what stands there is a member
--   swap-same, get_or-swap-left, get_or-swap-right, get_or-swap-other, all-swap   the members after an exchange
--   get_or-without-before, get_or-without-after, all_without, all-of-without   the members kept
use Rattle.std.specs.Prelude.{◌≡◌, ◌↔◌, ◌≢◌, length, get_or, set}
use Rattle.std.proofs.Math.Path.{refl, ap}
use Rattle.std.proofs.Common.{sym, ◌∙◌, subst, le_of_suc-le-suc, not-suc-le-zero, zero-lt-suc, length-set, lt-length-set, get_or-set_same, get_or-set_other, set-set}
use mathlib.Core.List.{List, [], ◌∷◌, Memᴰ}
use Prim.Native.Nat.{ℕ, zero, suc, ◌≤◌, ◌<◌}
use Rattle.std.proofs.Math.Nat.{suc-le-suc_iff}
use Rattle.std.proofs.Math.Decide.{ℕ_discrete}
use Rattle.std.proofs.lemmas.List.{set-get_or}
use Rattle.lists.specs.Everywhere.{All, all_get_or, get_or-all, all_set}

-- Inside a list it does not matter what stands for a missing member.
pub get_or_default : {A : Type 0} (l : List A) (i : ℕ) (d e : A) → i < length l → get_or l i d ≡ get_or l i e
get_or_default [] i d e h = absurd (not-suc-le-zero h)
get_or_default (x ∷ l) zero d e h = refl
get_or_default (x ∷ l) (suc i) d e h = get_or_default l i d e (le_of_suc-le-suc h)

pub member-place : {A : Type 0} {x : A} {l : List A} (d : A) → Memᴰ x l → (k : ℕ) × (k < length l) × (get_or l k d ≡ x)
member-place {l = y ∷ l} d (Memᴰ.head e) = (0, zero-lt-suc (length l), sym e)
member-place d (Memᴰ.tail m) = let (k, h, e) = member-place d m in (suc k, suc-le-suc_iff.1 h, e)

pub get_or-member : {A : Type 0} (l : List A) (i : ℕ) (d : A) → i < length l → Memᴰ (get_or l i d) l
get_or-member [] i d h = absurd (not-suc-le-zero h)
get_or-member (x ∷ l) zero d h = Memᴰ.head refl
get_or-member (x ∷ l) (suc i) d h = Memᴰ.tail (get_or-member l i d (le_of_suc-le-suc h))

-- ---- two members change places

-- What stood at place i stands at place j, and the other way round.
abbrev pub swap : {A : Type 0} → List A → A → ℕ → ℕ → List A
swap l d i j = set (set l j (get_or l i d)) i (get_or l j d)

module _ {A : Type 0} (l : List A) (d : A) (i j : ℕ) where
  pub length-swap : length (swap l d i j) ≡ length l
  length-swap = length-set (set l j (get_or l i d)) i (get_or l j d) ∙ length-set l j (get_or l i d)

  pub swap-same : i ≡ j → swap l d i j ≡ l
  swap-same e =
      ap (λ a. set (set l a (get_or l i d)) i (get_or l a d)) (sym e) ∙ set-set l i (get_or l i d) (get_or l i d) ∙ set-get_or l i d

  pub get_or-swap-left : i < length l → get_or (swap l d i j) i d ≡ get_or l j d
  get_or-swap-left below = get_or-set_same (set l j (get_or l i d)) i (get_or l j d) d (lt-length-set l j (get_or l i d) below)

  pub get_or-swap-other : (k : ℕ) → k ≢ i → k ≢ j → get_or (swap l d i j) k d ≡ get_or l k d
  get_or-swap-other k n m = get_or-set_other (set l j (get_or l i d)) i k (get_or l j d) d n ∙ get_or-set_other l j k (get_or l i d) d m

  pub get_or-swap-right : j < length l → get_or (swap l d i j) j d ≡ get_or l i d
  get_or-swap-right below = cases (ℕ_discrete j i)
    where
      cases : Dec (j ≡ i) → get_or (swap l d i j) j d ≡ get_or l i d
      cases (yes e) =
          ap (λ k. get_or (swap l d i j) k d) e ∙ get_or-swap-left (subst (λ k. k < length l) e below) ∙ ap (λ k. get_or l k d) e
      cases (no n) = get_or-set_other (set l j (get_or l i d)) i j (get_or l j d) d n ∙ get_or-set_same l j (get_or l i d) d below

  pub all-swap : (P : A → Type 0) → i < length l → j < length l → All P (swap l d i j) ↔ All P l
  all-swap P below-i below-j = (back, forth)
    where
      once : List A
      once = set l j (get_or l i d)

      forth : All P l → All P (swap l d i j)
      forth a = all_set P once i (get_or l j d) (all_get_or P l d j below-j a) (all_set P l j (get_or l i d) (all_get_or P l d i below-i a) a)

      inside : (k : ℕ) → k < length l → k < length (swap l d i j)
      inside k h = subst (λ n. k < n) (sym length-swap) h

      at : All P (swap l d i j) → (k : ℕ) → k < length l → P (get_or l k d)
      at a k h = cases (ℕ_discrete k i) (ℕ_discrete k j)
        where
          cases : Dec (k ≡ i) → Dec (k ≡ j) → P (get_or l k d)
          cases (yes e) m = subst (λ n. P (get_or l n d)) (sym e)
              (subst P (get_or-swap-right below-j) (all_get_or P (swap l d i j) d j (inside j below-j) a))
          cases (no n) (yes e) = subst (λ n. P (get_or l n d)) (sym e)
              (subst P (get_or-swap-left below-i) (all_get_or P (swap l d i j) d i (inside i below-i) a))
          cases (no n) (no m) = subst P (get_or-swap-other k n m) (all_get_or P (swap l d i j) d k (inside k h) a)

      back : All P (swap l d i j) → All P l
      back a = get_or-all P l d (at a)

-- ---- a member left out

unfoldable pub without : {A : Type 0} → List A → ℕ → List A
without [] i = []
without (x ∷ l) zero = l
without (x ∷ l) (suc i) = x ∷ without l i

module _ {A : Type 0} where
  pub length_without : (l : List A) (i : ℕ) → i < length l → suc (length (without l i)) ≡ length l
  unfolding without
  length_without [] i h = absurd (not-suc-le-zero h)
  length_without (x ∷ l) zero h = refl
  length_without (x ∷ l) (suc i) h = ap suc (length_without l i (le_of_suc-le-suc h))

  pub get_or-without-before : (l : List A) (d : A) (i k : ℕ) → k < i → get_or (without l i) k d ≡ get_or l k d
  unfolding without
  get_or-without-before [] d i k h = refl
  get_or-without-before (x ∷ l) d zero k h = absurd (not-suc-le-zero h)
  get_or-without-before (x ∷ l) d (suc i) zero h = refl
  get_or-without-before (x ∷ l) d (suc i) (suc k) h = get_or-without-before l d i k (le_of_suc-le-suc h)

  pub get_or-without-after : (l : List A) (d : A) (i k : ℕ) → i ≤ k → get_or (without l i) k d ≡ get_or l (suc k) d
  unfolding without
  get_or-without-after [] d i k h = refl
  get_or-without-after (x ∷ l) d zero k h = refl
  get_or-without-after (x ∷ l) d (suc i) zero h = absurd (not-suc-le-zero h)
  get_or-without-after (x ∷ l) d (suc i) (suc k) h = get_or-without-after l d i k (le_of_suc-le-suc h)

  pub all_without : (P : A → Type 0) (l : List A) (i : ℕ) → All P l → All P (without l i)
  unfolding All without
  all_without P [] i a = tt
  all_without P (x ∷ l) zero a = a.1
  all_without P (x ∷ l) (suc i) a = (a.0, all_without P l i a.1)

  -- Back, where the member that was left out has the property.
  pub all-of-without : (P : A → Type 0) (l : List A) (d : A) (i : ℕ) → P (get_or l i d) → All P (without l i) → All P l
  unfolding All without
  all-of-without P [] d i p a = tt
  all-of-without P (x ∷ l) d zero p a = (p, a)
  all-of-without P (x ∷ l) d (suc i) p a = (a.0, all-of-without P l d i p a.1)
