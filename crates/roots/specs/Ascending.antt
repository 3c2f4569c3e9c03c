-- Strictly ascending lists of integers, and insertion into one.
--
-- Main definitions
--   Ascending l         each member is below every later one
--   insert x l          x in its place among the members of the ascending list l; once, if it is there already
--
-- Main statements
--   ascending-unique    two ascending lists with the same members are equal
--   insert-below, insert-here, insert-above   insertion by the order of the new member and the first
--   insert-new, insert-old, insert-only       the members are x and those of l
--   insert-ascending    and they ascend
--   insert-longer       the list does not get shorter
-- (`List.Memᴰ` is the kit's membership; its `Pairwise` relates each member to every later one.)
use Rattle.std.specs.Prelude.{suc, ◌≤◌, ◌≡◌, refl, ◌⊎◌, true, false, length, ℤ, ◌<ℤ◌, ◌≤ℤ◌}
use Rattle.std.proofs.Common.{zero-le, suc-le-suc, sym, ◌∙◌, subst, inl, inr, ⊎_elim, le_refl}
use Rattle.std.proofs.Math.Path.{ap, ap₂, subst⁻¹}
use Rattle.std.proofs.Math.Bool.{cond}
use mathlib.Core.List.{List, [], ◌∷◌, Mem, not-mem-nil}
use mathlib.Core.List.Memᴰ
use mathlib.Core.List.{Memᴰ}
use mathlib.Core.List.Pairwise
use mathlib.Core.List.{Pairwise, rel_of_Pairwise-cons}
use Rattle.std.specs.Int.Signed.{lt_z, lt_z_yes, clash_ℤ, <ℤ_irrefl}
use Rattle.algebra.specs.Order.{<ℤ-trans, <ℤ-to-≤ℤ, ≤ℤ-of-≡, ℤ-trichotomy}
use Rattle.lists.specs.Tests.{same_test}
use Rattle.algebra.specs.Roots.{place}

abbrev pub Ascending : List ℤ → Type 0
Ascending l = Pairwise ◌<ℤ◌ l

-- The smaller of x and the first member goes to the front, the other one on.
unfoldable pub insert : ℤ → List ℤ → List ℤ
insert x [] = x ∷ []
insert x (y ∷ l) = cond (lt_z x y) (x ∷ insert y l) (cond (lt_z y x) (y ∷ insert x l) (y ∷ l))

pub first_below : {x : ℤ} {l : List ℤ} → Ascending (x ∷ l) → {y : ℤ} → Memᴰ y l → x <ℤ y
first_below a m = rel_of_Pairwise-cons a ∣ m ∣₁

-- Two ascending lists with the same members are equal.
pub ascending-unique : (l m : List ℤ) → Ascending l → Ascending m → ((z : ℤ) → Memᴰ z l → Memᴰ z m)
    → ((z : ℤ) → Memᴰ z m → Memᴰ z l) → l ≡ m
ascending-unique [] [] a b f g = refl
ascending-unique [] (y ∷ m) a b f g = absurd (Memᴰ.not-nil (g y (Memᴰ.head refl)))
ascending-unique (x ∷ l) [] a b f g = absurd (Memᴰ.not-nil (f x (Memᴰ.head refl)))
ascending-unique (x ∷ l) (y ∷ m) a b f g =
    ap₂ ◌∷◌ first
    (ascending-unique l m (Pairwise.of_cons a) (Pairwise.of_cons b)
    (λ z k. later (sym first) (first_below a k) (f z (Memᴰ.tail k)))
    (λ z k. later first (first_below b k) (g z (Memᴰ.tail k))))
  where
    other : Memᴰ x m → Memᴰ y (x ∷ l) → x ≡ y
    other k n =
        ⊎_elim sym (λ n'. absurd (<ℤ_irrefl (<ℤ-trans (first_below b k) (first_below a n')))) (Memᴰ.cases_cons n)

    first : x ≡ y
    first = ⊎_elim (λ e. e) (λ k. other k (g y (Memᴰ.head refl))) (Memᴰ.cases_cons (f x (Memᴰ.head refl)))

    -- A member above the first is one of the others.
    later : {u v z : ℤ} {k : List ℤ} → u ≡ v → v <ℤ z → Memᴰ z (u ∷ k) → Memᴰ z k
    later {v} e h n = ⊎_elim (λ i. absurd (<ℤ_irrefl (subst (λ w. v <ℤ w) (i ∙ e) h))) (λ n'. n') (Memᴰ.cases_cons n)

-- ---- insertion into an ascending list

below_true : {x y : ℤ} → x <ℤ y → lt_z x y ≡ true
below_true {x} {y} h = same_test (lt_z x y) true (λ _. tt) (λ _. h.lt)

below_false : {x y : ℤ} → y ≤ℤ x → lt_z x y ≡ false
below_false {x} {y} h = same_test (lt_z x y) false (λ t. clash_ℤ (lt_z_yes t) h) (λ t. absurd t)

module _ {x y : ℤ} (l : List ℤ) where
  pub insert-below : x <ℤ y → insert x (y ∷ l) ≡ x ∷ insert y l
  unfolding insert
  insert-below h = ap (λ t. cond t (x ∷ insert y l) (cond (lt_z y x) (y ∷ insert x l) (y ∷ l))) (below_true h)

  pub insert-above : y <ℤ x → insert x (y ∷ l) ≡ y ∷ insert x l
  unfolding insert
  insert-above h =
      ap₂ (λ s t. cond s (x ∷ insert y l) (cond t (y ∷ insert x l) (y ∷ l))) (below_false (<ℤ-to-≤ℤ h)) (below_true h)

  pub insert-here : x ≡ y → insert x (y ∷ l) ≡ y ∷ l
  unfolding insert
  insert-here e =
      ap₂ (λ s t. cond s (x ∷ insert y l) (cond t (y ∷ insert x l) (y ∷ l)))
      (below_false (≤ℤ-of-≡ (sym e)))
      (below_false (≤ℤ-of-≡ e))

-- Insertion by cases on the order of the new member and the first.
insert-cases : (x y : ℤ) (l : List ℤ) (P : List ℤ → Type 0) → (x <ℤ y → P (x ∷ insert y l)) → (x ≡ y → P (y ∷ l))
    → (y <ℤ x → P (y ∷ insert x l)) → P (insert x (y ∷ l))
insert-cases x y l P f g h = cases (ℤ-trichotomy x y)
  where
    cases : x <ℤ y ⊎ (x ≡ y) ⊎ y <ℤ x → P (insert x (y ∷ l))
    cases (inl k) = subst⁻¹ P (insert-below l k) (f k)
    cases (inr (inl k)) = subst⁻¹ P (insert-here l k) (g k)
    cases (inr (inr k)) = subst⁻¹ P (insert-above l k) (h k)

pub insert-nil : (x : ℤ) → insert x [] ≡ x ∷ []
unfolding insert
insert-nil x = refl

pub insert-longer : (x : ℤ) (l : List ℤ) → length l ≤ length (insert x l)
insert-longer x [] = zero-le
insert-longer x (y ∷ l) =
    insert-cases x y l (λ m. suc (length l) ≤ length m)
    (λ _. suc-le-suc (insert-longer y l))
    (λ _. le_refl (suc (length l)))
    (λ _. suc-le-suc (insert-longer x l))

pub insert-new : (x : ℤ) (l : List ℤ) → Memᴰ x (insert x l)
unfolding insert
insert-new x [] = Memᴰ.head refl
insert-new x (y ∷ l) =
    insert-cases x y l (Memᴰ x) (λ _. Memᴰ.head refl) Memᴰ.head (λ _. Memᴰ.tail (insert-new x l))

pub insert-old : {z : ℤ} (x : ℤ) (l : List ℤ) → Memᴰ z l → Memᴰ z (insert x l)
insert-old x [] m = absurd (Memᴰ.not-nil m)
insert-old {z} x (y ∷ l) m =
    insert-cases x y l (Memᴰ z)
    (λ _. Memᴰ.tail (moved (Memᴰ.cases_cons m) (insert-old y l)))
    (λ _. m)
    (λ _. kept (Memᴰ.cases_cons m) (insert-old x l))
  where
    moved : (z ≡ y) ⊎ Memᴰ z l → (Memᴰ z l → Memᴰ z (insert y l)) → Memᴰ z (insert y l)
    moved (inl e) f = Memᴰ.cast e (insert-new y l)
    moved (inr k) f = f k

    kept : (z ≡ y) ⊎ Memᴰ z l → (Memᴰ z l → Memᴰ z (insert x l)) → Memᴰ z (y ∷ insert x l)
    kept (inl e) f = Memᴰ.head e
    kept (inr k) f = Memᴰ.tail (f k)

pub insert-only : {z : ℤ} (x : ℤ) (l : List ℤ) → Memᴰ z (insert x l) → (z ≡ x) ⊎ Memᴰ z l
unfolding insert
insert-only x [] = λ m. inl (Memᴰ.eq_of_singleton m)
insert-only {z} x (y ∷ l) =
    insert-cases x y l (λ k. Memᴰ z k → (z ≡ x) ⊎ Memᴰ z (y ∷ l))
    (λ _ m. moved (Memᴰ.cases_cons m) (insert-only y l))
    (λ _ m. inr m)
    (λ _ m. kept (Memᴰ.cases_cons m) (insert-only x l))
  where
    moved : {A : Type 0} → (z ≡ x) ⊎ A → (A → (z ≡ y) ⊎ Memᴰ z l) → (z ≡ x) ⊎ Memᴰ z (y ∷ l)
    moved (inl e) f = inl e
    moved (inr k) f = inr (⊎_elim Memᴰ.head Memᴰ.tail (f k))

    kept : {A : Type 0} → (z ≡ y) ⊎ A → (A → (z ≡ x) ⊎ Memᴰ z l) → (z ≡ x) ⊎ Memᴰ z (y ∷ l)
    kept (inl e) f = inr (Memᴰ.head e)
    kept (inr k) f = ⊎_elim inl (λ n. inr (Memᴰ.tail n)) (f k)

pub insert-ascending : (x : ℤ) (l : List ℤ) → Ascending l → Ascending (insert x l)
unfolding insert
insert-ascending x [] a = Pairwise.cons (λ z m. absurd (not-mem-nil m)) Pairwise.nil
insert-ascending x (y ∷ l) a =
    insert-cases x y l Ascending
    (λ h. Pairwise.cons (λ z m. above y (λ w k. <ℤ-trans h k) h m) (insert-ascending y l (Pairwise.of_cons a)))
    (λ _. a)
    (λ h. Pairwise.cons (λ z m. above x (λ w k. k) h m) (insert-ascending x l (Pairwise.of_cons a)))
  where
    -- What is below the new member v and, like the first, below every other one.
    above : {u z : ℤ} (v : ℤ) → ((w : ℤ) → y <ℤ w → u <ℤ w) → u <ℤ v → Mem z (insert v l) → u <ℤ z
    above {z} v f h m = ⊎_elim (λ e. rw e h) (λ k. f z (first_below a k)) (insert-only v l (place (insert v l) m))
