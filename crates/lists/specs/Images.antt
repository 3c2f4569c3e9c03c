-- Images of a list: member by member, reversed, made from two.
--
-- Main definitions
--   Zipped f l m a b c                     c is made from the members of both lists at one place
--
-- Main statements
--   map_same, map_back                     map of what changes nothing, or is undone
--   map-take, map-drop, map-set, map-reverse, get_or_map   map of parts, of one member put in, of the reverse; a member
--   get_or_reverse                           a member of the reverse
--   length-zip_with, get_or-zip_with, zip_with-place, zip_with-append   the length and the members of a list made from two; two such lists joined
--   zip-member, zip-index                  what stands at one place of both makes a member, and each member is made so
use Rattle.std.specs.Prelude.{◌≡◌, ◌⊎◌, ℕ, zero, suc, ◌-◌, ◌<◌, length, get_or, take, drop, set}
use Rattle.std.proofs.Math.Path.{refl, ap}
use Rattle.std.proofs.Common.{sym, ◌∙◌, ap₂, inl, inr, ⊎_elim, suc-le-suc, suc-ne-zero, le_of_suc-le-suc, not-suc-le-zero, eq-or-lt_of_le, arith}
use mathlib.Core.List.Memᴰ
use mathlib.Core.List.{List, [], ◌∷◌, ◌++◌, map, reverse, zip_with, Memᴰ}
use mathlib.Core.List.{reverse-cons, map-append}
use Rattle.std.proofs.Math.Nat.{suc_inj}
use Rattle.std.proofs.Math.ListN
use Rattle.std.proofs.lemmas.List.{length-reverse, length-map, get_or_at}
use Rattle.std.proofs.Math.ListN.{get_or-append}
use Rattle.lists.specs.Everywhere.{All}
use Rattle.lists.specs.Places.{get_or_default}

pub map_same : {A : Type 0} (f : A → A) (l : List A) → All (λ x. f x ≡ x) l → map f l ≡ l
unfolding All
map_same f [] a = refl
map_same f (x ∷ l) a = ap₂ ◌∷◌ a.0 (map_same f l a.1)

-- If g takes back what f makes of each member, so does map g of the list.
pub map_back : {A B : Type 0} (f : A → B) (g : B → A) (l : List A) → All (λ x. g (f x) ≡ x) l → map g (map f l) ≡ l
unfolding All
map_back f g [] a = refl
map_back f g (x ∷ l) a = ap₂ ◌∷◌ a.0 (map_back f g l a.1)

pub map-take : {A B : Type 0} (f : A → B) (n : ℕ) (l : List A) → take n (map f l) ≡ map f (take n l)
map-take f zero l = refl
map-take f (suc n) [] = refl
map-take f (suc n) (x ∷ l) = ap (λ k. f x ∷ k) (map-take f n l)

pub map-set : {A B : Type 0} (f : A → B) (l : List A) (i : ℕ) (x : A) → map f (set l i x) ≡ set (map f l) i (f x)
map-set f [] i x = refl
map-set f (y ∷ l) zero x = refl
map-set f (y ∷ l) (suc i) x = ap (λ r. f y ∷ r) (map-set f l i x)

pub map-drop : {A B : Type 0} (f : A → B) (n : ℕ) (l : List A) → drop n (map f l) ≡ map f (drop n l)
map-drop f zero l = refl
map-drop f (suc n) [] = refl
map-drop f (suc n) (x ∷ l) = map-drop f n l

pub map-reverse : {A B : Type 0} (f : A → B) (l : List A) → reverse (map f l) ≡ map f (reverse l)
map-reverse f [] = refl
map-reverse f (x ∷ l) =
    reverse-cons (f x) (map f l) ∙ ap (λ k. k ++ (f x ∷ [])) (map-reverse f l)
    ∙ sym (map-append f (reverse l) (x ∷ [])) ∙ ap (map f) (sym (reverse-cons x l))

-- A member of a mapped list, for any value that stands for a missing one.
pub get_or_map : {A B : Type 0} (f : A → B) (l : List A) (i : ℕ) (d : A) (e : B) → i < length l → get_or (map f l) i e ≡ f (get_or l i d)
get_or_map f l i d e h = get_or_default (map f l) i e (f d) (rw (length-map l f) h) ∙ ListN.get_or-map f l i d

module _ {A : Type 0} (d : A) where
  pub get_or_reverse : (l : List A) (i : ℕ) → i < length l → get_or (reverse l) i d ≡ get_or l (length l - suc i) d
  get_or_reverse [] i h = absurd (not-suc-le-zero h)
  get_or_reverse (x ∷ l) i h =
      ap (λ r. get_or r i d) (reverse-cons x l)
      ∙ ⊎_elim last (λ e. earlier e (get_or_reverse l i e)) (eq-or-lt_of_le (le_of_suc-le-suc h))
    where
      last : i ≡ length l → get_or (reverse l ++ x ∷ []) i d ≡ get_or (x ∷ l) (suc (length l) - suc i) d
      last e =
          let place : 0 ≡ suc (length l) - suc i = omega arith in
          get_or_at (reverse l) x [] d i (length-reverse l ∙ sym e) ∙ ap (λ n. get_or (x ∷ l) n d) place

      earlier : i < length l → get_or (reverse l) i d ≡ get_or l (length l - suc i) d
          → get_or (reverse l ++ x ∷ []) i d ≡ get_or (x ∷ l) (suc (length l) - suc i) d
      earlier e same =
          let place : suc (length l - suc i) ≡ suc (length l) - suc i = omega arith in
          get_or-append (reverse l) (x ∷ []) d i (rw length-reverse e) ∙ same ∙ ap (λ n. get_or (x ∷ l) n d) place

-- ---- lists made from two

pub length-zip_with : {A B C : Type 0} (f : A → B → C) (l : List A) (m : List B) → length l ≡ length m → length (zip_with f l m) ≡ length l
unfolding zip_with
length-zip_with f [] m h = refl
length-zip_with f (x ∷ l) [] h = sym h
length-zip_with f (x ∷ l) (y ∷ m) h = ap suc (length-zip_with f l m (suc_inj h))

pub get_or-zip_with : {A B C : Type 0} (f : A → B → C) (l : List A) (m : List B) (i : ℕ) (a : A) (b : B) (c : C) → i < length l → i < length m
    → get_or (zip_with f l m) i c ≡ f (get_or l i a) (get_or m i b)
unfolding zip_with
get_or-zip_with f [] m i a b c h k = absurd (not-suc-le-zero h)
get_or-zip_with f (x ∷ l) [] i a b c h k = absurd (not-suc-le-zero k)
get_or-zip_with f (x ∷ l) (y ∷ m) zero a b c h k = refl
get_or-zip_with f (x ∷ l) (y ∷ m) (suc i) a b c h k = get_or-zip_with f l m i a b c (le_of_suc-le-suc h) (le_of_suc-le-suc k)

module _ {A B C : Type 0} (f : A → B → C) where
  pub zip_with-nil : (l : List A) → zip_with f l [] ≡ []
  unfolding zip_with
  zip_with-nil [] = refl
  zip_with-nil (x ∷ l) = refl

  pub zip_with-append : (l l' : List A) (m m' : List B) → length l ≡ length m → zip_with f (l ++ l') (m ++ m') ≡ zip_with f l m
      ++ zip_with f l' m'
  unfolding zip_with
  zip_with-append [] l' [] m' e = refl
  zip_with-append [] l' (y ∷ m) m' e = absurd (suc-ne-zero (length m) (sym e))
  zip_with-append (x ∷ l) l' [] m' e = absurd (suc-ne-zero (length l) e)
  zip_with-append (x ∷ l) l' (y ∷ m) m' e = ap (λ r. f x y ∷ r) (zip_with-append l l' m m' (suc_inj e))

-- A list made from two has at a place what f makes there, or ends before it.
pub zip_with-place : {A B C : Type 0} (f : A → B → C) (l : List A) (m : List B) (i : ℕ) (a : A) (b : B) (c : C)
    → (get_or (zip_with f l m) i c ≡ f (get_or l i a) (get_or m i b)) ⊎ (get_or (zip_with f l m) i c ≡ c)
unfolding zip_with
zip_with-place f [] m i a b c = inr refl
zip_with-place f (x ∷ l) [] i a b c = inr refl
zip_with-place f (x ∷ l) (y ∷ m) zero a b c = inl refl
zip_with-place f (x ∷ l) (y ∷ m) (suc i) a b c = zip_with-place f l m i a b c

pub zip-member : {A B C : Type 0} (f : A → B → C) (l : List A) (m : List B) (a : A) (b : B) (j : ℕ) → j < length l → j < length m
    → Memᴰ (f (get_or l j a) (get_or m j b)) (zip_with f l m)
unfolding zip_with
zip-member f [] m a b j h k = absurd (not-suc-le-zero h)
zip-member f (x ∷ l) [] a b j h k = absurd (not-suc-le-zero k)
zip-member f (x ∷ l) (y ∷ m) a b zero h k = Memᴰ.head refl
zip-member f (x ∷ l) (y ∷ m) a b (suc j) h k =
    Memᴰ.tail (zip-member f l m a b j (le_of_suc-le-suc h) (le_of_suc-le-suc k))

-- c is made from the members of both lists at one place.
abbrev pub Zipped : {A B C : Type 0} → (A → B → C) → List A → List B → A → B → C → Type 0
Zipped f l m a b c = (j : ℕ) × (j < length l) × (j < length m) × (c ≡ f (get_or l j a) (get_or m j b))

pub zip-index : {A B C : Type 0} (f : A → B → C) (l : List A) (m : List B) (a : A) (b : B) {c : C}
    → Memᴰ c (zip_with f l m) → Zipped f l m a b c
unfolding zip_with
zip-index f [] m a b p = absurd (Memᴰ.not-nil p)
zip-index f (x ∷ l) [] a b p = absurd (Memᴰ.not-nil p)
zip-index f (x ∷ l) (y ∷ m) a b {c} p = ⊎_elim here (λ q. there (zip-index f l m a b q)) (Memᴰ.cases_cons p)
  where
    here : c ≡ f x y → Zipped f (x ∷ l) (y ∷ m) a b c
    here e = (0, omega arith, omega arith, e)

    there : Zipped f l m a b c → Zipped f (x ∷ l) (y ∷ m) a b c
    there z = (suc z.0, suc-le-suc z.1, suc-le-suc z.2, z.3)
