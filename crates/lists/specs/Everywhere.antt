-- What holds of every member of a list.
--
-- Main definitions
--   All P l                                every member of l has the property P
--
-- Main statements
--   all-mono, all-all-mono, all_both       All under an implication, also one level down, and under a conjunction
--   all_get_or, get_or-all                     All by the members at the places below the length
--   all-member, member-all                 All by membership
--   all_set, all-of-set                    one member put in, and taken back
--   all_append, all_map, all-flatten       All of ++, of map, of flatten, both ways; map-keeps, all-images: of images
--   all_take, all_drop, all-reverse, all-zip_with, all_replicate   All of parts, of the reverse, of a list made from two, of one value
use Rattle.std.specs.Prelude.{refl, ◌↔◌, length, get_or, take, drop, set, replicate}
use Rattle.std.proofs.Common.{sym, le_of_suc-le-suc, not-suc-le-zero, zero-lt-suc}
use Rattle.std.proofs.Math.Path.{subst}
use Rattle.std.proofs.Math.Logic.{⊎_elim}
use mathlib.Core.List.Memᴰ
use mathlib.Core.List.{List, [], ◌∷◌, ◌++◌, map, reverse, reverse_aux, flatten, zip_with, Memᴰ}
use Rattle.std.proofs.lemmas.List.{reverse-reverse}
use Prim.Native.Nat.{ℕ, zero, suc, ◌<◌}
use Rattle.std.proofs.Math.Nat.{suc-le-suc_iff}

-- Every member of a list has the property.
unfoldable pub All : {A : Type 0} → (A → Type 0) → List A → Type 0
All P [] = Unit {0}
All P (x ∷ l) = P x × All P l

pub all-mono : {A : Type 0} (P Q : A → Type 0) → ((x : A) → P x → Q x) → (l : List A) → All P l → All Q l
unfolding All
all-mono P Q f [] h = tt
all-mono P Q f (x ∷ l) h = (f x h.0, all-mono P Q f l h.1)

-- The same one level down.
pub all-all-mono : {A : Type 0} (P Q : A → Type 0) → ((x : A) → P x → Q x) → (ls : List (List A)) → All (All P) ls → All (All Q) ls
all-all-mono P Q f = all-mono (All P) (All Q) (all-mono P Q f)

pub all_both : {A : Type 0} (P Q : A → Type 0) (l : List A) → All P l → All Q l → All (λ x. P x × Q x) l
unfolding All
all_both P Q [] h g = tt
all_both P Q (x ∷ l) h g = ((h.0, g.0), all_both P Q l h.1 g.1)

pub all-always : {A : Type 0} (P : A → Type 0) → ((x : A) → P x) → (l : List A) → All P l
unfolding All
all-always P f [] = tt
all-always P f (x ∷ l) = (f x, all-always P f l)

module _ {A : Type 0} (P : A → Type 0) where
  pub all_get_or : (l : List A) (d : A) (i : ℕ) → i < length l → All P l → P (get_or l i d)
  unfolding All
  all_get_or [] d i h a = absurd (not-suc-le-zero h)
  all_get_or (x ∷ l) d zero h a = a.0
  all_get_or (x ∷ l) d (suc i) h a = all_get_or l d i (le_of_suc-le-suc h) a.1

  pub get_or-all : (l : List A) (d : A) → ((i : ℕ) → i < length l → P (get_or l i d)) → All P l
  unfolding All
  get_or-all [] d f = tt
  get_or-all (x ∷ l) d f = (f 0 (zero-lt-suc (length l)), get_or-all l d (λ i h. f (suc i) (suc-le-suc_iff.1 h)))

  -- At every place, where the default has the property too.
  pub all-get_or-default : (l : List A) (d : A) (i : ℕ) → P d → All P l → P (get_or l i d)
  unfolding All
  all-get_or-default [] d i p a = p
  all-get_or-default (x ∷ l) d zero p a = a.0
  all-get_or-default (x ∷ l) d (suc i) p a = all-get_or-default l d i p a.1

  pub all-member : {x : A} (l : List A) → Memᴰ x l → All P l → P x
  unfolding All
  all-member [] m a = absurd (Memᴰ.not-nil m)
  all-member (y ∷ l) m a = ⊎_elim (λ e. subst P (sym e) a.0) (λ n. all-member l n a.1) (Memᴰ.cases_cons m)

  pub member-all : (l : List A) → ((x : A) → Memᴰ x l → P x) → All P l
  unfolding All
  member-all [] f = tt
  member-all (x ∷ l) f = (f x (Memᴰ.head refl), member-all l (λ y m. f y (Memᴰ.tail m)))

  pub all_set : (l : List A) (i : ℕ) (x : A) → P x → All P l → All P (set l i x)
  unfolding All
  all_set [] i x p a = tt
  all_set (y ∷ l) zero x p a = (p, a.1)
  all_set (y ∷ l) (suc i) x p a = (a.0, all_set l i x p a.1)

  -- Back, where the member that was replaced has the property.
  pub all-of-set : (l : List A) (i : ℕ) (x d : A) → P (get_or l i d) → All P (set l i x) → All P l
  unfolding All
  all-of-set [] i x d p a = tt
  all-of-set (y ∷ l) zero x d p a = (p, a.1)
  all-of-set (y ∷ l) (suc i) x d p a = (a.0, all-of-set l i x d p a.1)

  pub append-all : (l m : List A) → All P l → All P m → All P (l ++ m)
  unfolding All
  append-all [] m a b = b
  append-all (x ∷ l) m a b = (a.0, append-all l m a.1 b)

  pub all-front : (l m : List A) → All P (l ++ m) → All P l
  unfolding All
  all-front [] m a = tt
  all-front (x ∷ l) m a = (a.0, all-front l m a.1)

  pub all_back : (l m : List A) → All P (l ++ m) → All P m
  unfolding All
  all_back [] m a = a
  all_back (x ∷ l) m a = all_back l m a.1

  pub all_append : (l m : List A) → All P (l ++ m) ↔ (All P l × All P m)
  all_append l m = (λ a. (all-front l m a, all_back l m a), λ a. append-all l m a.0 a.1)

  pub all_take : (n : ℕ) (l : List A) → All P l → All P (take n l)
  unfolding All
  all_take zero l a = tt
  all_take (suc n) [] a = tt
  all_take (suc n) (x ∷ l) a = (a.0, all_take n l a.1)

  pub all_drop : (n : ℕ) (l : List A) → All P l → All P (drop n l)
  unfolding All
  all_drop zero l a = a
  all_drop (suc n) [] a = tt
  all_drop (suc n) (x ∷ l) a = all_drop n l a.1

  pub reverse_aux-all : (l m : List A) → All P l → All P m → All P (reverse_aux l m)
  unfolding All
  reverse_aux-all [] m a b = b
  reverse_aux-all (x ∷ l) m a b = reverse_aux-all l (x ∷ m) a.1 (a.0, b)

  pub reverse-all : (l : List A) → All P l → All P (reverse l)
  unfolding All
  reverse-all l a = reverse_aux-all l [] a tt

  pub all-reverse : (l : List A) → All P (reverse l) ↔ All P l
  all-reverse l = (λ a. subst (All P) (reverse-reverse l) (reverse-all (reverse l) a), reverse-all l)

  pub map-all : {B : Type 0} (f : B → A) (l : List B) → All (λ x. P (f x)) l → All P (map f l)
  unfolding All
  map-all f [] a = tt
  map-all f (x ∷ l) a = (a.0, map-all f l a.1)

  pub all_of_map : {B : Type 0} (f : B → A) (l : List B) → All P (map f l) → All (λ x. P (f x)) l
  unfolding All
  all_of_map f [] a = tt
  all_of_map f (x ∷ l) a = (a.0, all_of_map f l a.1)

  pub all_map : {B : Type 0} (f : B → A) (l : List B) → All P (map f l) ↔ All (λ x. P (f x)) l
  all_map f l = (all_of_map f l, map-all f l)

  pub all-of-flatten : (l : List (List A)) → All P (flatten l) → All (All P) l
  unfolding All flatten
  all-of-flatten [] a = tt
  all-of-flatten (x ∷ l) a = (all-front x (flatten l) a, all-of-flatten l (all_back x (flatten l) a))

  pub flatten-all : (l : List (List A)) → All (All P) l → All P (flatten l)
  unfolding All flatten
  flatten-all [] a = tt
  flatten-all (x ∷ l) a = append-all x (flatten l) a.0 (flatten-all l a.1)

  pub all-flatten : (l : List (List A)) → All P (flatten l) ↔ All (All P) l
  all-flatten l = (all-of-flatten l, flatten-all l)

-- All of the images of a list whose members all have a property.
pub map-keeps : {A B : Type 0} (P : A → Type 0) (Q : B → Type 0) (f : A → B) → ((x : A) → P x → Q (f x))
    → (l : List A) → All P l → All Q (map f l)
map-keeps P Q f h l a = map-all Q f l (all-mono P (λ x. Q (f x)) h l a)

-- What holds of every member and of its image.
pub all-images : {A B : Type 0} (C P : A → Type 0) (Q : B → Type 0) (f : A → B) → ((x : A) → C x → P x ↔ Q (f x)) → (l : List A)
    → All C l → All P l ↔ All Q (map f l)
all-images C P Q f h l c = (
  λ a. map-keeps (λ x. C x × P x) Q f (λ x b. (h x b.0).0 b.1) l (all_both C P l c a),
  λ a. all-mono (λ x. C x × Q (f x)) P (λ x b. (h x b.0).1 b.1) l (all_both C (λ x. Q (f x)) l c (all_of_map Q f l a)),
)

-- All of a list made member by member from two.
pub all-zip_with : {A B C : Type 0} (P : A → Type 0) (Q : B → Type 0) (R : C → Type 0) (f : A → B → C)
    → ((x : A) (y : B) → P x → Q y → R (f x y)) → (l : List A) (m : List B) → All P l → All Q m → All R (zip_with f l m)
unfolding All zip_with
all-zip_with P Q R f h [] m a b = tt
all-zip_with P Q R f h (x ∷ l) [] a b = tt
all-zip_with P Q R f h (x ∷ l) (y ∷ m) a b = (h x y a.0 b.0, all-zip_with P Q R f h l m a.1 b.1)

pub all_replicate : {A : Type 0} (P : A → Type 0) (n : ℕ) (x : A) → P x → All P (replicate n x)
unfolding All
all_replicate P zero x h = tt
all_replicate P (suc n) x h = (h, all_replicate P n x h)
