-- Lists joined.
--
-- Main statements
--   flatten-append, flatten-flatten, flatten-map   joined in two steps, and before or after map
--   flat-member, flat_origin               the members of joined images
--   length-flatten, length-get_or-flatten    the length
--   flatten-zip_with                        lists of one width, made from two
use Rattle.std.specs.Prelude.{◌≡◌, ℕ, zero, suc, ◌+◌, ◌*◌, ◌≤◌, length, get_or}
use Rattle.std.proofs.Math.Path.{refl, sym, ap}
use Rattle.std.proofs.Common.{◌∙◌, ap₂, append_assoc, zero-le, add_comm, zero-mul, suc-mul, arith, length-append, ⊎_elim}
use mathlib.Core.List.Memᴰ
use mathlib.Core.List.{List, [], ◌∷◌, ◌++◌, map, flatten, zip_with, Memᴰ}
use Rattle.std.proofs.lemmas.List.{map-append}
use Rattle.lists.specs.Everywhere.{All}
use Rattle.lists.specs.Images.{zip_with-nil, zip_with-append}

pub flatten-append : {A : Type 0} (ls ms : List (List A)) → flatten (ls ++ ms) ≡ flatten ls ++ flatten ms
unfolding flatten
flatten-append [] ms = refl
flatten-append (l ∷ ls) ms = ap (λ r. l ++ r) (flatten-append ls ms) ∙ sym (append_assoc l (flatten ls) (flatten ms))

-- Lists of lists of lists may be joined from the inside or from the outside.
pub flatten-flatten : {A : Type 0} (ls : List (List (List A))) → flatten (flatten ls) ≡ flatten (map flatten ls)
unfolding flatten
flatten-flatten [] = refl
flatten-flatten (l ∷ ls) = flatten-append l (flatten ls) ∙ ap (λ r. flatten l ++ r) (flatten-flatten ls)

pub flatten-map : {A B : Type 0} (f : A → B) (ls : List (List A)) → flatten (map (map f) ls) ≡ map f (flatten ls)
unfolding flatten
flatten-map f [] = refl
flatten-map f (l ∷ ls) = ap (λ r. map f l ++ r) (flatten-map f ls) ∙ sym (map-append f l (flatten ls))

pub flat-member : {A B : Type 0} (f : A → List B) {p : A} {r : B} (l : List A)
    → Memᴰ p l → Memᴰ r (f p) → Memᴰ r (flatten (map f l))
unfolding flatten
flat-member f [] m k = absurd (Memᴰ.not-nil m)
flat-member f {p} {r} (x ∷ l) m k =
    ⊎_elim (λ e. Memᴰ.append_left _ (rw e at k)) (λ q. Memᴰ.append_right (f x) (flat-member f l q k)) (Memᴰ.cases_cons m)

pub flat_origin : {A B : Type 0} (f : A → List B) {r : B} (l : List A)
    → Memᴰ r (flatten (map f l)) → (p : A) × Memᴰ p l × Memᴰ r (f p)
unfolding flatten
flat_origin f [] m = absurd (Memᴰ.not-nil m)
flat_origin {A = A} f {r} (x ∷ l) m =
    ⊎_elim (λ k. (x, Memᴰ.head refl, k)) (λ k. later (flat_origin f l k)) (Memᴰ.append_cases (f x) m)
  where
    later : (p : A) × Memᴰ p l × Memᴰ r (f p) → (p : A) × Memᴰ p (x ∷ l) × Memᴰ r (f p)
    later o = (o.0, Memᴰ.tail o.1, o.2)

-- ---- lists of one width

pub suc-width : (n k : ℕ) → suc n * k ≡ k + n * k
suc-width n k = suc-mul n k ∙ add_comm (n * k) k

pub length-flatten : {A : Type 0} (k : ℕ) (ls : List (List A)) → All (λ p. length p ≡ k) ls → length (flatten ls) ≡ length ls * k
unfolding flatten All
length-flatten k [] h = sym (zero-mul k)
length-flatten k (l ∷ ls) h =
    length-append l (flatten ls) ∙ ap₂ (λ a b. a + b) h.0 (length-flatten k ls h.1) ∙ sym (suc-width (length ls) k)

pub length-get_or-flatten : {A : Type 0} (l : List (List A)) (i : ℕ) → length (get_or l i []) ≤ length (flatten l)
unfolding flatten
length-get_or-flatten [] i = zero-le
length-get_or-flatten (x ∷ l) zero = omega (arith, length-append x (flatten l))
length-get_or-flatten (x ∷ l) (suc i) = step (length-get_or-flatten l i)
  where
    step : length (get_or l i []) ≤ length (flatten l) → length (get_or l i []) ≤ length (x ++ flatten l)
    step h = omega (arith, length-append x (flatten l))

module _ {A B C : Type 0} (f : A → B → C) where
  -- Lists of lists of one width, joined after or before.
  pub flatten-zip_with : (k : ℕ) (ls : List (List A)) (ms : List (List B)) → All (λ l. length l ≡ k) ls → All (λ m. length m ≡ k) ms
      → flatten (zip_with (zip_with f) ls ms) ≡ zip_with f (flatten ls) (flatten ms)
  unfolding flatten zip_with All
  flatten-zip_with k [] ms h g = refl
  flatten-zip_with k (l ∷ ls) [] h g = sym (zip_with-nil f (l ++ flatten ls))
  flatten-zip_with k (l ∷ ls) (m ∷ ms) h g =
      ap (λ r. zip_with f l m ++ r) (flatten-zip_with k ls ms h.1 g.1)
      ∙ sym (zip_with-append f l (flatten ls) m (flatten ms) (h.0 ∙ sym g.0))
