-- A list in parts of one width.
--
-- Main definitions
--   parts k n l                            the first n parts of k members each
--
-- Main statements
--   parts-length, parts-width, parts-short  `parts k n l` has n members, each of length k where l is long enough
--   flatten-parts, parts-flatten           the parts joined are the front of l; lists of one width, joined, are parted again
--   get_or-parts, part-flatten               part i begins at i * k
--   parts_more, parts_next, parts-end      the last part, and the parts from i on
--   parts-append, parts-take, parts-parts, take-parts   more parts, fewer, parts of parts
--   read-written, write_read, length-written, length-read, all_read   things of one width, written end to end and read again
--   held_next, held-end, held-every        what the parts hold, one after the other
use Rattle.std.specs.Prelude.{◌≡◌, Bool, T, get_or}
use Rattle.std.proofs.Math.Path.{refl, sym, ap, ap₂}
use Rattle.std.proofs.Common.{◌∙◌, suc-ne-zero, zero-add, suc-add, zero-mul, le_of_suc-le-suc, not-suc-le-zero, le_refl, arith, drop_of_length-le, length-take-le, take-take, drop-drop, take-add, take_at, drop_at}
use mathlib.Core.List.{List, [], ◌∷◌, ◌++◌, map, flatten, append_assoc}
use Prim.Native.Nat.{ℕ, zero, suc, ◌+◌, ◌*◌, ◌-◌, ◌≤◌, ◌<◌}
use Rattle.std.proofs.Math.Nat.{suc_inj}
use Rattle.std.proofs.Math.ListN.{length, take, drop, length-take, length-drop}
use Rattle.std.proofs.lemmas.List.{length-map}
use Rattle.lists.specs.Joined.{suc-width, length-flatten}
use Rattle.lists.specs.Everywhere.{All, all-mono, map-keeps}
use Rattle.lists.specs.Taken.{drop-take, drop-next}
use Rattle.lists.specs.Images.{map_back, map-drop}
use Rattle.lists.specs.Tests.{T-&&, every, every_drop}

-- The first n parts of k members each.
unfoldable pub parts : {A : Type 0} → ℕ → ℕ → List A → List (List A)
parts k zero l = []
parts k (suc n) l = take k l ∷ parts k n (drop k l)

module _ {A : Type 0} where
  pub parts-length : (k n : ℕ) (l : List A) → length (parts k n l) ≡ n
  unfolding parts
  parts-length k zero l = refl
  parts-length k (suc n) l = ap suc (parts-length k n (drop k l))

  pub flatten-parts : (k n : ℕ) (l : List A) → flatten (parts k n l) ≡ take (n * k) l
  unfolding parts flatten
  flatten-parts k zero l = ap (λ j. take j l) (sym (zero-mul k))
  flatten-parts k (suc n) l =
      ap (λ r. take k l ++ r) (flatten-parts k n (drop k l)) ∙ sym (take-add k (n * k) l) ∙ ap (λ j. take j l) (sym (suc-width n k))

  pub parts-width : (k n : ℕ) (l : List A) → n * k ≤ length l → All (λ p. length p ≡ k) (parts k n l)
  unfolding parts All
  parts-width k zero l h = tt
  parts-width k (suc n) l h = (length-take-le k l fits.0, parts-width k n (drop k l) fits.1)
    where
      fits : (k ≤ length l) × (n * k ≤ length (drop k l))
      fits = simp length-drop (omega (arith, suc-width n k))

  -- Where l is not long enough, the parts are shorter.
  pub parts-short : (k n : ℕ) (l : List A) → All (λ p. length p ≤ k) (parts k n l)
  unfolding parts All
  parts-short k zero l = tt
  parts-short k (suc n) l = (rw length-take (omega arith), parts-short k n (drop k l))

  -- Lists of width k that were joined are parted again, whatever follows.
  pub parts-flatten : (k n : ℕ) (ls : List (List A)) (rest : List A) → length ls ≡ n → All (λ p. length p ≡ k) ls
      → parts k n (flatten ls ++ rest) ≡ ls
  unfolding parts flatten All
  parts-flatten k zero [] rest e h = refl
  parts-flatten k (suc n) [] rest e h = absurd (suc-ne-zero n (sym e))
  parts-flatten k zero (l ∷ ls) rest e h = absurd (suc-ne-zero (length ls) e)
  parts-flatten k (suc n) (l ∷ ls) rest e h =
      ap (λ s. take k s ∷ parts k n (drop k s)) (append_assoc l (flatten ls) rest)
      ∙ ap₂ (λ p s. p ∷ parts k n s) (take_at l (flatten ls ++ rest) k h.0) (drop_at l (flatten ls ++ rest) k h.0)
      ∙ ap (λ r. l ∷ r) (parts-flatten k n ls rest (suc_inj e) h.1)

  pub get_or-parts : (k n : ℕ) (l : List A) (i : ℕ) → i < n → get_or (parts k n l) i [] ≡ take k (drop (i * k) l)
  unfolding parts
  get_or-parts k zero l i h = absurd (not-suc-le-zero h)
  get_or-parts k (suc n) l zero h = ap (λ j. take k (drop j l)) (sym (zero-mul k))
  get_or-parts k (suc n) l (suc i) h =
      get_or-parts k n (drop k l) i (le_of_suc-le-suc h)
      ∙ ap (take k) (drop-drop (i * k) k l ∙ ap (λ j. drop j l) (sym (suc-width i k)))

  -- The parts before part n, and part n.
  pub parts_more : (k n : ℕ) (l : List A) → parts k (suc n) l ≡ parts k n l ++ (take k (drop (n * k) l) ∷ [])
  unfolding parts
  parts_more k zero l = ap (λ j. take k (drop j l) ∷ []) (sym (zero-mul k))
  parts_more k (suc n) l =
      ap (λ r. take k l ∷ r) (parts_more k n (drop k l))
      ∙ ap (λ r. take k l ∷ (parts k n (drop k l) ++ (take k r ∷ []))) (drop-drop (n * k) k l ∙ ap (λ j. drop j l) (sym (suc-width n k)))

  pub parts-append : (k n m : ℕ) (l : List A) → parts k (n + m) l ≡ parts k n l ++ parts k m (drop (n * k) l)
  unfolding parts
  parts-append k zero m l = ap₂ (λ j i. parts k j (drop i l)) (zero-add m) (sym (zero-mul k))
  parts-append k (suc n) m l =
      ap (λ j. parts k j l) (suc-add n m) ∙ ap (λ r. take k l ∷ r) (parts-append k n m (drop k l))
      ∙ ap (λ r. take k l ∷ (parts k n (drop k l) ++ parts k m r)) (drop-drop (n * k) k l ∙ ap (λ j. drop j l) (sym (suc-width n k)))

  pub parts-take : (k n j : ℕ) (l : List A) → n * k ≤ j → parts k n (take j l) ≡ parts k n l
  unfolding parts
  parts-take k zero j l h = refl
  parts-take k (suc n) j l h =
      ap₂ (λ p q. p ∷ q) (take-take k j l fits.0)
      (ap (parts k n) (ap (λ i. drop k (take i l)) fits.2 ∙ drop-take k (j - k) l) ∙ parts-take k n (j - k) (drop k l) fits.1)
    where
      fits : (k ≤ j) × (n * k ≤ j - k) × (j ≡ k + (j - k))
      fits = omega (arith, suc-width n k)

  pub parts-parts : (k n m : ℕ) (l : List A) → flatten (map (parts k n) (parts (n * k) m l)) ≡ parts k (m * n) l
  unfolding parts flatten
  parts-parts k n zero l = ap (λ j. parts k j l) (sym (zero-mul n))
  parts-parts k n (suc m) l =
      ap₂ ◌++◌ (parts-take k n (n * k) l (le_refl (n * k))) (parts-parts k n m (drop (n * k) l)) ∙ sym (parts-append k n (m * n) l)
      ∙ ap (λ j. parts k j l) (sym (suc-width m n))

pub take-parts : {A : Type 0} (k n j : ℕ) (l : List A) → j ≤ n → take j (parts k n l) ≡ parts k j l
unfolding parts
take-parts k n zero l h = refl
take-parts k zero (suc j) l h = absurd (not-suc-le-zero h)
take-parts k (suc n) (suc j) l h = ap (λ r. take k l ∷ r) (take-parts k n j (drop k l) (le_of_suc-le-suc h))

-- The parts from i on are part i and those from i + 1 on.
pub parts_next : {A : Type 0} (k n : ℕ) (l : List A) (i : ℕ) → i < n
    → drop i (parts k n l) ≡ take k (drop (i * k) l) ∷ drop (i + 1) (parts k n l)
parts_next k n l i h =
    drop-next (parts k n l) i [] (rw parts-length h) ∙ ap (λ p. p ∷ drop (i + 1) (parts k n l)) (get_or-parts k n l i h)

pub parts-end : {A : Type 0} (k n : ℕ) (l : List A) (i : ℕ) → n ≤ i → drop i (parts k n l) ≡ []
parts-end k n l i h = drop_of_length-le (parts k n l) {i = i} (rw parts-length h)

module _ {A : Type 0} (k : ℕ) where
  pub part-flatten : (n : ℕ) (ls : List (List A)) (rest : List A) → length ls ≡ n → All (λ p. length p ≡ k) ls → (i : ℕ) → i < n
      → take k (drop (i * k) (flatten ls ++ rest)) ≡ get_or ls i []
  part-flatten n ls rest e h i below =
      sym (get_or-parts k n (flatten ls ++ rest) i below) ∙ ap (λ ps. get_or ps i []) (parts-flatten k n ls rest e h)

-- ---- things of one width, written end to end

-- B's members are written by `encode`, k numbers each, and read by `decode`.
module _ {A B : Type 0} (k : ℕ) (decode : List A → B) (encode : B → List A) where
  pub widths : (P : B → Type 0) → ((x : B) → P x → length (encode x) ≡ k) → (xs : List B) → All P xs
      → All (λ p. length p ≡ k) (map encode xs)
  widths P width xs h = map-keeps P (λ p. length p ≡ k) encode width xs h

  -- What is written is read back, whatever follows it.
  pub read-written : (P : B → Type 0) → ((x : B) → P x → decode (encode x) ≡ x) → ((x : B) → P x → length (encode x) ≡ k)
      → (n : ℕ) (xs : List B) (rest : List A) → length xs ≡ n → All P xs → map decode (parts k n (flatten (map encode xs) ++ rest)) ≡ xs
  read-written P back width n xs rest e h =
      ap (map decode) (parts-flatten k n (map encode xs) rest (length-map xs encode ∙ e) (widths P width xs h))
      ∙ map_back encode decode xs (all-mono P (λ x. decode (encode x) ≡ x) back xs h)

  pub length-written : (P : B → Type 0) → ((x : B) → P x → length (encode x) ≡ k)
      → (xs : List B) → All P xs → length (flatten (map encode xs)) ≡ length xs * k
  length-written P width xs h =
      length-flatten k (map encode xs) (widths P width xs h) ∙ ap (λ n. n * k) (length-map xs encode)

  pub length-read : (n : ℕ) (l : List A) → length (map decode (parts k n l)) ≡ n
  length-read n l = length-map (parts k n l) decode ∙ parts-length k n l

  pub all_read : (P : B → Type 0) → ((p : List A) → length p ≡ k → P (decode p))
      → (n : ℕ) (l : List A) → n * k ≤ length l → All P (map decode (parts k n l))
  all_read P each n l h = map-keeps (λ p. length p ≡ k) P decode each (parts k n l) (parts-width k n l h)

  -- What is read is written again as it was.
  pub write_read : (P : List A → Type 0) → ((l : List A) → P l → encode (decode l) ≡ l)
      → (n : ℕ) (l : List A) → All P (parts k n l) → flatten (map encode (map decode (parts k n l))) ≡ take (n * k) l
  write_read P back n l h =
      ap flatten (map_back decode encode (parts k n l) (all-mono P (λ l. encode (decode l) ≡ l) back (parts k n l) h)) ∙ flatten-parts k n l

-- What the parts from i on hold.
pub held_next : {A B : Type 0} (f : List A → B) (k n : ℕ) (l : List A) (i : ℕ) → i < n
    → drop i (map f (parts k n l)) ≡ f (take k (drop (i * k) l)) ∷ drop (i + 1) (map f (parts k n l))
held_next f k n l i h =
    map-drop f i (parts k n l) ∙ ap (map f) (parts_next k n l i h)
    ∙ ap (λ r. f (take k (drop (i * k) l)) ∷ r) (sym (map-drop f (i + 1) (parts k n l)))

pub held-end : {A B : Type 0} (f : List A → B) (k n : ℕ) (l : List A) (i : ℕ) → n ≤ i → drop i (map f (parts k n l)) ≡ []
held-end f k n l i h = map-drop f i (parts k n l) ∙ ap (map f) (parts-end k n l i h)

-- What all of it passes, part i passes.
pub held-every : {A B : Type 0} (t : B → Bool) (f : List A → B) (k n : ℕ) (l : List A) → T (every t (map f (parts k n l)))
    → (i : ℕ) → i < n → T (t (f (take k (drop (i * k) l))))
unfolding every
held-every t f k n l h i g =
    ((T-&& (t (f (take k (drop (i * k) l)))) (every t (drop (i + 1) (map f (parts k n l))))).0
    (rw (held_next f k n l i g) at (every_drop t i (map f (parts k n l)) h))
    ).0
