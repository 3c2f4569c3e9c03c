-- A list into which a part has been pasted.
--
-- Main statements
--   paste-later, take-paste-later, drop-paste-later   what stands before the part
--   paste-first, paste-whole               a part pasted at the front, and over the whole
--   paste-rest, take-paste-within          what stands past the part, and the front that holds it
--   paste-cons, paste-twice                one member and then others; a second part behind a first one
--   every-paste                            a test that all pass
--   sets-append, sets-out, sets-later      members set one after the other
--   parts-paste-in, parts-paste, parts-paste-end   the parts of one width: within part i, over part i, one part more
use Rattle.std.specs.Prelude.{◌≡◌, Bool, List, [], ◌∷◌, ◌++◌, T, get_or, drop, set}
use Rattle.std.proofs.Math.Path.{refl, ap, ap₂}
use Rattle.std.proofs.Common.{sym, ◌∙◌, append-nil, append_assoc, add-zero, add-suc, suc-add, add_assoc, zero-mul, suc-mul, le_of_eq, add-sub_of_le, add-one, arith, length-take, drop_of_length-le, length-take-le, take_all, drop-set-lt, take-suc-set, take-take, drop-drop, take-add, take_at, drop_at}
use Prim.Native.Nat.{ℕ, zero, suc, ◌+◌, ◌*◌, ◌-◌, ◌≤◌, ◌<◌, zero-le}
use Rattle.std.proofs.Math.Nat.{zero-add}
use Rattle.std.proofs.Math.ListN.{length, take, length-drop}
use Rattle.std.proofs.Math.Seq.{append_snoc, take-append-add, paste, set_out, length_paste_head}
use Rattle.std.proofs.lemmas.List.{set_comm}
use Rattle.std.proofs.lemmas.List.Edits.{sets, take-paste, drop-paste}
use Rattle.lists.specs.Tests.{every, every-join, every_take, every_drop}
use Rattle.lists.specs.Parts.{parts, get_or-parts, parts_more}
use Rattle.lists.specs.Joined.{suc-width}

module _ {A : Type 0} where
  -- A paste that begins past the first k members leaves them as they are.
  pub paste-later : (d : List A) (k a : ℕ) (s : List A) (n : ℕ) → paste d (k + a) s n ≡ take k d ++ paste (drop k d) a s n
  paste-later d k a s n =
      ap₂ (λ x y. x ++ take n s ++ y) (take-add k a d) (ap (λ j. drop j d) (add_assoc k a n) ∙ sym (drop-drop (a + n) k d))
      ∙ ap (λ x. x ++ drop (a + n) (drop k d)) (append_assoc (take k d) (take a (drop k d)) (take n s))
      ∙ append_assoc (take k d) (take a (drop k d) ++ take n s) (drop (a + n) (drop k d))

  pub take-paste-later : (d : List A) (k a : ℕ) (s : List A) (n : ℕ) → k ≤ length d → take k (paste d (k + a) s n) ≡ take k d
  take-paste-later d k a s n h =
      ap (take k) (paste-later d k a s n) ∙ take_at (take k d) (paste (drop k d) a s n) k (length-take-le k d h)

  pub drop-paste-later : (d : List A) (k a : ℕ) (s : List A) (n : ℕ) → k ≤ length d → drop k (paste d (k + a) s n) ≡ paste (drop k d) a s n
  drop-paste-later d k a s n h =
      ap (drop k) (paste-later d k a s n) ∙ drop_at (take k d) (paste (drop k d) a s n) k (length-take-le k d h)

  pub paste-first : (d s : List A) (k : ℕ) → length s ≡ k → paste d 0 s k ≡ s ++ drop k d
  paste-first d s k e = ap₂ (λ x y. x ++ drop y d) (take_all k s (le_of_eq e)) (zero-add k)

  -- A list that is replaced whole.
  pub paste-whole : (l p : List A) (k : ℕ) → length l ≤ k → length p ≡ k → paste l 0 p k ≡ p
  paste-whole l p k short long =
      ap₂ (λ s r. s ++ r) (take_all k p (le_of_eq long)) (ap (λ j. drop j l) (zero-add k) ∙ drop_of_length-le l short) ∙ append-nil p

-- The members past the pasted part.
pub paste-rest : {A : Type 0} (d : List A) (at : ℕ) (s : List A) (n i : ℕ) → at + n ≤ length d → n ≤ length s → at + n ≤ i
    → drop i (paste d at s n) ≡ drop i d
paste-rest d at s n i h g b =
    ap (λ j. drop j (paste d at s n)) (sym (add-sub_of_le b)) ∙ sym (drop-drop (i - (at + n)) (at + n) (paste d at s n))
    ∙ ap (drop (i - (at + n))) (drop-paste d at s n (omega arith) g) ∙ drop-drop (i - (at + n)) (at + n) d
    ∙ ap (λ j. drop j d) (add-sub_of_le b)

-- The front of a list into which a part of that front has been pasted.
pub take-paste-within : {A : Type 0} (d : List A) (at : ℕ) (s : List A) (n k : ℕ) → n ≤ length s → at + n ≤ k → k ≤ length d
    → take k (paste d at s n) ≡ paste (take k d) at s n
take-paste-within d at s n k g b h =
    ap (λ j. take j (paste d at s n)) (sym total) ∙ take-append-add (take at d ++ take n s) (drop (at + n) d) (k - (at + n))
    ∙ ap₂ (λ x y. x ++ take n s ++ y) (sym (take-take at k d (omega arith))) (sym past)
  where
    total : length (take at d ++ take n s) + (k - (at + n)) ≡ k
    total = rw (length_paste_head d at s n (omega arith) g) (add-sub_of_le b)

    past : drop (at + n) (take k d) ≡ take (k - (at + n)) (drop (at + n) d)
    past =
        ap (λ j. drop (at + n) (take j d)) (sym (add-sub_of_le b)) ∙ ap (drop (at + n)) (take-add (at + n) (k - (at + n)) d)
        ∙ drop_at (take (at + n) d) (take (k - (at + n)) (drop (at + n) d)) (at + n) (length-take-le (at + n) d (omega arith))

pub paste-cons : {A : Type 0} (d : List A) (at : ℕ) (x : A) (s : List A) (n : ℕ) → at < length d
    → paste (set d at x) (at + 1) s n ≡ paste d at (x ∷ s) (suc n)
paste-cons d at x s n h =
    ap₂ (λ a b. a ++ take n s ++ b) front (drop-set-lt (at + 1 + n) d at x (omega arith) ∙ ap (λ j. drop j d) next)
    ∙ ap (λ a. a ++ drop (at + suc n) d) (append_snoc (take at d) x (take n s))
  where
    next : at + 1 + n ≡ at + suc n
    next = omega arith

    front : take (at + 1) (set d at x) ≡ take at d ++ (x ∷ [])
    front = rw add-one (take-suc-set d at x h)

-- A second part behind a first one.
pub paste-twice : {A : Type 0} (store p q : List A) (n k : ℕ) → n ≤ length p
    → paste (paste store 0 p n) n q k ≡ take n p ++ take k q ++ drop (n + k) store
paste-twice {A = A} store p q n k h = ap₂ (λ s r. s ++ take k q ++ r) front behind
  where
    first : List A
    first = paste store 0 p n

    front : take n first ≡ take n p
    front = ap (λ i. take i first) (sym (zero-add n)) ∙ take-paste store 0 p n zero-le h

    behind : drop (n + k) first ≡ drop (n + k) store
    behind =
        sym (drop-drop k n first)
        ∙ ap (drop k) (ap (λ i. drop i first) (sym (zero-add n)) ∙ drop-paste store 0 p n zero-le h ∙ ap (λ i. drop i store) (zero-add n))
        ∙ drop-drop k n store

pub every-paste : {A : Type 0} (t : A → Bool) (d : List A) (at : ℕ) (s : List A) (n : ℕ) → T (every t d) → T (every t s)
    → T (every t (paste d at s n))
every-paste t d at s n h g =
    every-join t (take at d ++ take n s) (drop (at + n) d)
    (every-join t (take at d) (take n s) (every_take t at d h) (every_take t n s g)) (every_drop t (at + n) d h)

-- ---- members set one after the other

pub sets-append : {A : Type 0} (d : List A) (at : ℕ) (xs ys : List A) → sets (sets d at xs) (at + length xs) ys ≡ sets d at (xs ++ ys)
sets-append d at [] ys = ap (λ n. sets d n ys) (add-zero at)
sets-append d at (x ∷ xs) ys =
    ap (λ n. sets (sets d at (x ∷ xs)) n ys) (add-suc at (length xs) ∙ sym (suc-add at (length xs))) ∙ sets-append _ (suc at) xs ys

-- Nothing is set past the end.
pub sets-out : {A : Type 0} (d : List A) (at : ℕ) (xs : List A) → length d ≤ at → sets d at xs ≡ d
sets-out d at [] h = refl
sets-out d at (x ∷ xs) h = ap (λ l. sets l (suc at) xs) (set_out d at x h) ∙ sets-out d (suc at) xs (omega arith)

-- A member set past them may be set before them.
pub sets-later : {A : Type 0} (d : List A) (at : ℕ) (xs : List A) (i : ℕ) (b : A) → at + length xs ≤ i → set (sets d at xs) i b
    ≡ sets (set d i b) at xs
sets-later d at [] i b h = refl
sets-later d at (x ∷ xs) i b h =
    sets-later (set d at x) (suc at) xs i b (omega arith) ∙ ap (λ l. sets l (suc at) xs) (set_comm d at i x b (λ e. omega arith))

-- ---- parts of one width

module _ {A : Type 0} where
  -- A part replaced within the i-th of the parts of width k.
  pub parts-paste-in : (k n i j : ℕ) (l p : List A) (w : ℕ) → i < n → j + w ≤ k → n * k ≤ length l → w ≤ length p
      → parts k n (paste l (i * k + j) p w) ≡ set (parts k n l) i (paste (get_or (parts k n l) i []) j p w)
  unfolding parts
  parts-paste-in k zero i j l p w h inside enough long = absurd (omega arith)
  parts-paste-in k (suc n) zero j l p w h inside enough long =
      ap (λ at. parts k (suc n) (paste l at p w)) e
      ∙ ap₂ (λ t r. t ∷ parts k n r) (take-paste-within l j p w k long inside fits) (paste-rest l j p w k (omega (arith, fits)) long inside)
    where
      e : 0 * k + j ≡ j
      e = ap (λ z. z + j) (zero-mul k) ∙ zero-add j

      fits : k ≤ length l
      fits = omega (arith, suc-mul n k)
  parts-paste-in k (suc n) (suc i) j l p w h inside enough long =
      ap (λ at. parts k (suc n) (paste l at p w)) e
      ∙ ap₂ (λ t r. t ∷ parts k n r) (take-paste-later l k (i * k + j) p w fits) (drop-paste-later l k (i * k + j) p w fits)
      ∙ ap (λ r. take k l ∷ r) (parts-paste-in k n i j (drop k l) p w (omega arith) inside rest long)
    where
      e : suc i * k + j ≡ k + (i * k + j)
      e = omega (arith, suc-mul i k)

      fits : k ≤ length l
      fits = omega (arith, suc-mul n k)

      rest : n * k ≤ length (drop k l)
      rest = rw (length-drop k l) (omega (arith, suc-mul n k))

  -- One part of width k, pasted over part i.
  pub parts-paste : (k n : ℕ) (d s : List A) (i : ℕ) → length s ≡ k → n * k ≤ length d → i < n
      → parts k n (paste d (i * k) s k) ≡ set (parts k n d) i s
  parts-paste k n d s i e h b =
      ap (λ at. parts k n (paste d at s k)) (sym (add-zero (i * k))) ∙ parts-paste-in k n i 0 d s k b (omega arith) h (le_of_eq (sym e))
      ∙ ap (set (parts k n d) i) (paste-whole (get_or (parts k n d) i []) s k short e)
    where
      short : length (get_or (parts k n d) i []) ≤ k
      short = rw (get_or-parts k n d i b, length-take) (omega arith)

  pub parts-paste-past : (k n : ℕ) (d s : List A) (j : ℕ) → n * k ≤ length d → parts k n (paste d (n * k) s j) ≡ parts k n d
  unfolding parts
  parts-paste-past k zero d s j h = refl
  parts-paste-past k (suc n) d s j h =
      ap (λ i. parts k (suc n) (paste d i s j)) (suc-width n k)
      ∙ ap₂ (λ x y. x ∷ parts k n y) (take-paste-later d k (n * k) s j fits.0) (drop-paste-later d k (n * k) s j fits.0)
      ∙ ap (λ r. take k d ∷ r) (parts-paste-past k n (drop k d) s j fits.1)
    where
      fits : (k ≤ length d) × (n * k ≤ length (drop k d))
      fits = simp length-drop (omega (arith, suc-width n k))

  -- A part pasted past the first n is part n of the new list.
  pub parts-paste-end : (k n : ℕ) (d s : List A) → length s ≡ k → n * k + k ≤ length d
      → parts k (suc n) (paste d (n * k) s k) ≡ parts k n d ++ (s ∷ [])
  parts-paste-end k n d s e h =
      parts_more k n (paste d (n * k) s k)
      ∙ ap₂ (λ x y. x ++ (y ∷ [])) (parts-paste-past k n d s k (omega arith)) (part-here (n * k) (omega arith))
    where
      part-here : (at : ℕ) → at ≤ length d → take k (drop at (paste d at s k)) ≡ s
      part-here at b =
          ap (λ i. take k (drop at (paste d i s k))) (sym (add-zero at)) ∙ ap (take k) (drop-paste-later d at 0 s k b)
          ∙ ap (take k) (paste-first (drop at d) s k e) ∙ take_at s (drop k (drop at d)) k e
