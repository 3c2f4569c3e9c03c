-- Relations listed in the relation store, one for each root, all with the same row.
--
-- Main definitions
--   relations_at_of r l            the relations of row r, one at each n0 in l
--   Relisted count row l a b   the relation store b is the store a with those relations listed past the first `count`
--
-- Main statements
--   listed-first, listed-last  the k-th number in the order of a side; held-first, held-last of roots in their array
--   relisted-none, relisted-more   no root, and one root more
--   every-listing              what all roots pass, they pass in the order of a side
use Rattle.std.specs.Prelude.{ℕ, suc, ◌+◌, ◌*◌, ◌-◌, ◌≤◌, ◌<◌, ◌≡◌, refl, Bool, List, [], ◌∷◌, ◌++◌, map, T, ℤ, pos, nat_abs, length, take, get_or}
use Rattle.std.proofs.Common.{add-zero, le_of_eq, add-one, arith, sym, ◌∙◌, ap, subst, append_assoc, append-nil, le→leb, length-append, take-suc, get_or-take, length-take-le}
use Rattle.std.proofs.lemmas.List.{map-append, length-map, length-reverse}
use Rattle.std.proofs.Math.Seq.{paste}
use Rattle.lists.specs.Tests.{T-&&, every, every-reverse}
use Rattle.rules.specs.Limits.{bound, row_length, relation_length, small}
use Rattle.rules.specs.Rows.{Row, Relation}
use Rattle.lists.specs.Images.{get_or_map, get_or_reverse}
use Rattle.multiplicities.specs.declared.RootsWith.{RootsWith}
use Rattle.multiplicities.specs.Counts.{no_root, roots_held}
use Rattle.rules.specs.Elimination.{Side, leading, trailing, listing}
use Rattle.rules.specs.Stores.{row_of, relation_of, relations_of, relation_need}
use Rattle.polynomials.specs.Content.{small_at}
use Rattle.sides.specs.Lent.{Listing, Kept}
use Rattle.sides.specs.StoreStates.{relations_of-paste, kept_same, kept_then, kept-paste, listing-paste}

-- ---- the roots in the order of a side

pub listed-first : (l : List ℤ) (n k : ℕ) → k < n → get_or (listing leading (take n l)) k (pos 0) ≡ get_or l k (pos 0)
unfolding listing
listed-first l n k h = get_or-take n l k (pos 0) h

pub listed-last : (l : List ℤ) (n k : ℕ) → n ≤ length l → k < n → get_or (listing trailing (take n l)) k (pos 0) ≡ get_or l (n - 1 - k) (pos 0)
unfolding listing
listed-last l n k g h =
    let size : length (take n l) ≡ n = length-take-le n l g in
    let place : n - suc k ≡ n - 1 - k = omega arith in
    get_or_reverse (pos 0) (take n l) k (rw size h) ∙ ap (λ j. get_or (take n l) (j - suc k) (pos 0)) size
    ∙ get_or-take n l (n - suc k) (pos 0) (omega arith) ∙ ap (λ j. get_or l j (pos 0)) place

-- The same of roots in their array.
module _ (w : RootsWith) (long : length w.roots ≡ 16) (few : w.count ≤ 16) where
  pub length-held : length (roots_held w) ≡ w.count
  length-held = length-map (take w.count w.roots) (λ r. r.value) ∙ length-take-le w.count w.roots (omega arith)

  held-at : (k : ℕ) → k < w.count → get_or (roots_held w) k (pos 0) ≡ (get_or w.roots k no_root).value
  held-at k h =
      get_or_map (λ r. r.value) (take w.count w.roots) k no_root (pos 0) (subst (λ n. k < n) (sym (length-take-le w.count w.roots (omega arith))) h)
      ∙ ap (λ r. r.value) (get_or-take w.count w.roots k no_root h)

  pub held-first : (k : ℕ) → k < w.count → get_or (listing leading (roots_held w)) k (pos 0) ≡ (get_or w.roots k no_root).value
  unfolding listing
  held-first k h = held-at k h

  pub held-last : (k : ℕ) → k < w.count
      → get_or (listing trailing (roots_held w)) k (pos 0) ≡ (get_or w.roots (w.count - 1 - k) no_root).value
  unfolding listing
  held-last k h =
      let place : length (roots_held w) - suc k ≡ w.count - 1 - k = omega (arith, length-held) in
      get_or_reverse (pos 0) (roots_held w) k (rw length-held h) ∙ ap (λ j. get_or (roots_held w) j (pos 0)) place
      ∙ held-at (w.count - 1 - k) (omega arith)

pub length-listing : (side : Side) (l : List ℤ) → length (listing side l) ≡ length l
unfolding listing
length-listing leading l = refl
length-listing trailing l = length-reverse l

pub every-listing : (side : Side) (t : ℤ → Bool) (l : List ℤ) → T (every t l) → T (every t (listing side l))
unfolding listing
every-listing leading t l h = h
every-listing trailing t l h = every-reverse t l h

-- ---- the store

abbrev pub relations_at_of : Row → List ℤ → List Relation
relations_at_of r l = map (λ n0. record { index = n0; row = r }) l

pub record Relisted (count : ℕ) (row l before after : List ℤ) : Type 0 where
  pub relations : relations_of (count + length l) after ≡ relations_of count before ++ relations_at_of (row_of row) l
  pub listing : Listing (count + length l) after
  pub kept : Kept relation_need before after

pub relisted-none : (count : ℕ) (row store : List ℤ) → Listing count store → Relisted count row [] store store
relisted-none count row store h =
    record {
      relations = ap (λ n. relations_of n store) (add-zero count) ∙ sym (append-nil (relations_of count store));
      listing = rw (add-zero count) h;
      kept = kept_same relation_need store;
    }

-- A relation more, with the index n0.
relisted-snoc : (count : ℕ) (row l before store : List ℤ) (n0 : ℤ) → Relisted count row l before store
    → count + length l < 16 → length row ≡ row_length → T (every small (n0 ∷ row))
    → Relisted count row (l ++ (n0 ∷ [])) before (paste store ((count + length l) * relation_length) (n0 ∷ row) relation_length)
unfolding relation_of
relisted-snoc count row l before store n0 h b e s =
    let place = count + length l in
    let numbers = n0 ∷ row in
    let relation : Relation = record { index = n0; row = row_of row } in
    record {
      relations =
          ap (λ n. relations_of n (paste store (place * relation_length) numbers relation_length)) size
          ∙ relations_of-paste place store numbers (ap suc e) (room place b h.listing.within.long)
          ∙ ap (λ r. r ++ (relation ∷ [])) h.relations
          ∙ append_assoc (relations_of count before) (relations_at_of (row_of row) l) (relation ∷ [])
          ∙ ap (λ r. relations_of count before ++ r) (sym (map-append (λ n0. record { index = n0; row = row_of row }) l (n0 ∷ [])));
      listing = rw size (listing-paste place store numbers h.listing (ap suc e) s b);
      kept =
          kept_then h.kept
          (kept-paste relation_need store h.listing.within (place * relation_length) numbers relation_length
          (le_of_eq (sym (ap suc e))) (below place b));
    }
  where
    size : count + length (l ++ (n0 ∷ [])) ≡ suc (count + length l)
    size = simp length-append (omega arith)

    below : (k : ℕ) → k < 16 → k * relation_length + relation_length ≤ relation_need
    below k h = omega arith

    room : (k : ℕ) → k < 16 → relation_need ≤ length store → k * relation_length + relation_length ≤ length store
    room k h g = omega arith

pub relisted-more : (count k : ℕ) (row l before store : List ℤ) → Relisted count row (take k l) before store
    → k < length l → count + k < 16 → length row ≡ row_length → T (every small row) → T (every small l)
    → Relisted count row (take (k + 1) l) before
    (paste store ((count + k) * relation_length) (get_or l k (pos 0) ∷ row) relation_length)
unfolding every small
relisted-more count k row l before store h g b e s t =
    let size : length (take k l) ≡ k = length-take-le k l (omega arith) in
    let number : T (small (get_or l k (pos 0))) = le→leb (nat_abs (get_or l k (pos 0))) bound (small_at l t k) in
    let both = (T-&& (small (get_or l k (pos 0))) (every small row)).1 (number, s) in
    let more = relisted-snoc count row (take k l) before store (get_or l k (pos 0)) h (rw size b) e both in
    rw (add-one, take-suc l k (pos 0)) (rw size at more)
