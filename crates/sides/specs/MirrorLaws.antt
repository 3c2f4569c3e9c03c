-- The mirror of the rows and of the relations that the lent stores hold, one after the other.
--
-- Main definitions
--   mirror_numbers D p           the numbers of the mirror of the row that p holds
--   mirror_relation_numbers D p   the numbers of the mirror of the relation that p holds
--   Changed k n a i g l l'      of n parts of width k of the store l those from part a on and before part i have been changed by g,
--                               which gives l'
--   RowsMirrored, RelationsMirrored   the store after the mirror, of the relations those from a place on: what it holds, and what has stayed
--
-- Main statements
--   changed-none, changed-next, changed-parts   no part changed, one part more, all parts
--   rows-mirrored, relations-mirrored           all parts mirrored
use Rattle.std.specs.Prelude.{ℕ, zero, suc, ◌+◌, ◌*◌, ◌-◌, ◌≤◌, ◌<◌, ◌≡◌, refl, List, [], ◌∷◌, ◌++◌, map, T, ℤ, pos, nat_abs, length, take, drop, get_or, set}
use Rattle.std.proofs.Common.{zero-le, not-suc-le-zero, le_of_suc-le-suc, le_of_eq, le_refl, suc-ne-zero, suc-mul, mul-le-mul_right, add-one, arith, sym, ◌∙◌, ap, subst, append-nil, length-drop, drop_of_length-le, length-take-le, take_all, take-take, drop-drop}
use Rattle.std.proofs.Math.Nat.{suc_inj}
use Rattle.std.proofs.Math.Path.{ap₂}
use Rattle.std.proofs.Math.IntN.{neg_ℤ}
use Rattle.std.proofs.Math.Seq.{paste}
use Rattle.algebra.specs.Integers.{nat_abs-neg_ℤ}
use Rattle.algebra.specs.Polynomials.{is_zero_of}
use Rattle.lists.specs.Tests.{T-&&, every, every_append, every-part}
use Rattle.rules.specs.Limits.{bound, row_length, relation_length, small}
use Rattle.rules.specs.Rows.{coefficients_of, small_row, mirror_row_of, mirror_relation}
use Rattle.lists.specs.Everywhere.{All}
use Rattle.lists.specs.Taken.{drop-take, first-and-rest, rest_of, rest-past}
use Rattle.rules.specs.Stores.{row_of, rows_of, relation_of, relations_of, relation_numbers, row_need, relation_need}
use Rattle.lists.specs.Parts.{parts, parts-length, parts-width, get_or-parts}
use Rattle.polynomials.specs.Content.{small_at}
use Rattle.stores.specs.Validity.{index_at, row-after}
use Rattle.working_rows.specs.Mirroring.{length-mirror_row, row_of-mirror_row, small-mirror_row}
use Rattle.sides.specs.Lent.{Within, Listing, Kept}
use Rattle.sides.specs.StoreStates.{part_small, within-paste, kept-paste, kept_same, kept_then}
use Rattle.lists.specs.Pasted.{parts-paste}

-- ---- parts of one width, changed one after the other

-- The list with g applied to its members from the a-th on and before the i-th.
unfoldable pub change_part : {A : Type 0} → (A → A) → ℕ → ℕ → List A → List A
change_part g a i l = take a l ++ (map g (drop a (take i l)) ++ drop i l)

change-none : {A : Type 0} (g : A → A) (l : List A) (a : ℕ) → change_part g a a l ≡ l
unfolding change_part
change-none g l zero = refl
change-none g [] (suc a) = refl
change-none g (x ∷ l) (suc a) = ap (λ r. x ∷ r) (change-none g l a)

change-next : {A : Type 0} (g : A → A) (l : List A) (a i : ℕ) (d : A) → a ≤ i → i < length l
    → set (change_part g a i l) i (g (get_or (change_part g a i l) i d)) ≡ change_part g a (suc i) l
unfolding change_part
change-next g [] a i d w h = absurd (not-suc-le-zero h)
change-next g (x ∷ l) zero zero d w h = refl
change-next g (x ∷ l) zero (suc i) d w h = ap (λ r. g x ∷ r) (change-next g l zero i d zero-le (le_of_suc-le-suc h))
change-next g (x ∷ l) (suc a) zero d w h = absurd (not-suc-le-zero w)
change-next g (x ∷ l) (suc a) (suc i) d w h = ap (λ r. x ∷ r) (change-next g l a i d (le_of_suc-le-suc w) (le_of_suc-le-suc h))

-- All from the a-th on.
abbrev pub change_from : {A : Type 0} → (A → A) → ℕ → List A → List A
change_from g a l = take a l ++ map g (drop a l)

change-all : {A : Type 0} (g : A → A) (l : List A) (a i : ℕ) → length l ≤ i → change_part g a i l ≡ change_from g a l
unfolding change_part
change-all g l a i h =
    ap₂ (λ p q. take a l ++ (map g (drop a p) ++ q)) (take_all i l h) (drop_of_length-le l h)
    ∙ ap (λ q. take a l ++ q) (append-nil (map g (drop a l)))

pub record Changed (k n a i : ℕ) (g : List ℤ → List ℤ) (before after : List ℤ) : Type 0 where
  pub changed : parts k n after ≡ change_part g a i (parts k n before)
  pub within : Within (n * k) after
  pub kept : Kept (n * k) before after

pub changed-none : (k n a : ℕ) (g : List ℤ → List ℤ) (store : List ℤ) → Within (n * k) store → Changed k n a a g store store
changed-none k n a g store w =
    record { changed = sym (change-none g (parts k n store) a); within = w; kept = kept_same (n * k) store }

-- g keeps the width k and the bound ±C.
abbrev pub Stays : ℕ → (List ℤ → List ℤ) → Type 0
Stays k g = (p : List ℤ) → length p ≡ k → T (every small p) → (length (g p) ≡ k) × T (every small (g p))

module _ (k n a : ℕ) (g : List ℤ → List ℤ) (stays : Stays k g) (before store : List ℤ) where
  pub changed-next : (i : ℕ) → a ≤ i → i < n → Changed k n a i g before store
      → Changed k n a (i + 1) g before (paste store (i * k) (g (take k (drop (i * k) store))) k)
  changed-next i from h c =
      record {
        changed =
            parts-paste k n store (g part) i kept-part.0 c.within.long h
            ∙ ap (λ p. set (parts k n store) i (g p)) (sym (get_or-parts k n store i h))
            ∙ ap (λ ps. set ps i (g (get_or ps i []))) c.changed
            ∙ change-next g (parts k n before) a i [] from (rw parts-length h)
            ∙ ap (λ j. change_part g a j (parts k n before)) (sym (add-one i));
        within = within-paste (n * k) store c.within (i * k) (g part) k long inside kept-part.1;
        kept = kept_then c.kept (kept-paste (n * k) store c.within (i * k) (g part) k long inside);
      }
    where
      part : List ℤ
      part = take k (drop (i * k) store)

      inside : i * k + k ≤ n * k
      inside = subst (λ j. j ≤ n * k) (suc-mul i k) (mul-le-mul_right k h)

      width : length part ≡ k
      width = length-take-le k (drop (i * k) store) (rw length-drop (omega (arith, c.within.long, inside)))

      kept-part : (length (g part) ≡ k) × T (every small (g part))
      kept-part = stays part width (part_small k n i store h c.within)

      long : k ≤ length (g part)
      long = le_of_eq (sym kept-part.0)

  pub changed-parts : (i : ℕ) → n ≤ i → Changed k n a i g before store → parts k n store ≡ change_from g a (parts k n before)
  changed-parts i h c = c.changed ∙ change-all g (parts k n before) a i (rw parts-length h)

-- A longer part of a store.
module _ (n need : ℕ) (inside : n ≤ need) where
  -- Within ±C, and only the first n numbers have changed.
  module _ (before after : List ℤ) (w : Within need before) (c : Within n after) (kept : Kept n before after) where
    rest-kept : drop n (take need after) ≡ drop n (take need before)
    rest-kept = rest_of n need inside after ∙ ap (take (need - n)) kept.same_rest ∙ sym (rest_of n need inside before)

    within-longer : Within need after
    within-longer =
        record {
          long = rw kept.same_length w.long;
          numbers = subst (λ l. T (every small l)) (sym (first-and-rest n need inside after)) both;
        }
      where
        rest : T (every small (take (need - n) (drop n after)))
        rest =
            subst (λ l. T (every small l))
            (ap (take (need - n)) (rest_of n need inside before) ∙ take-take (need - n) (need - n) (drop n before) (le_refl (need - n))
            ∙ ap (take (need - n)) (sym kept.same_rest))
            (every-part small n (need - n) (take need before) w.numbers)

        both : T (every small (take n after ++ take (need - n) (drop n after)))
        both = rw every_append ((T-&& (every small (take n after)) (every small (take (need - n) (drop n after)))).1 (c.numbers, rest))

    kept-longer : Kept need before after
    kept-longer =
        record {
          same_length = kept.same_length;
          same_rest = rest-past n need inside after ∙ ap (drop (need - n)) kept.same_rest ∙ sym (rest-past n need inside before);
        }

-- What the changed parts hold, each read by `decode`.
decode-changed : {B : Type 0} (k : ℕ) (decode : List ℤ → B) (g : List ℤ → List ℤ) (f : B → B)
    → ((p : List ℤ) → length p ≡ k → decode (g p) ≡ f (decode p))
    → (ps : List (List ℤ)) → All (λ p. length p ≡ k) ps → map decode (map g ps) ≡ map f (map decode ps)
unfolding All
decode-changed k decode g f e [] h = refl
decode-changed k decode g f e (p ∷ ps) h = ap₂ (λ x l. x ∷ l) (e p h.0) (decode-changed k decode g f e ps h.1)

decode-from : {B : Type 0} (k : ℕ) (decode : List ℤ → B) (g : List ℤ → List ℤ) (f : B → B)
    → ((p : List ℤ) → length p ≡ k → decode (g p) ≡ f (decode p))
    → (a : ℕ) (ps : List (List ℤ)) → All (λ p. length p ≡ k) ps → map decode (change_from g a ps) ≡ change_from f a (map decode ps)
unfolding All
decode-from k decode g f e zero ps h = decode-changed k decode g f e ps h
decode-from k decode g f e (suc a) [] h = refl
decode-from k decode g f e (suc a) (p ∷ ps) h = ap (λ l. decode p ∷ l) (decode-from k decode g f e a ps h.1)

-- ---- rows

abbrev pub mirror_numbers : ℕ → List ℤ → List ℤ
mirror_numbers D p = coefficients_of (mirror_row_of D (row_of p))

pub mirror-stays : (D : ℕ) → D ≤ 4 → Stays row_length (mirror_numbers D)
unfolding small_row
mirror-stays D few p e s = (length-mirror_row D p few e, small-mirror_row D p few e s)

pub record RowsMirrored (equations D : ℕ) (before after : List ℤ) : Type 0 where
  pub rows : rows_of equations after ≡ map (mirror_row_of D) (rows_of equations before)
  pub within : Within (row_need equations) after
  pub kept : Kept (row_need equations) before after

pub rows-mirrored : (equations D i : ℕ) (before after : List ℤ) → D ≤ 4 → Within (row_need equations) before → equations ≤ i
    → Changed row_length equations 0 i (mirror_numbers D) before after → RowsMirrored equations D before after
unfolding rows_of row_need
rows-mirrored equations D i before after few w h c =
    record {
      rows =
          ap (map row_of) (changed-parts row_length equations 0 (mirror_numbers D) (mirror-stays D few) before after i h c)
          ∙ decode-changed row_length row_of (mirror_numbers D) (mirror_row_of D) (λ p. row_of-mirror_row D p few)
          (parts row_length equations before)
          (parts-width row_length equations before w.long);
      within = c.within;
      kept = c.kept;
    }

-- ---- relations

abbrev pub mirror_relation_numbers : ℕ → List ℤ → List ℤ
mirror_relation_numbers D p = relation_numbers (mirror_relation D (relation_of p))

-- The places in use.
pub used-within : (count : ℕ) (store : List ℤ) → Listing count store → Within (count * relation_length) store
used-within count store l =
    record {
      long = omega (arith, l.few, l.within.long);
      numbers =
          subst (λ p. T (every small p)) (take-take (count * relation_length) relation_need store (omega (arith, l.few)))
          (every-part small 0 (count * relation_length) (take relation_need store) l.within.numbers);
    }

-- A relation as it is read from the store: n0 and then a row.
module _ (store : List ℤ) (at : ℕ) where
  abbrev relation : List ℤ
  relation = take relation_length (drop at store)

  pub index-small : T (every small relation) → nat_abs (get_or store at (pos 0)) ≤ bound
  unfolding relation_of
  index-small s = rw (index_at store at) at (small_at relation s 0)

  pub row_small : T (every small relation) → T (every small (take row_length (drop (at + 1) store)))
  row_small s =
      let row = ap (take row_length) (drop-take 1 row_length (drop at store))
      ∙ take-take row_length row_length (drop 1 (drop at store)) (le_refl row_length) in
      subst (λ l. T (every small l)) (row ∙ ap (take row_length) (drop-drop 1 at store)) (every-part small 1 row_length relation s)

  -- n0 negated and then the row's mirror.
  pub mirror-relation : (D : ℕ)
      → neg_ℤ (get_or store at (pos 0)) ∷ mirror_numbers D (take row_length (drop (at + 1) store)) ≡ mirror_relation_numbers D relation
  unfolding relation_numbers mirror_relation
  mirror-relation D =
      ap₂ (λ n0 r. neg_ℤ n0 ∷ coefficients_of (mirror_row_of D r)) (sym (index_at store at)) (sym (row-after store at))

pub relation-stays : (D : ℕ) → D ≤ 4 → Stays relation_length (mirror_relation_numbers D)
unfolding small_row every small relation_numbers mirror_relation relation_of
relation-stays D few [] e s = absurd (suc-ne-zero row_length (sym e))
relation-stays D few (n0 ∷ row) e s =
    let both = (T-&& (small n0) (every small row)).0 s in
    let long = suc_inj e in (
      ap suc (length-mirror_row D row few long),
      (T-&& (small (neg_ℤ n0)) (every small (mirror_numbers D row))).1 (rw nat_abs-neg_ℤ both.0, small-mirror_row D row few long both.1),
    )

relation_of-mirror_relation : (D : ℕ) → D ≤ 4 → (p : List ℤ) → length p ≡ relation_length
    → relation_of (mirror_relation_numbers D p) ≡ mirror_relation D (relation_of p)
unfolding relation_of relation_numbers mirror_relation
relation_of-mirror_relation D few p e =
    λ i. record { index = neg_ℤ (get_or p 0 (pos 0)); row = row_of-mirror_row D (drop 1 p) few (rw length-drop (omega arith)) i }

pub record RelationsMirrored (from count D : ℕ) (before after : List ℤ) : Type 0 where
  pub relations : relations_of count after ≡ change_from (mirror_relation D) from (relations_of count before)
  pub listing : Listing count after
  pub kept : Kept relation_need before after

pub relations-mirrored : (from count D i : ℕ) (before after : List ℤ) → D ≤ 4 → Listing count before → count ≤ i
    → Changed relation_length count from i (mirror_relation_numbers D) before after → RelationsMirrored from count D before after
unfolding relations_of
relations-mirrored from count D i before after few l h c =
    record {
      relations =
          ap (map relation_of) (changed-parts relation_length count from (mirror_relation_numbers D)
          (relation-stays D few) before after i h c)
          ∙ decode-from relation_length relation_of (mirror_relation_numbers D) (mirror_relation D)
          (relation_of-mirror_relation D few) from (parts relation_length count before)
          (parts-width relation_length count before (omega (arith, l.within.long)));
      listing =
          record {
            few = l.few;
            within = within-longer (count * relation_length) relation_need used before after l.within c.within c.kept;
            unused =
                subst (λ r. T (is_zero_of r)) (sym (rest-kept (count * relation_length) relation_need used before after
                l.within c.within c.kept))
                l.unused;
          };
      kept = kept-longer (count * relation_length) relation_need used before after l.within c.within c.kept;
    }
  where
    used : count * relation_length ≤ relation_need
    used = omega (arith, l.few)
