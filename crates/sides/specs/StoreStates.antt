-- The state of a run as the lent stores hold it, and what storing a row or a relation does to it.
--
-- Main statements
--   rows_of-paste        a row stored at its place is set in the list of rows
--   relations_of-paste   a relation stored past the last one is appended to the list of relations
--   part_small          a part of a store within ±C is within ±C
--   within-paste, kept-paste, kept_same, kept_then   stores within ±C, and what they keep
--   listing-paste       one relation more is listed
use Rattle.std.specs.Prelude.{ℕ, suc, ◌+◌, ◌*◌, ◌≤◌, ◌<◌, ◌≡◌, refl, List, [], ◌∷◌, ◌++◌, map, ℤ, T, length, take, drop, get_or, set}
use Rattle.std.proofs.Common.{sym, ◌∙◌, ap, subst, suc-mul, le_refl, le_of_eq, arith, length-take-le, drop-drop}
use Rattle.std.proofs.lemmas.List.{map-append}
use Rattle.std.proofs.Math.Seq.{paste}
use Rattle.std.proofs.lemmas.List.Edits.{drop-paste, length-paste}
use Rattle.algebra.specs.Polynomials.{is_zero_of, is_zero_ℤ}
use Rattle.rules.specs.Limits.{row_length, relation_length, small}
use Rattle.lists.specs.Tests.{every, every_drop, every-part}
use Rattle.lists.specs.Images.{map-set}
use Rattle.rules.specs.Stores.{row_of, rows_of, relation_of, relations_of, relation_need}
use Rattle.lists.specs.Parts.{parts, get_or-parts, parts-take}
use Rattle.stores.specs.Flat.{is_zero-every}
use Rattle.lists.specs.Pasted.{paste-rest, take-paste-within, every-paste, parts-paste, parts-paste-end}
use Rattle.sides.specs.Lent.{Within, Listing, Kept}

-- ---- parts of a list into which one part has been pasted

pub rows_of-paste : (equations : ℕ) (store row : List ℤ) (i : ℕ) → length row ≡ row_length → equations * row_length ≤ length store
    → i < equations
    → rows_of equations (paste store (i * row_length) row row_length) ≡ set (rows_of equations store) i (row_of row)
unfolding rows_of
rows_of-paste equations store row i e h b =
    ap (map row_of) (parts-paste row_length equations store row i e h b) ∙ map-set row_of (parts row_length equations store) i row

-- ---- relations: one more part at the end

pub relations_of-paste : (count : ℕ) (store numbers : List ℤ) → length numbers ≡ relation_length
    → count * relation_length + relation_length ≤ length store
    → relations_of (suc count) (paste store (count * relation_length) numbers relation_length)
    ≡ relations_of count store ++ (relation_of numbers ∷ [])
unfolding relations_of
relations_of-paste count store numbers e h =
    ap (map relation_of) (parts-paste-end relation_length count store numbers e h)
    ∙ map-append relation_of (parts relation_length count store) (numbers ∷ [])

-- ---- numbers within ±C, and unused places

-- A part of a store within ±C.
pub part_small : (k n i : ℕ) (store : List ℤ) → i < n → Within (n * k) store → T (every small (take k (drop (i * k) store)))
part_small k n i store h w =
    subst (λ p. T (every small p)) same (every-part small (i * k) k (take (n * k) store) w.numbers)
  where
    same : take k (drop (i * k) (take (n * k) store)) ≡ take k (drop (i * k) store)
    same =
        sym (get_or-parts k n (take (n * k) store) i h) ∙ ap (λ ps. get_or ps i []) (parts-take k n (n * k) store (le_refl (n * k)))
        ∙ get_or-parts k n store i h

-- A store within ±C, with a part of its needed numbers overwritten by others within ±C.
module _ (need : ℕ) (store : List ℤ) (w : Within need store) (at : ℕ) (s : List ℤ) (n : ℕ) (g : n ≤ length s) (b : at + n ≤ need) where
  pub within-paste : T (every small s) → Within need (paste store at s n)
  within-paste h =
      record {
        long = rw (length-paste store at s n (omega arith) g) w.long;
        numbers =
            subst (λ l. T (every small l)) (sym (take-paste-within store at s n need g b w.long))
            (every-paste small (take need store) at s n w.numbers h);
      }

  pub kept-paste : Kept need store (paste store at s n)
  kept-paste =
      record {
        same_length = length-paste store at s n (omega arith) g;
        same_rest = paste-rest store at s n need (omega arith) g b;
      }

pub kept_same : (need : ℕ) (store : List ℤ) → Kept need store store
kept_same need store = record { same_length = refl; same_rest = refl }

pub kept_then : {need : ℕ} {a b c : List ℤ} → Kept need a b → Kept need b c → Kept need a c
kept_then h g =
    record { same_length = g.same_length ∙ h.same_length; same_rest = g.same_rest ∙ h.same_rest }

-- The places past the pasted part still hold 0.
unused-paste : (need : ℕ) (store : List ℤ) (at : ℕ) (s : List ℤ) (n : ℕ) → n ≤ length s → at + n ≤ need → need ≤ length store
    → T (is_zero_of (drop at (take need store))) → T (is_zero_of (drop (at + n) (take need (paste store at s n))))
unused-paste need store at s n g b h z = subst (λ l. T (is_zero_of l)) (sym same) (zeros (drop at (take need store)) z)
  where
    zeros : (l : List ℤ) → T (is_zero_of l) → T (is_zero_of (drop n l))
    zeros l z = subst T (sym (is_zero-every (drop n l))) (every_drop is_zero_ℤ n l (subst T (is_zero-every l) z))

    same : drop (at + n) (take need (paste store at s n)) ≡ drop n (drop at (take need store))
    same =
        ap (drop (at + n)) (take-paste-within store at s n need g b h)
        ∙ drop-paste (take need store) at s n (rw (length-take-le need store h) (omega arith)) g ∙ sym (drop-drop n at (take need store))

-- A relation more.
pub listing-paste : (count : ℕ) (store numbers : List ℤ) → Listing count store → length numbers ≡ relation_length
    → T (every small numbers)
    → count < 16 → Listing (suc count) (paste store (count * relation_length) numbers relation_length)
listing-paste count store numbers l e h b =
    record {
      few = b;
      within =
          within-paste relation_need store l.within (count * relation_length) numbers relation_length (le_of_eq (sym e))
          (fits count b) h;
      unused =
          subst (λ j. T (is_zero_of (drop j (take relation_need
          (paste store (count * relation_length) numbers relation_length))))) (sym (suc-mul count relation_length))
          (unused-paste relation_need store (count * relation_length) numbers relation_length (le_of_eq (sym e))
          (fits count b) l.within.long l.unused);
    }
  where
    fits : (k : ℕ) → k < 16 → k * relation_length + relation_length ≤ relation_need
    fits k h = omega arith
