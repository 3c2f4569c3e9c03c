-- A row as the code works on it: entries, right side and width.
--
-- Main definitions
--   left_part r           the numbers of a row's left part
--   working_of e s        the working row of the entries e and the right side s
--   numbers_held w        the numbers of a working row: its entries, then its right side
--   Full w               its arrays are full
--   loaded store at      the row that a store holds from a place on
--
-- Main statements
--   full-of, width-of, full-loaded, numbers-loaded, width-loaded   a row made of full arrays, and one loaded from a store
--   length-held          a full row has the numbers of a row
--   small-apart          both parts are within ±C where all the numbers are
--   blocks-held, right-held, width-held, leading-held, entry-held   what its numbers hold
--   left-long, width-left, leading-left, entry-left, behind-all, right-behind   what the two parts of a row hold, where they stand
--   width-zero           the width is 0 exactly if the left part is zero
--   paste-joined         two lists put into a store one behind the other
use Rattle.std.specs.Prelude.{ℕ, suc, ◌+◌, ◌-◌, ◌≤◌, ◌≡◌, refl, Bool, true, false, ◌&&◌, cond, T, eqb, ℤ, length, take, drop}
use Rattle.std.proofs.Common.{le_of_eq, le_refl, add_assoc, arith, sym, ◌∙◌, ap₂, subst, length-append, length-drop, take-append-drop, take_at, take-add, drop_at, drop-drop, length-take-le}
use Rattle.std.proofs.Math.Path.{ap}
use mathlib.Core.List.{List, [], ◌∷◌, ◌++◌, map, flatten, append_assoc}
use Rattle.std.proofs.Math.Dec.{eqb-suc-zero}
use Rattle.std.proofs.Math.ListN.{get_or}
use Rattle.std.proofs.Math.Seq.{paste, take_all}
use Rattle.std.proofs.lemmas.List.Edits.{take-paste, drop-paste}
use Rattle.lists.specs.Parts.{parts, parts-take}
use Rattle.lists.specs.Tests.{T-&&, every, every_append}
use Rattle.rules.specs.Limits.{coefficient_count, block_count, block_length, entries_length, row_length, small}
use Rattle.rules.specs.Rows.{Block, Row, zero_block, zero_left, width, width_of, leading_block, entry}
use Rattle.rules.specs.Stores.{row_of}
use Rattle.rules.specs.Layout.{block_of}
use Rattle.working_rows.specs.declared.WorkingRow.{WorkingRow}

abbrev pub left_part : Row → List ℤ
left_part r = flatten (flatten r.blocks)

abbrev pub working_of : List ℤ → List ℤ → WorkingRow
working_of e s = record { entries = e; right = s; width = width (row_of e) }

abbrev pub numbers_held : WorkingRow → List ℤ
numbers_held w = w.entries ++ w.right

pub record Full (w : WorkingRow) : Type 0 where
  pub entries-long : length w.entries ≡ entries_length
  pub right-long : length w.right ≡ coefficient_count

pub full-of : (e s : List ℤ) → length e ≡ entries_length → length s ≡ coefficient_count → Full (working_of e s)
full-of e s h k = record { entries-long = h; right-long = k }

pub width-of : (w : WorkingRow) (e s : List ℤ) → w ≡ working_of e s → w.width ≡ width (row_of w.entries)
width-of w e s h = ap (λ v. v.width) h ∙ sym (ap (λ v. width (row_of v.entries)) h)

-- The row that a store holds from a place on.
module _ (store : List ℤ) (at : ℕ) where
  abbrev pub loaded : WorkingRow
  loaded = working_of (take entries_length (drop at store)) (take coefficient_count (drop (at + entries_length) store))

  pub full-loaded : at + row_length ≤ length store → Full loaded
  full-loaded h =
      full-of (take entries_length (drop at store)) (take coefficient_count (drop (at + entries_length) store))
      (length-take-le entries_length (drop at store) (rw length-drop (omega arith)))
      (length-take-le coefficient_count (drop (at + entries_length) store) (rw length-drop (omega arith)))

  pub numbers-loaded : numbers_held loaded ≡ take row_length (drop at store)
  numbers-loaded =
      ap (λ l. take entries_length (drop at store) ++ take coefficient_count l) (sym (drop-drop entries_length at store))
      ∙ sym (take-add entries_length coefficient_count (drop at store))

pub length-held : (w : WorkingRow) → Full w → length (numbers_held w) ≡ row_length
length-held w h = length-append w.entries w.right ∙ ap₂ ◌+◌ h.entries-long h.right-long

pub small-apart : (w : WorkingRow) → T (every small (numbers_held w)) → T (every small w.entries) × T (every small w.right)
small-apart w h =
    (T-&& (every small w.entries) (every small w.right)).0 (subst T (every_append small w.entries w.right) h)

-- ---- what the numbers hold

module _ (e s : List ℤ) (long : length e ≡ entries_length) where
  pub blocks-held : (row_of (e ++ s)).blocks ≡ (row_of e).blocks
  unfolding row_of
  blocks-held =
      ap (map block_of)
      (sym (parts-take block_length block_count entries_length (e ++ s) (le_refl entries_length))
      ∙ ap (parts block_length block_count) (take_at e s entries_length long))

  pub right-held : length s ≡ coefficient_count → (row_of (e ++ s)).right ≡ s
  unfolding row_of
  right-held h = ap (take coefficient_count) (drop_at e s entries_length long) ∙ take_all coefficient_count s (le_of_eq h)

  pub width-held : width (row_of (e ++ s)) ≡ width (row_of e)
  unfolding width
  width-held = ap width_of blocks-held

  pub leading-held : leading_block (row_of (e ++ s)) ≡ leading_block (row_of e)
  unfolding leading_block
  leading-held = ap (λ bs. get_or bs 0 []) blocks-held

  pub entry-held : entry (row_of (e ++ s)) ≡ entry (row_of e)
  unfolding entry leading_block
  entry-held = ap (λ bs c. get_or (get_or bs 0 []) c []) blocks-held

-- The width of a row that a store holds is that of the row loaded from it.
pub width-loaded : (store : List ℤ) (at : ℕ) → at + row_length ≤ length store
    → width (row_of (take row_length (drop at store))) ≡ (loaded store at).width
width-loaded store at h =
    ap (λ l. width (row_of l)) (sym (numbers-loaded store at))
    ∙ width-held (loaded store at).entries (loaded store at).right (full-loaded store at h).entries-long

-- ---- the parts of a row, where it stands

module _ (l : List ℤ) (long : length l ≡ row_length) where
  abbrev left : List ℤ
  left = take entries_length l

  abbrev behind : List ℤ
  behind = drop entries_length l

  pub left-long : length left ≡ entries_length
  left-long = length-take-le entries_length l (omega (arith, long))

  joined : row_of (left ++ behind) ≡ row_of l
  joined = ap row_of (take-append-drop entries_length l)

  pub width-left : width (row_of left) ≡ width (row_of l)
  width-left = sym (width-held left behind left-long) ∙ ap width joined

  pub leading-left : leading_block (row_of left) ≡ leading_block (row_of l)
  leading-left = sym (leading-held left behind left-long) ∙ ap leading_block joined

  pub entry-left : entry (row_of left) ≡ entry (row_of l)
  entry-left = sym (entry-held left behind left-long) ∙ ap entry joined

  -- The right side, as a part of the row behind the left one.
  pub behind-all : take (length l - entries_length) behind ≡ behind
  behind-all = take_all (length l - entries_length) behind (rw length-drop (omega arith))

  pub right-behind : (row_of l).right ≡ behind
  right-behind = ap (λ r. r.right) (sym joined) ∙ right-held left behind left-long (rw length-drop (omega (arith, long)))

-- ---- the width of a zero left part

width_of-zero-all : (bs : List Block) → eqb (width_of bs) 0 ≡ every zero_block bs
unfolding width_of every
width_of-zero-all [] = refl
width_of-zero-all (b ∷ bs) = step (width_of bs) (zero_block b) (every zero_block bs) (width_of-zero-all bs)
  where
    step : (w : ℕ) (t u : Bool) → eqb w 0 ≡ u → eqb (cond (eqb w 0 && t) 0 (suc w)) 0 ≡ (t && u)
    step w t u h = rw h (cases u t)
      where
        cases : (u t : Bool) → eqb (cond (u && t) 0 (suc w)) 0 ≡ (t && u)
        cases true true = refl
        cases true false = eqb-suc-zero w
        cases false true = eqb-suc-zero w
        cases false false = eqb-suc-zero w

pub width-zero : (r : Row) → eqb (width r) 0 ≡ zero_left r
unfolding width zero_left
width-zero r = width_of-zero-all r.blocks

-- ---- two lists put into a store one behind the other

pub paste-joined : (d e s : List ℤ) (at k n : ℕ) → length e ≡ k → length s ≡ n → at + (k + n) ≤ length d
    → paste (paste d at e k) (at + k) s n ≡ paste d at (e ++ s) (k + n)
paste-joined d e s at k n he hs room =
    ap₂ (λ a b. (a ++ take n s) ++ b) first last
    ∙ ap₂ (λ a b. a ++ b) (append_assoc (take at d) (take k e) (take n s) ∙ ap (λ r. take at d ++ r) both)
    (ap (λ j. drop j d) (add_assoc at k n))
  where
    first : take (at + k) (paste d at e k) ≡ take at d ++ take k e
    first = take-paste d at e k (omega arith) (le_of_eq (sym he))

    last : drop (at + k + n) (paste d at e k) ≡ drop (at + k + n) d
    last =
        sym (drop-drop n (at + k) (paste d at e k)) ∙ ap (drop n) (drop-paste d at e k (omega arith) (le_of_eq (sym he)))
        ∙ drop-drop n (at + k) d

    both : take k e ++ take n s ≡ take (k + n) (e ++ s)
    both =
        ap₂ (λ a b. a ++ b) (take_all k e (le_of_eq he)) (take_all n s (le_of_eq hs))
        ∙ sym (take_all (k + n) (e ++ s) (le_of_eq (length-append e s ∙ ap₂ ◌+◌ he hs)))
