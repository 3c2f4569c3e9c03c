-- The numbers of a row shifted up by one block.
--
-- Main definitions
--   moved_count        the number of polynomials that move
--   over_front l d n   the list d, whose first n numbers are overwritten with those of l
--
-- Main statements
--   coeff-shift-front, shift_past   the coefficients up to the highest nonzero one have the shift of all, and past it there is none
--   shifted-width     the shifted row is one block narrower
--   length-shift_up    the numbers of its left part are as many as a left part has
--   shift_up-part      polynomial e is p(n + 1) for the polynomial p one block further down
--   row_of-shifted, shifted-held   the shifted row is held by its numbers, which are within ±C where it is within the limit
--   length_over, over-behind, over-next, small-next   as long as before, and the same behind; one polynomial more is overwritten
--   shifted-numbers, shifted-narrower   the left part and the right side are shifted apart, the left part being narrower
--   over-cleared, small-front   the last block in use made zero, and which numbers decide the limit
use Rattle.std.specs.Prelude.{◌≡◌, Bool, true, false, ◌&&◌, cond, ℕ, zero, suc, ◌+◌, ◌*◌, ◌-◌, ◌≤◌, ◌<◌, T, eqb, ℤ, ◌*ℤ◌, take, replicate}
use Rattle.std.proofs.Math.Path.{refl, ap, ap₂}
use Rattle.std.proofs.Common.{sym, ◌∙◌, subst, add_comm, le_refl, le_of_eq, length-append, take-append-drop, take_at, take_all, take-add, take-take, drop_at, drop-drop}
use Rattle.std.proofs.Math.Bool.{and-true}
use mathlib.Core.List.{List, [], ◌∷◌, ◌++◌, map, tail, flatten, append-nil, append_assoc, map-append}
use native.Mathlib.Omega.{arith}
use Rattle.std.proofs.Math.Dec.{eqb-suc-zero}
use Rattle.std.proofs.Math.IntN.{pos, *ℤ-zero}
use Rattle.std.proofs.Math.ListN.{length, drop, length-take, length-drop, length-map, get_or-map}
use Rattle.std.proofs.lemmas.List.{length-replicate, replicate-append-replicate}
use Rattle.std.proofs.Math.Seq.{paste, length-take-le}
use Rattle.algebra.specs.Polynomials.{Polynomial, coeff, degree, is_zero_of, shift, shift_by, length_shift}
use Rattle.algebra.specs.Polynomials.{is_zero-shift, coeff-is_zero, zero-list}
use Rattle.algebra.specs.Sums.{sum_below, sum_below-congr, sum_below-extend}
use Rattle.algebra.specs.Coefficients.{coeff-take, coeff-drop, coeff-past-length, coeff-past-degree}
use Rattle.algebra.specs.Binomials.{binomial, coeff-shift}
use Rattle.lists.specs.Tests.{true_of, every, every_append}
use Rattle.rules.specs.Rows.{Block, Row, map_row, coefficients_of, zero_block, width, width_of, blank}
use Rattle.rules.specs.Rows.{leading_block, shift_up}
use Rattle.lists.specs.Everywhere.{All, append-all, map-keeps}
use Rattle.lists.specs.Joined.{flatten-append, length-flatten, flatten-map}
use Rattle.rules.specs.Limits.{coefficient_count, column_count, most_span, polynomial_count, block_length, entries_length}
use Rattle.rules.specs.Limits.{row_length, small}
use Rattle.rules.specs.Stores.{row_of, StoreRow}
use Rattle.lists.specs.Parts.{parts, parts-length, parts-width, get_or-parts, part-flatten, parts-parts}
use Rattle.rules.specs.Elimination.{within, limit_coefficients}
use Rattle.rules.specs.Layout.{row_of-coefficients_of, block_of, coefficients_at_of}
use Rattle.stores.specs.Checks.{zero-small}
use Rattle.working_rows.specs.Found.{zero-later, width-most, width-rest}
use Rattle.working_rows.specs.Working.{left_part, blocks-held, right-held, width-held}
use Rattle.working_rows.specs.Worked.{Held, held, store-row}

-- The coefficients up to the highest nonzero one have the shift of all.
pub coeff-shift-front : (p : Polynomial) (n k : ℕ) → n ≤ length p → degree p < n → coeff (shift (take n p)) k ≡ coeff (shift p) k
coeff-shift-front p n k h d =
    coeff-shift (take n p) k
    ∙ ap (λ m. sum_below m (λ j. pos (binomial j k) *ℤ coeff (take n p) j)) (length-take-le n p h)
    ∙ sum_below-congr n _ _ (λ j l. ap (λ a. pos (binomial j k) *ℤ a) (coeff-take n p j l))
    ∙ sym (sum_below-extend n (length p) _ h
    (λ j l m. ap (λ a. pos (binomial j k) *ℤ a) (coeff-past-degree p j (omega arith)) ∙ *ℤ-zero (pos (binomial j k))))
    ∙ sym (coeff-shift p k)

-- Past the highest nonzero coefficient of p, p(n + 1) has none either.
pub shift_past : (p : Polynomial) (n : ℕ) → n ≤ length p → degree p < n → T (is_zero_of (drop n (shift p)))
shift_past p n h d =
    coeff-is_zero (drop n (shift p)) (λ k. coeff-drop n (shift p) k ∙ sym (coeff-shift-front p n (n + k) h d)
    ∙ coeff-past-length (shift (take n p)) (n + k) (rw (length_shift, length-take) (omega arith)))

-- The polynomials of all blocks but the first move up.
abbrev pub moved_count : ℕ
moved_count = most_span * column_count

-- These polynomials, and those of a blank block.
below : List ℤ → List Polynomial
below l = parts coefficient_count moved_count (drop block_length l)

last : List ℤ → Block
last l = blank (block_of (take block_length l))

-- The right side, which stays where it is.
side : List ℤ → Polynomial
side l = coefficients_at_of l polynomial_count

left-shift_up : (l : List ℤ) → flatten (shift_up (row_of l)).blocks ≡ map shift (below l) ++ map shift (last l)
unfolding shift_up map_row row_of leading_block flatten below last
left-shift_up l =
    flatten-map shift (map block_of (parts block_length most_span (drop block_length l)) ++ (last l ∷ []))
    ∙ ap (map shift)
    (flatten-append (map block_of (parts block_length most_span (drop block_length l))) (last l ∷ [])
    ∙ ap₂ ◌++◌ (parts-parts coefficient_count column_count most_span (drop block_length l)) (append-nil (last l)))
    ∙ map-append shift (below l) (last l)

left-numbers : (l : List ℤ) → left_part (shift_up (row_of l)) ≡ flatten (map shift (below l)) ++ flatten (map shift (last l))
left-numbers l = ap flatten (left-shift_up l) ∙ flatten-append (map shift (below l)) (map shift (last l))

-- ---- the width

zero-shift : (b : Block) → zero_block (map shift b) ≡ zero_block b
unfolding zero_block every
zero-shift [] = refl
zero-shift (p ∷ b) = ap₂ ◌&&◌ (is_zero-shift p) (zero-shift b)

zero-blank : (b : Block) → zero_block (blank b) ≡ true
unfolding zero_block blank every is_zero_of
zero-blank [] = refl
zero-blank (p ∷ b) = ap₂ ◌&&◌ (zeros p) (zero-blank b)
  where
    zeros : (q : Polynomial) → is_zero_of (map (λ _. pos 0) q) ≡ true
    zeros [] = refl
    zeros (a ∷ q) = zeros q

width_of-shift : (bs : List Block) → width_of (map (map shift) bs) ≡ width_of bs
unfolding width_of
width_of-shift [] = refl
width_of-shift (b ∷ bs) = ap₂ (λ w t. cond (eqb w 0 && t) 0 (suc w)) (width_of-shift bs) (zero-shift b)

width_of-last : (bs : List Block) (b : Block) → zero_block b ≡ true → width_of (bs ++ (b ∷ [])) ≡ width_of bs
unfolding width_of
width_of-last [] b z = ap (λ t. cond t 0 1) z
width_of-last (a ∷ bs) b z = ap (λ w. cond (eqb w 0 && zero_block a) 0 (suc w)) (width_of-last bs b z)

width_of-tail : (bs : List Block) → width_of (tail bs) ≡ width_of bs - 1
unfolding width_of
width_of-tail [] = refl
width_of-tail (b ∷ bs) = cases (width_of bs) (zero_block b)
  where
    cases : (w : ℕ) (t : Bool) → w ≡ cond (eqb w 0 && t) 0 (suc w) - 1
    cases zero true = refl
    cases zero false = refl
    cases (suc w) t =
        let less : suc (suc w) - 1 ≡ suc w = omega arith in
        sym (ap (λ u. cond (u && t) 0 (suc (suc w)) - 1) (eqb-suc-zero w) ∙ less)

-- A row shifted up is one block narrower; one of width 0 stays so.
pub shifted-width : (r : Row) → width (shift_up r) ≡ width r - 1
unfolding width shift_up map_row leading_block
shifted-width r =
    width_of-shift (tail r.blocks ++ (blank (leading_block r) ∷ []))
    ∙ width_of-last (tail r.blocks) (blank (leading_block r)) (zero-blank (leading_block r)) ∙ width_of-tail r.blocks

-- ---- lengths

map-width : (f : Polynomial → Polynomial) → ((p : Polynomial) → length (f p) ≡ length p) → (k : ℕ) (ps : List Polynomial)
    → All (λ p. length p ≡ k) ps → All (λ p. length p ≡ k) (map f ps)
map-width f e k ps h = map-keeps (λ p. length p ≡ k) (λ p. length p ≡ k) f (λ p w. e p ∙ w) ps h

-- The left part, of the numbers that hold it.
module _ (l : List ℤ) (long : entries_length ≤ length l) where
  below-width : All (λ p. length p ≡ coefficient_count) (map shift (below l))
  unfolding below
  below-width =
      map-width shift length_shift coefficient_count (parts coefficient_count moved_count (drop block_length l))
      (parts-width coefficient_count moved_count (drop block_length l) (rw length-drop (omega arith)))

  last-width : All (λ p. length p ≡ coefficient_count) (map shift (last l))
  unfolding last blank
  last-width =
      map-width shift length_shift coefficient_count (last l)
      (map-width (map (λ _. pos 0)) (λ p. length-map p (λ _. pos 0)) coefficient_count (block_of (take block_length l))
      (parts-width coefficient_count column_count (take block_length l) (rw length-take (omega arith))))

  below_length : length (flatten (map shift (below l))) ≡ moved_count * coefficient_count
  unfolding below
  below_length =
      length-flatten coefficient_count (map shift (below l)) below-width
      ∙ ap (λ n. n * coefficient_count) (length-map (below l) shift ∙ parts-length coefficient_count moved_count (drop block_length l))

  last-length : length (flatten (map shift (last l))) ≡ block_length
  unfolding last blank
  last-length =
      length-flatten coefficient_count (map shift (last l)) last-width
      ∙ ap (λ n. n * coefficient_count)
      (length-map (last l) shift ∙ length-map (block_of (take block_length l)) (map (λ _. pos 0))
      ∙ parts-length coefficient_count column_count (take block_length l))

  pub length-shift_up : length (left_part (shift_up (row_of l))) ≡ entries_length
  length-shift_up =
      ap length (left-numbers l) ∙ length-append (flatten (map shift (below l))) (flatten (map shift (last l)))
      ∙ ap₂ ◌+◌ below_length last-length

  pub shift_up-part : (e : ℕ) → e < moved_count
      → coefficients_at_of (left_part (shift_up (row_of l))) e ≡ shift (take coefficient_count (drop (e * coefficient_count + block_length) l))
  unfolding below shift shift_by
  shift_up-part e h =
      ap (λ r. coefficients_at_of r e) (left-numbers l)
      ∙ part-flatten coefficient_count moved_count (map shift (below l)) (flatten (map shift (last l)))
      (length-map (below l) shift ∙ parts-length coefficient_count moved_count (drop block_length l)) below-width e h
      ∙ get_or-map shift (below l) e [] ∙ ap shift (get_or-parts coefficient_count moved_count (drop block_length l) e h)
      ∙ ap (λ r. shift (take coefficient_count r))
      (drop-drop (e * coefficient_count) block_length l ∙ ap (λ n. drop n l) (add_comm block_length (e * coefficient_count)))

-- The whole row.
module _ (l : List ℤ) (long : length l ≡ row_length) where
  side-width : length (shift (side l)) ≡ coefficient_count
  unfolding side
  side-width =
      length_shift (side l) ∙ length-take-le coefficient_count (drop entries_length l) (rw length-drop (omega arith))

  StoreRow-shift_up : StoreRow (shift_up (row_of l))
  unfolding shift_up map_row row_of leading_block blank All side
  StoreRow-shift_up =
      let enough : entries_length ≤ length l = omega arith in
      store-row (shift_up (row_of l)) refl (refl, (refl, (refl, (refl, (refl, tt)))))
      (append-all (λ p. length p ≡ coefficient_count) (flatten (shift_up (row_of l)).blocks) (shift (side l) ∷ [])
      (subst (All (λ p. length p ≡ coefficient_count)) (sym (left-shift_up l))
      (append-all (λ p. length p ≡ coefficient_count) (map shift (below l)) (map shift (last l)) (below-width l enough)
      (last-width l enough)))
      (side-width, tt))

  pub row_of-shifted : row_of (coefficients_of (shift_up (row_of l))) ≡ shift_up (row_of l)
  row_of-shifted = row_of-coefficients_of (shift_up (row_of l)) StoreRow-shift_up

  -- A shifted row within the limit is held by its numbers.
  pub shifted-held : (r : Row) → limit_coefficients (shift_up (row_of l)) ≡ within r → Held r
  shifted-held r e = held (shift_up (row_of l)) r StoreRow-shift_up e

-- ---- a shift written over the row

abbrev pub over_front : List ℤ → List ℤ → ℕ → List ℤ
over_front l d n = take n l ++ drop n d

module _ (l d : List ℤ) (n : ℕ) (h : n ≤ length l) where
  pub length_over : n ≤ length d → length (over_front l d n) ≡ length d
  length_over g = simp (length-append, length-drop, length-take-le n l h) (omega arith)

  -- What is not overwritten yet.
  pub over-behind : (k : ℕ) → n ≤ k → drop k (over_front l d n) ≡ drop k d
  over-behind k g =
      let all : n + (k - n) ≡ k = omega arith in
      ap (λ j. drop j (over_front l d n)) (sym all) ∙ sym (drop-drop (k - n) n (over_front l d n))
      ∙ ap (drop (k - n)) (drop_at (take n l) (drop n d) n (length-take-le n l h))
      ∙ drop-drop (k - n) n d ∙ ap (λ j. drop j d) all

module _ (l d : List ℤ) (e : ℕ) (inside : e * coefficient_count + coefficient_count ≤ length l) where
  abbrev at : ℕ
  at = e * coefficient_count

  abbrev next : ℕ
  next = (e + 1) * coefficient_count

  sum : next ≡ at + coefficient_count
  sum = omega arith

  -- The next polynomial in its place.
  pub over-next : paste (over_front l d at) at (coefficients_at_of l e) coefficient_count ≡ over_front l d next
  over-next =
      ap₂ (λ a b. a ++ take coefficient_count (coefficients_at_of l e) ++ b)
      (take_at (take at l) (drop at d) at (length-take-le at l (omega arith)))
      (over-behind l d at (omega arith) (at + coefficient_count) (omega arith) ∙ ap (λ n. drop n d) (sym sum))
      ∙ ap (λ p. take at l ++ p ++ drop next d) (take-take coefficient_count coefficient_count (drop at l) (le_refl coefficient_count))
      ∙ ap (λ a. a ++ drop next d) (sym (take-add at coefficient_count l) ∙ ap (λ n. take n l) (sym sum))

  pub small-next : every small (take next l) ≡ (every small (take at l) && every small (coefficients_at_of l e))
  small-next =
      ap (λ n. every small (take n l)) sum ∙ ap (every small) (take-add at coefficient_count l)
      ∙ every_append small (take at l) (coefficients_at_of l e)

-- The entries and the right side of a row, shifted apart.
module _ (e s : List ℤ) (long : length e ≡ entries_length) (size : length s ≡ coefficient_count) where
  abbrev shifted : List ℤ
  shifted = left_part (shift_up (row_of e))

  pub shifted-long : length shifted ≡ entries_length
  shifted-long = length-shift_up e (le_of_eq (sym long))

  pub shifted-numbers : coefficients_of (shift_up (row_of (e ++ s))) ≡ shifted ++ shift s
  unfolding shift_up map_row leading_block coefficients_of
  shifted-numbers =
      ap₂ (λ bs q. left_part (shift_up (record { blocks = bs; right = [] })) ++ shift q) (blocks-held e s long)
      (right-held e s long size)

  pub shifted-narrower : width (row_of shifted) ≡ width (row_of e) - 1
  shifted-narrower =
      sym (width-held shifted (shift s) shifted-long) ∙ ap (λ l. width (row_of l)) (sym shifted-numbers)
      ∙ ap width (row_of-shifted (e ++ s) (length-append e s ∙ ap₂ ◌+◌ long size)) ∙ shifted-width (row_of (e ++ s))
      ∙ ap (λ w. w - 1) (width-held e s long)

  -- As many blocks as stay in use move up.
  module _ (blocks : ℕ) (narrower : blocks ≡ width (row_of e) - 1) where
    abbrev front : ℕ
    front = blocks * block_length

    room : front + block_length ≤ entries_length
    room = omega (arith, narrower, width-most e)

    zeros-past : T (is_zero_of (drop front shifted))
    zeros-past =
        subst (λ w. T (is_zero_of (drop (w * block_length) shifted))) (shifted-narrower ∙ sym narrower)
        (width-rest shifted shifted-long)

    -- The last block in use is made zero, and past it there are zeros already.
    pub over-cleared : paste (over_front shifted e front) front (replicate block_length (pos 0)) block_length ≡ shifted
    over-cleared =
        let fits : front ≤ length shifted = omega (arith, shifted-long, room) in
        let taken = length-take-le front shifted fits in
        ap₂ (λ a b. a ++ take block_length zeros ++ b) (take_at (take front shifted) (drop front e) front taken)
        (over-behind shifted e front fits (front + block_length) (omega arith))
        ∙ ap (λ z. take front shifted ++ z ++ behind)
        (take_all block_length zeros (le_of_eq (length-replicate block_length (pos 0))))
        ∙ append_assoc (take front shifted) zeros behind ∙ ap (λ r. take front shifted ++ r) (sym past)
        ∙ take-append-drop front shifted
      where
        zeros : List ℤ
        zeros = replicate block_length (pos 0)

        behind : List ℤ
        behind = drop (front + block_length) e

        none : T (is_zero_of behind)
        none =
            zero-later (width (row_of e) * block_length) (front + block_length) e (omega (arith, narrower))
            (width-rest e long)

        past : drop front shifted ≡ zeros ++ behind
        past =
            let count : length (drop front shifted) ≡ block_length + length behind =
            simp length-drop (omega (arith, shifted-long, room)) in
            zero-list (drop front shifted) zeros-past ∙ ap (λ n. replicate n (pos 0)) count
            ∙ sym (replicate-append-replicate block_length (length behind) (pos 0))
            ∙ ap (λ r. zeros ++ r) (sym (zero-list behind none))

    pub small-front : every small (shifted ++ shift s) ≡ (every small (take front shifted) && every small (shift s))
    small-front =
        every_append small shifted (shift s)
        ∙ ap (λ t. t && every small (shift s))
        (ap (every small) (sym (take-append-drop front shifted))
        ∙ every_append small (take front shifted) (drop front shifted)
        ∙ ap (λ t. every small (take front shifted) && t) (true_of _ (zero-small (drop front shifted) zeros-past))
        ∙ and-true (every small (take front shifted)))
