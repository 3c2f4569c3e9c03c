-- The combination of two rows before its division, and what the division makes of it.
--
-- Main definitions
--   RowsFit g h target pivot width   what is asked where a row is combined with another
--   StoredFit g h target pivot   the same where a store holds both rows
--   whole_row l            the row of the numbers l, with its content and whether they are within ±C
--   undivided_of g h t u   the answer for the multipliers g and h and the numbers t and u of two rows: none where a degree is past 15
--   Divisible row d       d divides every coefficient of a row
--   divided_row_of row d      the row divided by d
--
-- Main statements
--   loaded-held, stored-fits   a row that has been loaded from a store
--   undivided-low         there is an answer where no degree is past 15
--   width-bound           a row that is zero from block n on is at most n blocks wide
--   divided-width         a division keeps the width
--   left-fits, right-fits, left-made, right-made   the parts of both rows, which are zero past the wider one's width
--   past-left, past-right, made-whole  the answer, by those for the left parts and the right sides
--   after-width           how wide the row of the answer can be
--   limited-beyond, limited-within, worked_same   the limits of a row
--   combined-past, new-divided, new-kept, wholly-divisible   the row of the answer after its division
use Rattle.std.specs.Prelude.{◌≡◌, refl, Bool, true, false, ◌&&◌, ℕ, zero, suc, ◌+◌, ◌*◌, ◌-◌, ◌/◌, ◌^◌, ◌≤◌, ◌<◌, max, eqb, ℤ, pos, nat_abs, take, drop, get_or, Option}
use Rattle.std.proofs.Math.Path.{sym, ap, ap₂, subst}
use Rattle.std.proofs.Common.{Some, None, ◌∙◌, zero-le, le_of_eq, le_refl, arith, lt→ltb, take-append-drop, drop_of_length-le, take_all, drop_at, get_or-drop}
use Rattle.std.proofs.Math.Bool.{not, and-false, cond}
use mathlib.Core.List.{List, [], ◌∷◌, ◌++◌, map, flatten, zip_with, map-append}
use Rattle.std.specs.Int.{◌∣◌}
use Rattle.std.proofs.Math.Nat.{dvd_refl}
use Rattle.std.proofs.Math.Dec.{T}
use Rattle.std.proofs.Math.ListN.{length, length-drop}
use Rattle.std.proofs.Math.Seq.{take_at}
use Rattle.std.specs.Int.Signed.{lt_z, quot_z}
use Rattle.lists.specs.Images.{zip_with-append, map-take, map-drop}
use Rattle.lists.specs.Joined.{flatten-append}
use Rattle.lists.specs.Parts.{parts, parts-length, parts-append, parts-take}
use Rattle.lists.specs.Tests.{T-&&, true_of, true-T, every, every_append, every_take, every_drop}
use Rattle.algebra.specs.Gcd.{content, divide_by, gcd-zero, is_zero-divide_by, divides_all-of-content}
use Rattle.algebra.specs.Polynomials.{Polynomial, is_zero_of, is_zero-append, add, mul, coeff-is_zero}
use Rattle.algebra.specs.Coefficients.{coeff-drop, coeff-past-length}
use Rattle.polynomials.specs.Content.{Below}
use Rattle.products.specs.Product.{below-part}
use Rattle.rules.specs.Limits.{small, coefficient_count, polynomial_count, column_count, block_count, block_length, entries_length, row_length}
use Rattle.rules.specs.Rows.{Block, Row, width, width_of, zero_block, zero_left, contradicts, coefficients_of, combine, primitive, cut, low_degrees}
use Rattle.rules.specs.Stores.{row_of}
use Rattle.rules.specs.Layout.{block_at, coefficients_at_of, entries-row_of, row_of-coefficients_of, coefficients_of-row_of-all}
use Rattle.rules.specs.Elimination.{limit_coefficients, limit_degrees, consistent, within, beyond}
use Rattle.stores.specs.Flat.{part_count, zero_block-at, length-blocks}
use Rattle.working_rows.specs.declared.WorkingRow.{WorkingRow}
use Rattle.working_rows.specs.Found.{width-rest, width-most, zero-later, zero-from}
use Rattle.working_rows.specs.Worked.{worked_row, limit-within, limit-beyond}
use Rattle.working_rows.specs.Working.{working_of, numbers_held, Full, full-of, length-held, small-apart, left-long}
use Rattle.working_rows.specs.Working.{width-left, width-held, right-held, width-zero, loaded, full-loaded, numbers-loaded, width-of}
use Rattle.combinations.specs.declared.Known.{Known}
use Rattle.combinations.specs.declared.Combination.{Combination}
use Rattle.combinations.specs.Combination.{Counted, Shortened, shortened-fits, low_part_of, combinations, low_numbers, length-low, zero-part}
use Rattle.combinations.specs.Combination.{low-degrees, cut_low, numbers-below, StoreRow-primitive}
use Rattle.combinations.specs.Primitive.{is_low, divides-append, primitive_numbers, primitive-divided, primitive-kept, cut-primitive, limit-past, limit-low}
use Rattle.combinations.specs.Parts.{PartsFit, PartsMade, known_of, known-twice, some-passed, none-failed, shortened-made, part-zero}

pub record RowsFit (g h : Polynomial) (target : WorkingRow) (pivot : List ℤ) (wide : ℕ) : Type 0 where
  pub g-long : length g ≡ coefficient_count
  pub g-small : T (every small g)
  pub h-long : length h ≡ coefficient_count
  pub h-small : T (every small h)
  pub target-full : Full target
  pub target_small : T (every small (numbers_held target))
  pub target-width : target.width ≡ width (row_of target.entries)
  pub pivot-long : length pivot ≡ row_length
  pub pivot-small : T (every small pivot)
  pub pivot-width : wide ≡ width (row_of pivot)

-- The same where both rows are held by a store.
pub record StoredFit (g h : Polynomial) (target pivot : List ℤ) : Type 0 where
  pub g-long : length g ≡ coefficient_count
  pub g-small : T (every small g)
  pub h-long : length h ≡ coefficient_count
  pub h-small : T (every small h)
  pub target-long : length target ≡ row_length
  pub target_small : T (every small target)
  pub pivot-long : length pivot ≡ row_length
  pub pivot-small : T (every small pivot)

pub loaded-held : (l : List ℤ) → length l ≡ row_length → numbers_held (loaded l 0) ≡ l
loaded-held l long = numbers-loaded l 0 ∙ take_all row_length l (le_of_eq long)

pub stored-fits : {g h : Polynomial} {target pivot : List ℤ} {row : WorkingRow} {wide : ℕ} → StoredFit g h target pivot
    → row ≡ loaded target 0 → wide ≡ width (row_of pivot) → RowsFit g h row pivot wide
stored-fits {target = target} {row = row} fits e f = record {
  g-long = fits.g-long;
  g-small = fits.g-small;
  h-long = fits.h-long;
  h-small = fits.h-small;
  target-full = subst Full (sym e) (full-loaded target 0 (omega (arith, fits.target-long)));
  target_small = subst (λ l. T (every small l)) (sym (ap numbers_held e ∙ loaded-held target fits.target-long)) fits.target_small;
  target-width = width-of row _ _ e;
  pivot-long = fits.pivot-long;
  pivot-small = fits.pivot-small;
  pivot-width = f;
}

-- The row of the numbers l.
abbrev pub whole_row : List ℤ → Combination
whole_row l = record { content = content l; within = every small l; row = working_of (take entries_length l) (drop entries_length l) }

unfoldable pub undivided_of : Polynomial → Polynomial → List ℤ → List ℤ → Option Combination
undivided_of g h t u = cond (every is_low (combinations part_count g h t u)) (Some (whole_row (low_numbers part_count g h t u))) None

-- There is an answer where no degree is past 15.
pub undivided-low : (g h : Polynomial) (t u : List ℤ)
    → undivided_of g h t u
    ≡ cond (low_degrees (combine g h (row_of t) (row_of u))) (Some (whole_row (low_numbers part_count g h t u))) None
unfolding undivided_of
undivided-low g h t u = ap (λ b. cond b (Some (whole_row (low_numbers part_count g h t u))) None) (sym (low-degrees g h t u))

-- ---- widths

width_of-bound : (bs : List Block) (n : ℕ) → ((i : ℕ) → n ≤ i → i < length bs → zero_block (get_or bs i []) ≡ true) → width_of bs ≤ n
unfolding width_of
width_of-bound [] n h = zero-le
width_of-bound (b ∷ bs) zero h = cases (width_of bs) (width_of-bound bs 0 (λ i k l. h (suc i) zero-le (omega arith))) (h 0 zero-le (omega arith))
  where
    cases : (k : ℕ) → k ≤ 0 → zero_block b ≡ true → cond (eqb k 0 && zero_block b) 0 (suc k) ≤ 0
    cases zero l z = le_of_eq (ap (λ t. cond t 0 1) z)
    cases (suc k) l z = absurd (omega (arith, l))
width_of-bound (b ∷ bs) (suc n) h = cases (eqb (width_of bs) 0 && zero_block b) (width_of-bound bs n (λ i k l. h (suc i) (omega arith) (omega arith)))
  where
    cases : {k m : ℕ} (t : Bool) → k ≤ m → cond t 0 (suc k) ≤ suc m
    cases true l = zero-le
    cases false l = omega arith

-- A block past place n of numbers that are zero from there on.
block-zero : (l : List ℤ) (n i : ℕ) → T (is_zero_of (drop (n * block_length) l)) → n ≤ i → T (is_zero_of (block_at l i))
block-zero l n i z k = front block_length (drop (i * block_length) l) (zero-later (n * block_length) (i * block_length) l (omega arith) z)
  where
    front : (m : ℕ) (p : List ℤ) → T (is_zero_of p) → T (is_zero_of (take m p))
    front m p y =
        ((T-&& (is_zero_of (take m p)) (is_zero_of (drop m p))).0
        (subst T (ap is_zero_of (sym (take-append-drop m p)) ∙ is_zero-append (take m p) (drop m p)) y)).0

pub width-bound : (l : List ℤ) (n : ℕ) → T (is_zero_of (drop (n * block_length) l)) → width (row_of l) ≤ n
unfolding width
width-bound l n z =
    width_of-bound (row_of l).blocks n
    (λ i k m. let below : i < block_count = omega (arith, length-blocks l) in zero_block-at l i below ∙ true_of _ (block-zero l n i z k))

width_of-same : (bs cs : List Block) → length bs ≡ length cs
    → ((i : ℕ) → i < length bs → zero_block (get_or bs i []) ≡ zero_block (get_or cs i [])) → width_of bs ≡ width_of cs
unfolding width_of
width_of-same [] [] e h = refl
width_of-same [] (c ∷ cs) e h = absurd (omega (arith, e))
width_of-same (b ∷ bs) [] e h = absurd (omega (arith, e))
width_of-same (b ∷ bs) (c ∷ cs) e h =
    ap₂ (λ k t. cond (eqb k 0 && t) 0 (suc k)) (width_of-same bs cs (omega (arith, e)) (λ i l. h (suc i) (omega arith))) (h 0 (omega arith))

-- ---- divisions

below-front : (k : ℕ) (l : List ℤ) → Below (2 ^ 63) l → Below (2 ^ 63) (take k l)
below-front k l b = subst (λ m. Below (2 ^ 63) (take k m)) refl (below-part (2 ^ 63) 0 k l b)

below_rest : (k : ℕ) (l : List ℤ) → Below (2 ^ 63) l → Below (2 ^ 63) (drop k l)
below_rest k l b i = subst (λ a. nat_abs a < 2 ^ 63) (sym (get_or-drop k l i (pos 0))) (b (k + i))

pub record Divisible (row : WorkingRow) (d : ℤ) : Type 0 where
  pub full : Full row
  pub width_is : row.width ≡ width (row_of row.entries)
  pub entries_below : Below (2 ^ 63) row.entries
  pub right-below : Below (2 ^ 63) row.right
  pub positive : T (lt_z (pos 0) d)
  pub divides : nat_abs d ∣ content (numbers_held row)

abbrev pub divided_row_of : WorkingRow → ℤ → Row
divided_row_of row d = row_of (divide_by (nat_abs d) (numbers_held row))

divides-both : (d k : ℕ) (l : List ℤ) → d ∣ content l → (d ∣ content (take k l)) × (d ∣ content (drop k l))
divides-both d k l h =
    divides-append d (take k l) (drop k l) (subst (λ m. d ∣ content m) (sym (take-append-drop k l)) h)

pub divided-width : (d : ℕ) (l : List ℤ) → 0 < d → d ∣ content l → width (row_of (divide_by d l)) ≡ width (row_of l)
unfolding width divide_by
divided-width d l some h =
    width_of-same (row_of (divide_by d l)).blocks (row_of l).blocks (length-blocks (divide_by d l) ∙ sym (length-blocks l))
    (λ i k. let below : i < block_count = omega (arith, length-blocks (divide_by d l)) in
    zero_block-at (divide_by d l) i below ∙ same i ∙ sym (zero_block-at l i below))
  where
    part : (i : ℕ) → d ∣ content (block_at l i)
    part i = (divides-both d block_length (drop (i * block_length) l) (divides-both d (i * block_length) l h).1).0

    same : (i : ℕ) → is_zero_of (block_at (divide_by d l) i) ≡ is_zero_of (block_at l i)
    same i =
        ap is_zero_of (ap (take block_length) (map-drop (λ a. quot_z a (pos d)) (i * block_length) l)
        ∙ map-take (λ a. quot_z a (pos d)) block_length (drop (i * block_length) l))
        ∙ is_zero-divide_by d (block_at l i) some (divides_all-of-content d (block_at l i) (part i))

-- ---- a row within its limits

module _ (row : WorkingRow) (full : Full row) (wide : row.width ≡ width (row_of row.entries)) where
  abbrev l : List ℤ
  l = numbers_held row

  abbrev r : Row
  r = row_of l

  whole : coefficients_of r ≡ l
  whole = coefficients_of-row_of-all l (length-held row full)

  pub limited-beyond : every small l ≡ false → consistent (limit_coefficients r) ≡ beyond 8
  unfolding consistent
  limited-beyond e = ap consistent (limit-beyond r l whole e)

  right_is : r.right ≡ row.right
  right_is = right-held row.entries row.right full.entries-long full.right-long

  left_is : zero_left r ≡ eqb row.width 0
  left_is =
      sym (width-zero r) ∙ ap (λ n. eqb n 0) (width-held row.entries row.right full.entries-long ∙ sym wide)

  pub limited-within : every small l ≡ true
      → consistent (limit_coefficients r) ≡ cond (eqb row.width 0 && not (is_zero_of row.right)) (beyond 10) (within r)
  unfolding consistent contradicts
  limited-within e =
      ap consistent (limit-within r l whole e) ∙ ap₂ (λ t p. cond (t && not (is_zero_of p)) (beyond 10) (within r)) left_is right_is

  pub worked_same : worked_row (within r) ≡ row
  unfolding worked_row
  worked_same =
      ap₂ working_of (entries-row_of l ∙ take_at row.entries row.right entries_length full.entries-long) right_is
      ∙ ap (λ n. record { entries = row.entries; right = row.right; width = n }) (sym wide)

-- ---- the two parts of a combination

module _ {g h : Polynomial} {target : WorkingRow} {pivot : List ℤ} {wide : ℕ} (fits : RowsFit g h target pivot wide) where
  abbrev t : List ℤ
  t = numbers_held target

  abbrev blocks : ℕ
  blocks = max target.width wide

  abbrev pivot_left : List ℤ
  pivot_left = take entries_length pivot

  abbrev pub left_sums_of : List Polynomial
  left_sums_of = combinations polynomial_count g h target.entries pivot_left

  abbrev pub right_sums : List Polynomial
  right_sums = combinations 1 g h target.right (drop entries_length pivot)

  long : length target.entries ≡ entries_length
  long = fits.target-full.entries-long

  pivot-left-long : length pivot_left ≡ entries_length
  pivot-left-long = left-long pivot fits.pivot-long

  pub counted-g : Counted g
  counted-g = (omega (arith, fits.g-long), le_of_eq fits.g-long, fits.g-small)

  pub counted-h : Counted h
  counted-h = (omega (arith, fits.h-long), le_of_eq fits.h-long, fits.h-small)

  pub blocks-most : blocks ≤ block_count
  blocks-most = omega (arith, fits.target-width, fits.pivot-width, width-most target.entries, width-most pivot)

  target-rest : T (is_zero_of (drop (blocks * column_count * coefficient_count) target.entries))
  target-rest =
      zero-later (target.width * block_length) (blocks * column_count * coefficient_count) target.entries (omega arith)
      (subst (λ n. T (is_zero_of (drop (n * block_length) target.entries))) (sym fits.target-width) (width-rest target.entries long))

  pivot-rest : T (is_zero_of (drop (blocks * column_count * coefficient_count) pivot_left))
  pivot-rest =
      zero-later (wide * block_length) (blocks * column_count * coefficient_count) pivot_left (omega arith)
      (subst (λ n. T (is_zero_of (drop (n * block_length) pivot_left))) (width-left pivot fits.pivot-long ∙ sym fits.pivot-width)
      (width-rest pivot_left pivot-left-long))

  module _ {a b : Polynomial} (x : Shortened a g) (y : Shortened b h) where
    pub left-fits : PartsFit (blocks * column_count) a b target.entries pivot_left
    left-fits = record {
      multipliers = (shortened-fits a g x counted-g, shortened-fits b h y counted-h);
      whole = subst (λ n. n ≡ n / coefficient_count * coefficient_count) (sym long) refl;
      same = pivot-left-long ∙ sym long;
      count-in = omega (arith, long, blocks-most);
      target_small = (small-apart target fits.target_small).0;
      pivot-small = every_take small entries_length pivot fits.pivot-small;
      target-rest = target-rest;
      pivot-rest = pivot-rest;
    }

    pub right-fits : PartsFit 1 a b target.right (drop entries_length pivot)
    unfolding is_zero_of
    right-fits = record {
      multipliers = (shortened-fits a g x counted-g, shortened-fits b h y counted-h);
      whole = subst (λ n. n ≡ n / coefficient_count * coefficient_count) (sym fits.target-full.right-long) refl;
      same = other ∙ sym fits.target-full.right-long;
      count-in = omega (arith, fits.target-full.right-long);
      target_small = (small-apart target fits.target_small).1;
      pivot-small = every_drop small entries_length pivot fits.pivot-small;
      target-rest = subst (λ l. T (is_zero_of l)) (sym (drop_of_length-le target.right (le_of_eq fits.target-full.right-long))) tt;
      pivot-rest = subst (λ l. T (is_zero_of l)) (sym (drop_of_length-le (drop entries_length pivot) (le_of_eq other))) tt;
    }
      where
        other : length (drop entries_length pivot) ≡ coefficient_count
        other = rw length-drop (omega (arith, fits.pivot-long))

    -- The left parts and the right sides as the code combines them.
    pub left-made : {before : Known} {after : List ℤ} {r : Option Known}
        → PartsMade (combinations (length target.entries / coefficient_count) a b target.entries pivot_left) before after r
        → PartsMade left_sums_of before after r
    left-made {before} {after} {r} made =
        shortened-made a g b h x y polynomial_count target.entries pivot_left
        (subst (λ n. PartsMade (combinations (n / coefficient_count) a b target.entries pivot_left) before after r) long made)

    pub right-made : {before : Known} {after : List ℤ} {r : Option Known}
        → PartsMade (combinations (length target.right / coefficient_count) a b target.right (drop entries_length pivot)) before after r
        → PartsMade right_sums before after r
    right-made {before} {after} {r} made =
        shortened-made a g b h x y 1 target.right (drop entries_length pivot)
        (subst (λ n. PartsMade (combinations (n / coefficient_count) a b target.right (drop entries_length pivot)) before after r)
        fits.target-full.right-long made)

  sums-split : combinations part_count g h t pivot ≡ left_sums_of ++ right_sums
  unfolding combinations
  sums-split =
      ap₂ (zip_with f) (parts-append coefficient_count polynomial_count 1 t) (parts-append coefficient_count polynomial_count 1 pivot)
      ∙ zip_with-append f (parts coefficient_count polynomial_count t) (parts coefficient_count 1 (drop entries_length t))
      (parts coefficient_count polynomial_count pivot) (parts coefficient_count 1 (drop entries_length pivot))
      (parts-length coefficient_count polynomial_count t ∙ sym (parts-length coefficient_count polynomial_count pivot))
      ∙ ap₂ ◌++◌
      (ap₂ (zip_with f)
      (sym (parts-take coefficient_count polynomial_count entries_length t (le_refl entries_length))
      ∙ ap (parts coefficient_count polynomial_count) (take_at target.entries target.right entries_length long))
      (sym (parts-take coefficient_count polynomial_count entries_length pivot (le_refl entries_length))))
      (ap (λ s. zip_with f (parts coefficient_count 1 s) (parts coefficient_count 1 (drop entries_length pivot)))
      (drop_at target.entries target.right entries_length long))
    where
      f : Polynomial → Polynomial → Polynomial
      f p q = add (mul g p) (mul h q)

  degrees-split : every is_low (combinations part_count g h t pivot) ≡ (every is_low left_sums_of && every is_low right_sums)
  degrees-split = ap (every is_low) sums-split ∙ every_append is_low left_sums_of right_sums

  numbers-split : low_numbers part_count g h t pivot ≡ flatten (map low_part_of left_sums_of) ++ flatten (map low_part_of right_sums)
  numbers-split =
      ap (λ ps. flatten (map low_part_of ps)) sums-split ∙ ap flatten (map-append low_part_of left_sums_of right_sums)
      ∙ flatten-append (map low_part_of left_sums_of) (map low_part_of right_sums)

  undivided-is : (u : Bool) → every is_low (combinations part_count g h t pivot) ≡ u
      → undivided_of g h t pivot ≡ cond u (Some (whole_row (low_numbers part_count g h t pivot))) None
  unfolding undivided_of
  undivided-is u e = ap (λ v. cond v (Some (whole_row (low_numbers part_count g h t pivot))) None) e

  pub past-left : {before : Known} {after : List ℤ} → PartsMade left_sums_of before after None → None ≡ undivided_of g h t pivot
  past-left made =
      sym (undivided-is false (degrees-split ∙ ap (λ u. u && every is_low right_sums) (none-failed (every is_low left_sums_of) _ made.value)))

  pub past-right : {before : Known} {after : List ℤ} → PartsMade right_sums before after None → None ≡ undivided_of g h t pivot
  past-right made =
      sym (undivided-is false (degrees-split ∙ ap (λ u. every is_low left_sums_of && u) (none-failed (every is_low right_sums) _ made.value)
      ∙ and-false (every is_low left_sums_of)))

  -- Nothing is known yet.
  abbrev none : Known
  none = record { content = 0; within = true }

  -- The left part that was made is as long as one, and zero past the wider row's width.
  module _ {after : List ℤ} {left : Known} (made : PartsMade left_sums_of none after (Some left)) where
    left-passed : (every is_low left_sums_of ≡ true) × (left ≡ known_of (flatten (map low_part_of left_sums_of)) none)
    left-passed = some-passed (every is_low left_sums_of) made.value

    after-is : after ≡ flatten (map low_part_of left_sums_of)
    after-is = made.store left-passed.0

    pub after-long : length after ≡ entries_length
    after-long = ap length (after-is) ∙ length-low polynomial_count g h target.entries pivot_left

    pub after-width : width (row_of after) ≤ blocks
    after-width =
        width-bound after blocks (subst (λ l. T (is_zero_of (drop (blocks * block_length) l))) (sym (after-is)) rest)
      where
        numbers : List ℤ
        numbers = low_numbers polynomial_count g h target.entries pivot_left

        none : T (is_zero_of (drop (polynomial_count * coefficient_count) numbers))
        none =
            coeff-is_zero (drop (polynomial_count * coefficient_count) numbers)
            (λ i. coeff-drop (polynomial_count * coefficient_count) numbers i
            ∙ coeff-past-length numbers (polynomial_count * coefficient_count + i)
            (omega (arith, length-low polynomial_count g h target.entries pivot_left)))

        zeros : (i : ℕ) → blocks * column_count ≤ i → i < polynomial_count → T (is_zero_of (coefficients_at_of numbers i))
        zeros i above below =
            zero-part polynomial_count g h target.entries pivot_left i below
            (true_of _ ((T-&& (is_zero_of (coefficients_at_of target.entries i)) (is_zero_of (coefficients_at_of pivot_left i))).1 (
              part-zero target.entries (blocks * column_count) i above target-rest,
              part-zero pivot_left (blocks * column_count) i above pivot-rest,
            )))

        rest : T (is_zero_of (drop (blocks * block_length) numbers))
        rest =
            let same : blocks * column_count * coefficient_count ≡ blocks * block_length = omega arith in
            subst (λ n. T (is_zero_of (drop n numbers))) same
            (zero-from coefficient_count polynomial_count numbers none (polynomial_count - blocks * column_count) (blocks * column_count)
            (omega (arith, blocks-most)) zeros)

    pub made-whole : {other : List ℤ} {all : Known} → PartsMade right_sums left other (Some all)
        → Some (record { content = all.content; within = all.within; row = working_of after other }) ≡ undivided_of g h t pivot
    made-whole {other} {all} more =
        ap Some (ap (λ k. record { content = k.content; within = k.within; row = working_of after other }) known-is
        ∙ ap₂ (λ e s. record { content = content numbers; within = every small numbers; row = working_of e s })
        (sym (ap (take entries_length) joined ∙ take_at after other entries_length after-long))
        (sym (ap (drop entries_length) joined ∙ drop_at after other entries_length after-long)))
        ∙ sym (undivided-is true (degrees-split ∙ ap₂ ◌&&◌ left-passed.0 right-passed.0))
      where
        numbers : List ℤ
        numbers = low_numbers part_count g h t pivot

        right-passed : (every is_low right_sums ≡ true) × (all ≡ known_of (flatten (map low_part_of right_sums)) left)
        right-passed = some-passed (every is_low right_sums) more.value

        joined : numbers ≡ after ++ other
        joined = numbers-split ∙ ap₂ ◌++◌ (sym after-is) (sym (more.store right-passed.0))

        known-is : all ≡ record { content = content numbers; within = every small numbers }
        known-is =
            right-passed.1
            ∙ ap₂ known_of (sym (more.store right-passed.0)) (left-passed.1 ∙ ap (λ l. known_of l none) (sym after-is))
            ∙ known-twice after other none ∙ ap (λ l. known_of l none) (sym joined)
            ∙ ap (λ c. record { content = c; within = every small numbers }) (gcd-zero (content numbers))

  -- ---- the row after its division

  abbrev combination : Row
  combination = combine g h (row_of t) (row_of pivot)

  abbrev all-numbers : List ℤ
  all-numbers = low_numbers part_count g h t pivot

  some : 0 < length g
  some = omega (arith, fits.g-long)

  t-long : length t ≡ row_length
  t-long = length-held target fits.target-full

  low-is : low_degrees combination ≡ every is_low (combinations part_count g h t pivot)
  low-is = low-degrees g h t pivot

  pub combined-past : undivided_of g h t pivot ≡ None → consistent (limit_degrees (primitive combination)) ≡ beyond 7
  combined-past past =
      limit-past combination
      (low-is ∙ none-failed (every is_low (combinations part_count g h t pivot)) _ (sym past ∙ undivided-is (every is_low (combinations part_count g h t pivot)) refl))

  module _ {c : Combination} (made : undivided_of g h t pivot ≡ Some c) where
    all-passed : (every is_low (combinations part_count g h t pivot) ≡ true) × (c ≡ whole_row all-numbers)
    all-passed =
        some-passed (every is_low (combinations part_count g h t pivot))
        (sym made ∙ undivided-is (every is_low (combinations part_count g h t pivot)) refl)

    all-low : every is_low (combinations part_count g h t pivot) ≡ true
    all-low = all-passed.0

    pub undivided-whole : c ≡ whole_row all-numbers
    undivided-whole = all-passed.1

    abbrev pub wholly : WorkingRow
    wholly = working_of (take entries_length all-numbers) (drop entries_length all-numbers)

    all-long : length all-numbers ≡ row_length
    all-long = length-low part_count g h t pivot

    pub wholly-full : Full wholly
    wholly-full =
        full-of (take entries_length all-numbers) (drop entries_length all-numbers) (left-long all-numbers all-long)
        (rw length-drop (omega (arith, all-long)))

    pub wholly-held : numbers_held wholly ≡ all-numbers
    wholly-held = take-append-drop entries_length all-numbers

    pub all-below : Below (2 ^ 63) all-numbers
    all-below =
        numbers-below g h t pivot part_count
        (le_of_eq fits.g-long, le_of_eq fits.h-long, fits.g-small, fits.h-small, fits.target_small, fits.pivot-small)

    new_is : limit_degrees (primitive combination) ≡ limit_coefficients (row_of (primitive_numbers all-numbers))
    new_is =
        let fine = low-is ∙ all-low in
        limit-low combination fine
        ∙ ap limit_coefficients (sym (row_of-coefficients_of (cut (primitive combination)) (StoreRow-primitive g h t pivot some t-long))
        ∙ ap row_of (cut-primitive combination (true-T _ fine) ∙ ap primitive_numbers (cut_low g h t pivot some t-long)))

    -- Divided by its content, or left as it is.
    pub new-divided : (d : ℤ) → d ≡ pos (content all-numbers) → 1 < content all-numbers
        → limit_coefficients (divided_row_of wholly d) ≡ limit_degrees (primitive combination)
    new-divided d e many =
        ap limit_coefficients (ap₂ (λ z l. row_of (divide_by (nat_abs z) l)) e wholly-held ∙ ap row_of (sym (primitive-divided all-numbers many)))
        ∙ sym new_is

    pub new-kept : content all-numbers ≤ 1 → limit_coefficients (row_of (numbers_held wholly)) ≡ limit_degrees (primitive combination)
    new-kept few = ap (λ l. limit_coefficients (row_of l)) (wholly-held ∙ sym (primitive-kept all-numbers few)) ∙ sym new_is

    pub wholly-divisible : (d : ℤ) → d ≡ pos (content all-numbers) → 1 < content all-numbers → Divisible wholly d
    wholly-divisible d e many = record {
      full = wholly-full;
      width_is = refl;
      entries_below = below-front entries_length all-numbers all-below;
      right-below = below_rest entries_length all-numbers all-below;
      positive = subst (λ z. T (lt_z (pos 0) z)) (sym e) (lt→ltb 0 (content all-numbers) (omega arith));
      divides = subst (λ n. n ∣ content (numbers_held wholly)) (sym (ap nat_abs e)) (rw wholly-held (dvd_refl (content all-numbers)));
    }
