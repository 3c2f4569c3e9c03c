-- The place of the first nonzero polynomial as the code gives it, the columns that an order may hold, and what the searches in a row
-- go by.
--
-- Main definitions
--   found_or n o           the found place, or n if there is none
--   Columns order         every number of the order is a column, counted from 0
--   entries_at r order w   the leading entries of a row at the first w columns of an order
--
-- Main statements
--   first_nonzero-none, first_nonzero-some   no nonzero polynomial; zero polynomials up to one that is nonzero
--   get_or-entries_at                         the leading entry at a column of the order
--   column-none, column-some               the first nonzero column of a row, by its first nonzero number
--   width_of-zero, width_of-nonzero          the width with one block more, zero or nonzero
--   width_of-within                         the width of the first blocks, past which there are zeros
--   zero-later, zero-from                  zeros from a place on are zeros from any later one on; a list is zero from part b on where its parts from there on are zero
--   width-most, width-rest                 a left part is no wider than its blocks, and zero past its width
use Rattle.std.specs.Prelude.{ℕ, zero, suc, ◌+◌, ◌*◌, ◌-◌, ◌/◌, ◌%◌, ◌≤◌, ◌<◌, ◌≡◌, refl, ◌≢◌, Bool, true, false, ◌&&◌, cond, List, [], ◌∷◌, ◌++◌, map, T, eqb, ℤ, pos, length, take, drop, get_or}
use Rattle.std.proofs.Common.{zero-le, not-suc-le-zero, le_of_suc-le-suc, le_refl, le_of_eq, zero-add, suc-mul, add-sub_of_le, arith, sym, ◌∙◌, ap, subst, lit<, lit≤, drop_of_length-le, take-add, length-take-le, get_or-take, get_or-drop}
use Rattle.std.proofs.Math.Option
use Rattle.std.proofs.Math.Option.{Option, none, some}
use Rattle.std.proofs.Math.Dec.{eqb-suc-zero}
use Rattle.std.proofs.lemmas.List.{length-map}
use Rattle.std.proofs.Math.ListN.{get_or-map}
use Rattle.algebra.specs.Polynomials.{Polynomial, is_zero_ℤ, is_zero_of, is_zero-append}
use Rattle.lists.specs.Tests.{T-&&, true-T, both_true, every, every-longer}
use Rattle.polynomials.specs.Content.{is_zero-false}
use Rattle.rules.specs.Rows.{Block, Row, zero_block, width, width_of, leading_block, entry, first_nonzero}
use Rattle.lists.specs.Everywhere.{All}
use Rattle.lists.specs.Places.{get_or_default}
use Rattle.rules.specs.Stores.{row_of}
use Rattle.lists.specs.Parts.{take-parts, parts-length, get_or-parts, parts-take}
use Rattle.stores.specs.Flat.{is_zero-every, is_zero-split, every-parts, length-blocks, block-at, zero_block-at}
use Rattle.rules.specs.Limits.{coefficient_count, column_count, block_count, block_length, entries_length}
use Rattle.rules.specs.Layout.{block_of, coefficients_at_of}

unfoldable pub found_or : ℕ → Option ℕ → ℕ
found_or n none = n
found_or n (some k) = k

unfoldable pub Columns : List ℕ → Type 0
unfolding All
Columns order = All (λ c. c < column_count) order

-- ---- the first nonzero polynomial of a list

pub first_nonzero-none : (ps : List Polynomial) → every is_zero_of ps ≡ true → first_nonzero ps ≡ none
unfolding first_nonzero every
first_nonzero-none [] z = refl
first_nonzero-none (p ∷ ps) z = step (both_true (is_zero_of p) (every is_zero_of ps) z) (first_nonzero-none ps)
  where
    step : (is_zero_of p ≡ true) × (every is_zero_of ps ≡ true) → (every is_zero_of ps ≡ true → first_nonzero ps ≡ none)
        → cond (is_zero_of p) (Option.map suc (first_nonzero ps)) (some 0) ≡ none
    step e later = rw (e.0, later e.1)

pub first_nonzero-some : (ps : List Polynomial) (j : ℕ) → j < length ps → every is_zero_of (take j ps) ≡ true → is_zero_of (get_or ps j []) ≡ false
    → first_nonzero ps ≡ some j
unfolding first_nonzero every
first_nonzero-some [] j h z n = absurd (not-suc-le-zero h)
first_nonzero-some (p ∷ ps) zero h z n = ap (λ t. cond t (Option.map suc (first_nonzero ps)) (some 0)) n
first_nonzero-some (p ∷ ps) (suc j) h z n =
    step (both_true (is_zero_of p) (every is_zero_of (take j ps)) z) (λ e. first_nonzero-some ps j (le_of_suc-le-suc h) e n)
  where
    step : (is_zero_of p ≡ true) × (every is_zero_of (take j ps) ≡ true) → (every is_zero_of (take j ps) ≡ true → first_nonzero ps ≡ some j)
        → cond (is_zero_of p) (Option.map suc (first_nonzero ps)) (some 0) ≡ some (suc j)
    step e later = rw (e.0, later e.1)

-- ---- the first settled column that is met

pub Columns-at : (order : List ℕ) → Columns order → (j : ℕ) → get_or order j 0 < column_count
unfolding Columns All
Columns-at [] h j = lit< tt
Columns-at (c ∷ order) h zero = h.0
Columns-at (c ∷ order) h (suc j) = Columns-at order h.1 j

-- The leading entries of a row at the first w columns of an order.
abbrev pub entries_at : Row → List ℕ → ℕ → List Polynomial
entries_at r order w = map (entry r) (take w order)

pub length-entries_at : (r : Row) (order : List ℕ) (w : ℕ) → w ≤ length order → length (entries_at r order w) ≡ w
length-entries_at r order w h = length-map (take w order) (entry r) ∙ length-take-le w order h

pub get_or-entries_at : (r : Row) (order : List ℕ) (w j : ℕ) → w ≤ length order → j < w
    → get_or (entries_at r order w) j [] ≡ entry r (get_or order j 0)
get_or-entries_at r order w j h inside =
    get_or_default (map (entry r) (take w order)) j [] (entry r 0) (rw (length-map, length-take-le w order h) inside)
    ∙ get_or-map (entry r) (take w order) j 0 ∙ ap (entry r) (get_or-take w order j 0 inside)

-- ---- the first nonzero column of a row

-- The front of a zero list is zero.
is_zero-front : (l : List ℤ) (j i : ℕ) → j ≤ i → is_zero_of (take i l) ≡ true → is_zero_of (take j l) ≡ true
is_zero-front l j i h z = (both_true _ (is_zero_of (take (i - j) (drop j l))) (sym (is_zero-append (take j l) _) ∙ ap is_zero_of split ∙ z)).0
  where
    split : take j l ++ take (i - j) (drop j l) ≡ take i l
    split = sym (take-add j (i - j) l) ∙ ap (λ n. take n l) (add-sub_of_le h)

-- One zero more.
pub is_zero-longer : (l : List ℤ) (i : ℕ) → i < length l → is_zero_of (take i l) ≡ true → get_or l i (pos 0) ≡ pos 0
    → is_zero_of (take (i + 1) l) ≡ true
unfolding is_zero_ℤ
is_zero-longer l i h z e =
    is_zero-every (take (i + 1) l)
    ∙ every-longer is_zero_ℤ l i (pos 0) h (sym (is_zero-every (take i l)) ∙ z) (ap is_zero_ℤ e)

leading_block-parts : (l : List ℤ) → leading_block (row_of l) ≡ block_of l
unfolding leading_block
leading_block-parts l = block-at l 0 (lit< tt) ∙ parts-take coefficient_count column_count block_length l (lit≤ tt)

pub column-none : (l : List ℤ) → is_zero_of (take block_length l) ≡ true → first_nonzero (leading_block (row_of l)) ≡ none
column-none l z = ap first_nonzero (leading_block-parts l) ∙ first_nonzero-none (block_of l) (every-parts coefficient_count column_count l ∙ z)

-- The column of the first nonzero number of the leading block.
pub column-some : (l : List ℤ) (i : ℕ) → i < block_length → is_zero_of (take i l) ≡ true → get_or l i (pos 0) ≢ pos 0
    → first_nonzero (leading_block (row_of l)) ≡ some (i / coefficient_count)
column-some l i h z n =
    ap first_nonzero (leading_block-parts l)
    ∙ first_nonzero-some (block_of l) (i / coefficient_count) (rw parts-length (omega arith)) zeros nonzero
  where
    zeros : every is_zero_of (take (i / coefficient_count) (block_of l)) ≡ true
    zeros =
        ap (every is_zero_of) (take-parts coefficient_count column_count (i / coefficient_count) l (omega arith))
        ∙ every-parts coefficient_count (i / coefficient_count) l
        ∙ is_zero-front l (i / coefficient_count * coefficient_count) i (omega arith) z

    place : get_or (coefficients_at_of l (i / coefficient_count)) (i % coefficient_count) (pos 0) ≡ get_or l i (pos 0)
    place =
        get_or-take coefficient_count (drop (i / coefficient_count * coefficient_count) l) (i % coefficient_count) (pos 0) (omega arith)
        ∙ get_or-drop (i / coefficient_count * coefficient_count) l (i % coefficient_count) (pos 0)
        ∙ ap (λ j. get_or l j (pos 0)) (omega arith)

    nonzero : is_zero_of (get_or (block_of l) (i / coefficient_count) []) ≡ false
    nonzero =
        rw (get_or-parts coefficient_count column_count l (i / coefficient_count) (omega arith))
        (is_zero-false _ (i % coefficient_count) (λ e. n (sym place ∙ e)))

-- ---- the width of a row, from the lowest block up

pub width_of-zero : (bs : List Block) (n : ℕ) → zero_block (get_or bs n []) ≡ true → width_of (take (suc n) bs) ≡ width_of (take n bs)
unfolding width_of
width_of-zero [] zero z = refl
width_of-zero [] (suc n) z = refl
width_of-zero (b ∷ bs) zero z = ap (λ t. cond t 0 1) z
width_of-zero (b ∷ bs) (suc n) z = ap (λ w. cond (eqb w 0 && zero_block b) 0 (suc w)) (width_of-zero bs n z)

pub width_of-nonzero : (bs : List Block) (n : ℕ) → n < length bs → zero_block (get_or bs n []) ≡ false → width_of (take (suc n) bs) ≡ suc n
unfolding width_of
width_of-nonzero [] n h z = absurd (not-suc-le-zero h)
width_of-nonzero (b ∷ bs) zero h z = ap (λ t. cond t 0 1) z
width_of-nonzero (b ∷ bs) (suc n) h z =
    ap (λ w. cond (eqb w 0 && zero_block b) 0 (suc w)) (width_of-nonzero bs n (le_of_suc-le-suc h) z)
    ∙ ap (λ t. cond (t && zero_block b) 0 (suc (suc n))) (eqb-suc-zero n)

-- The blocks past the width do not count.
pub width_of-within : (bs : List Block) (n : ℕ) → width_of bs ≤ n → width_of (take n bs) ≡ width_of bs
unfolding width_of
width_of-within [] zero h = refl
width_of-within [] (suc n) h = refl
width_of-within (b ∷ bs) zero h = omega arith
width_of-within (b ∷ bs) (suc n) h =
    ap (λ w. cond (eqb w 0 && zero_block b) 0 (suc w)) (width_of-within bs n (cases (width_of bs) (zero_block b) h))
  where
    cases : (k : ℕ) (t : Bool) → cond (eqb k 0 && t) 0 (suc k) ≤ suc n → k ≤ n
    cases zero t g = zero-le
    cases (suc k) t g = le_of_suc-le-suc (rw (eqb-suc-zero k) at g)

-- No row is wider than its blocks, and past the width these are zero.
width_of-le : (bs : List Block) → width_of bs ≤ length bs
unfolding width_of
width_of-le [] = zero-le
width_of-le (b ∷ bs) = cases (eqb (width_of bs) 0 && zero_block b) (width_of-le bs)
  where
    cases : {k n : ℕ} (t : Bool) → k ≤ n → cond t 0 (suc k) ≤ suc n
    cases true h = zero-le
    cases false h = omega arith

width_of-past : (bs : List Block) (n : ℕ) → n < length bs → width_of bs ≤ n → zero_block (get_or bs n []) ≡ true
unfolding width_of
width_of-past [] n h w = absurd (not-suc-le-zero h)
width_of-past (b ∷ bs) zero h w = cases (width_of bs) (zero_block b) w
  where
    cases : (k : ℕ) (t : Bool) → cond (eqb k 0 && t) 0 (suc k) ≤ 0 → t ≡ true
    cases zero true g = refl
    cases zero false g = absurd (not-suc-le-zero g)
    cases (suc k) t g = absurd (not-suc-le-zero (rw (eqb-suc-zero k) at g))
width_of-past (b ∷ bs) (suc n) h w = width_of-past bs n (le_of_suc-le-suc h) (cases (width_of bs) (zero_block b) w)
  where
    cases : (k : ℕ) (t : Bool) → cond (eqb k 0 && t) 0 (suc k) ≤ suc n → k ≤ n
    cases zero t g = zero-le
    cases (suc k) t g = le_of_suc-le-suc (rw (eqb-suc-zero k) at g)

-- Zeros from a place on are zeros from any later one on.
pub zero-later : (a b : ℕ) (l : List ℤ) → a ≤ b → T (is_zero_of (drop a l)) → T (is_zero_of (drop b l))
zero-later a b l h z =
    subst (λ i. T (is_zero_of (drop i l))) (add-sub_of_le h)
    ((T-&& (is_zero_of (take (b - a) (drop a l))) (is_zero_of (drop (a + (b - a)) l))).0 (subst T (is_zero-split (b - a) a l) z)).1

-- A list of parts of width k that are zero from part b on, and zero past part n too.
pub zero-from : (k n : ℕ) (l : List ℤ) → T (is_zero_of (drop (n * k) l)) → (j b : ℕ) → j + b ≡ n
    → ((i : ℕ) → b ≤ i → i < n → T (is_zero_of (take k (drop (i * k) l)))) → T (is_zero_of (drop (b * k) l))
zero-from k n l past zero b e h = subst (λ i. T (is_zero_of (drop (i * k) l))) (sym e ∙ zero-add b) past
zero-from k n l past (suc j) b e h =
    let later = zero-from k n l past j (suc b) (omega arith) (λ i g. h i (omega arith)) in
    let next : b * k + k ≡ suc b * k = omega (arith, suc-mul b k) in
    rw (is_zero-split k (b * k) l, next) ((T-&& (is_zero_of (take k (drop (b * k) l))) (is_zero_of (drop (suc b * k) l))).1 (h b (le_refl b) (omega arith), later))

pub width-most : (l : List ℤ) → width (row_of l) ≤ block_count
unfolding width
width-most l = subst (λ n. width (row_of l) ≤ n) (length-blocks l) (width_of-le (row_of l).blocks)

pub width-rest : (l : List ℤ) → length l ≡ entries_length → T (is_zero_of (drop (width (row_of l) * block_length) l))
unfolding width is_zero_of
width-rest l long =
    let none = subst (λ r. T (is_zero_of r)) (sym (drop_of_length-le l (le_of_eq long))) tt in
    zero-from block_length block_count l none (block_count - width (row_of l)) (width (row_of l)) (omega (arith, width-most l))
    (λ b h i. true-T _ (sym (zero_block-at l b i) ∙ width_of-past (row_of l).blocks b (rw (length-blocks l) i) h))
