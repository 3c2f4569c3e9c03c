-- What the functions that write a sheet go by: the bytes of terms, lines and the whole sheet.
--
-- Main definitions
--   term_at_of, numbers_of, nonzero_count, Lengths   the numbers of one term, of several, how many there are, and their lengths
--   SmallParts        the parts of a store hold numbers within ±C
--   Unused, UnusedParts   what is not in use of a row, and of the rows of a store, holds no term
--   sheet_given        the sheet of a system in stores, with the columns that are written
--   side_in, sides_in, sides_given   the right side of a record, those of a store's records, and those of a system in stores
--
-- Main statements
--   trim-nonzero, trim-more, trim-front, trim-take   how many coefficients a term has, and which
--   block-next, terms-next, lines_next   one term, one block, one line more
--   term-count        the number of terms of a row is that of its nonzero polynomials
--   unused            what passes the check of unused places holds no term there
--   equation-line, relation-line, order-line, side-line, sizes-line   the lines of a sheet, as they are written
--   record-place, record-early, side-at, side-get   where a record stands, and its right side
--   lines-append      the lines of lists joined
--   sides-none, sides-some   the fifth section, as it is written
--   sheet-bytes       the bytes of a sheet, section by section
use Rattle.std.specs.Prelude.{◌≡◌, Bool, true, false, ◌&&◌, cond, ◌≢◌, T, eqb, ℤ, pos, nat_abs, neg_ℤ, ◌+ℤ◌, ◌-ℤ◌, take, drop, get_or, set}
use Rattle.std.proofs.Math.Path.{refl, ap, fun_ext}
use Rattle.std.proofs.Common.{sym, ◌∙◌, ap₂, subst, zero-add, suc-add, suc-mul, mul-le-mul, mul-le-mul_right, le_of_suc-le-suc, not-suc-le-zero, add-one, below_more, ne_eqb, length-append, length-take, take-append-drop, drop_of_length-le, take-suc, length-take-le, take-take, drop-drop, get_or-take, get_or-drop, get_or-set_same, get_or-set_other}
use Rattle.std.proofs.Math.Bool.{and-true}
use mathlib.Core.List.{List, [], ◌∷◌, ◌++◌, map, flatten, append_assoc, append-nil, map-append, map-map}
use Prim.Native.Nat.{ℕ, zero, suc, ◌+◌, ◌-◌, ◌*◌, ◌/◌, ◌%◌, ◌≤◌, ◌<◌}
use Rattle.std.proofs.Math.Nat.{add-mul}
use native.Mathlib.Omega.{arith}
use Rattle.std.proofs.Math.Dec.{eqb-suc-zero}
use Rattle.std.proofs.Math.IntN.{pred_ℤ, neg_ℤ-suc_ℤ, +ℤ-pred_ℤ}
use Rattle.std.proofs.Math.ListN.{length, length-map}
use Rattle.algebra.specs.Integers.{nat_abs-+ℤ, nat_abs-neg_ℤ}
use Rattle.algebra.specs.Polynomials.{Polynomial, coeff, is_zero_of, is_zero-cons, is_zero-coeff, is_zero-append}
use Rattle.lists.specs.Images.{get_or_map}
use Rattle.lists.specs.Taken.{drop-take, part-of-part}
use Rattle.rules.specs.Limits.{coefficient_count, small, column_count, most_span, block_count, polynomial_count, block_length, block_bound}
use Rattle.rules.specs.Limits.{entries_length, row_length, relation_length, most_relations}
use Rattle.rules.specs.Rows.{Block, zero_block}
use Rattle.lists.specs.Tests.{true_of, T-&&, every, every-cons, every-from-at}
use Rattle.rules.specs.Stores.{Sizes, row_of, rows_of, relation_of, relations_of, equations, unused_zero_of}
use Rattle.lists.specs.Parts.{parts, parts-length, get_or-parts, parts_next, parts-end, parts-parts, held_next, held-end}
use Rattle.rules.specs.Layout.{length-rows_of, length-relations_of, block_of, coefficients_at_of, block_at, polynomials_in, polynomial-at-row}
use Rattle.rules.specs.Sheets.{Sheet, Term, trim, block_terms_of, terms_from, term_numbers}
use Rattle.rules.specs.Sheets.{equation_numbers, relation_line, order_line, sides_of, side_line, side_lines, sheet_lines, write_sheet_of}
use Rattle.rules.specs.Numbers.{newline, decimal, line, lines}
use Rattle.number_texts.specs.Runs.{Going, Put, going_next, put_same, going-last}
use Rattle.number_texts.specs.Texts.{spaced, spaced-append, digits_of, decimal-count, line-is}

-- The first n parts of k numbers are within ±C.
abbrev pub SmallParts : ℕ → ℕ → List ℤ → Type 0
SmallParts k n l = (i : ℕ) → i < n → T (every small (take k (drop (i * k) l)))

-- ---- a polynomial without its zero high coefficients

nonzero-length : (t : Bool) (a : ℤ) (q : Polynomial) (n : ℕ) → (T t → ⊥) → length q ≡ n → length (cond t [] (a ∷ q)) ≡ suc n
nonzero-length true a q n h e = absurd (h tt)
nonzero-length false a q n h e = ap suc e

pub trim-none : (p : Polynomial) → T (is_zero_of p) → trim p ≡ []
unfolding trim
trim-none [] h = refl
trim-none (a ∷ p) h = zero-case (is_zero_of (a ∷ p)) h
  where
    zero-case : (t : Bool) → T t → cond t [] (a ∷ trim p) ≡ []
    zero-case true h = refl
    zero-case false h = absurd h

-- The highest nonzero coefficient is the last one that is left.
pub trim-length : (p : Polynomial) (n : ℕ) → n < length p → get_or p n (pos 0) ≢ pos 0 → T (is_zero_of (drop (suc n) p)) → length (trim p) ≡ suc n
unfolding trim coeff
trim-length [] n h ne z = absurd (not-suc-le-zero h)
trim-length (a ∷ p) zero h ne z =
    nonzero-length (is_zero_of (a ∷ p)) a (trim p) 0 (λ t. ne ((is_zero-cons a p).0 t).0) (ap length (trim-none p z))
trim-length (a ∷ p) (suc n) h ne z =
    nonzero-length (is_zero_of (a ∷ p)) a (trim p) (suc n) (λ t. ne (is_zero-coeff p ((is_zero-cons a p).0 t).1 n))
    (trim-length p n (le_of_suc-le-suc h) ne z)

pub is_zero-trim : (p : Polynomial) → is_zero_of p ≡ eqb (length (trim p)) 0
unfolding trim is_zero_of
is_zero-trim [] = refl
is_zero-trim (a ∷ p) = cases (is_zero_of (a ∷ p))
  where
    cases : (t : Bool) → t ≡ eqb (length (cond t [] (a ∷ trim p))) 0
    cases true = refl
    cases false = sym (eqb-suc-zero (length (trim p)))

pub trim-take : (p : Polynomial) → take (length (trim p)) p ≡ trim p
unfolding trim
trim-take [] = refl
trim-take (a ∷ p) = cases (is_zero_of (a ∷ p)) (trim-take p)
  where
    cases : (t : Bool) → take (length (trim p)) p ≡ trim p → take (length (cond t [] (a ∷ trim p))) (a ∷ p) ≡ cond t [] (a ∷ trim p)
    cases true e = refl
    cases false e = ap (λ q. a ∷ q) e

pub trim-le : (p : Polynomial) → length (trim p) ≤ length p
trim-le p = subst (λ q. length q ≤ length p) (trim-take p) (rw length-take (omega arith))

-- One coefficient more: a nonzero one is the last that is left, and a zero changes nothing.
pub trim-nonzero : (p : Polynomial) (i : ℕ) → i < length p → get_or p i (pos 0) ≢ pos 0 → length (trim (take (suc i) p)) ≡ suc i
unfolding is_zero_of
trim-nonzero p i h ne =
    let size = length-take-le (suc i) p h in
    trim-length (take (suc i) p) i (omega arith) (rw (get_or-take (suc i) p i (pos 0) (omega arith)) ne)
    (rw (drop_of_length-le (take (suc i) p) {i = suc i} (omega arith)) tt)

-- Zeros at the end change nothing.
trim-zeros : (p q : Polynomial) → T (is_zero_of q) → trim (p ++ q) ≡ trim p
unfolding trim is_zero_of
trim-zeros [] q z = trim-none q z
trim-zeros (b ∷ p) q z =
    ap₂ (λ t r. cond t [] (b ∷ r))
    (is_zero-append (b ∷ p) q ∙ ap (λ t. is_zero_of (b ∷ p) && t) (true_of (is_zero_of q) z) ∙ and-true (is_zero_of (b ∷ p))) (trim-zeros p q z)

pub trim-front : (p : Polynomial) (k : ℕ) → T (is_zero_of (drop k p)) → length (trim (take k p)) ≡ length (trim p)
trim-front p k z = ap length (sym (trim-zeros (take k p) (drop k p) z) ∙ ap trim (take-append-drop k p))

pub trim-more : (p : Polynomial) (i : ℕ) → i < length p → get_or p i (pos 0) ≡ pos 0
    → length (trim (take (suc i) p)) ≡ length (trim (take i p))
unfolding is_zero_of
trim-more p i h e =
    ap (λ q. length (trim q)) (take-suc p i (pos 0) h ∙ ap (λ a. take i p ++ (a ∷ [])) e) ∙ ap length (trim-zeros (take i p) (pos 0 ∷ []) tt)

-- ---- the numbers of terms

-- The numbers of one term, none for a zero polynomial.
unfoldable pub term_at_of : ℤ → ℕ → Polynomial → List ℤ
unfolding term_numbers trim is_zero_of
term_at_of s c p = cond (is_zero_of p) [] (term_numbers (record { block = s; column = c; polynomial = trim p }))

pub term-none : (s : ℤ) (c : ℕ) (p : Polynomial) → length (trim p) ≡ 0 → term_at_of s c p ≡ []
unfolding term_at_of
term-none s c p e = rw (is_zero-trim p ∙ ap (λ n. eqb n 0) e)

pub term-some : (s : ℤ) (c n : ℕ) (p : Polynomial) → n ≡ length (trim p) → n ≢ 0 → term_at_of s c p ≡ s ∷ pos c ∷ pos n ∷ take n p
unfolding term_at_of term_numbers
term-some s c n p e ne =
    rw (is_zero-trim p ∙ ne_eqb (length (trim p)) 0 (λ z. ne (e ∙ z)))
    (ap (λ q. s ∷ pos c ∷ pos (length (trim p)) ∷ q) (sym (trim-take p)) ∙ ap (λ m. s ∷ pos c ∷ pos m ∷ take m p) (sym e))

unfoldable pub numbers_of : List Term → List ℤ
unfolding flatten term_numbers
numbers_of es = flatten (map term_numbers es)

numbers_of-append : (es fs : List Term) → numbers_of (es ++ fs) ≡ numbers_of es ++ numbers_of fs
unfolding numbers_of flatten
numbers_of-append [] fs = refl
numbers_of-append (e ∷ es) fs =
    ap (λ r. term_numbers e ++ r) (numbers_of-append es fs) ∙ sym (append_assoc (term_numbers e) (numbers_of es) (numbers_of fs))

pub block-cons : (s : ℤ) (c : ℕ) (p : Polynomial) (b : Block)
    → numbers_of (block_terms_of s c (p ∷ b)) ≡ term_at_of s c p ++ numbers_of (block_terms_of s (suc c) b)
unfolding numbers_of block_terms_of term_at_of flatten
block-cons s c p b = cases (is_zero_of p)
  where
    cases : (t : Bool)
        → numbers_of (cond t (block_terms_of s (suc c) b) (record { block = s; column = c; polynomial = trim p } ∷ block_terms_of s (suc c) b))
        ≡ cond t [] (term_numbers (record { block = s; column = c; polynomial = trim p })) ++ numbers_of (block_terms_of s (suc c) b)
    cases true = refl
    cases false = refl

pub terms-cons : (s : ℤ) (b : Block) (bs : List Block)
    → numbers_of (terms_from s (b ∷ bs)) ≡ numbers_of (block_terms_of s 1 b) ++ numbers_of (terms_from (pred_ℤ s) bs)
unfolding terms_from
terms-cons s b bs = numbers_of-append (block_terms_of s 1 b) (terms_from (pred_ℤ s) bs)

-- ---- the number of terms

unfoldable pub nonzero_count : List Polynomial → ℕ
unfolding is_zero_of
nonzero_count [] = 0
nonzero_count (p ∷ ps) = let more = nonzero_count ps in cond (is_zero_of p) more (suc more)

nonzero_count-append : (ps qs : List Polynomial) → nonzero_count (ps ++ qs) ≡ nonzero_count ps + nonzero_count qs
unfolding nonzero_count
nonzero_count-append [] qs = sym (zero-add (nonzero_count qs))
nonzero_count-append (p ∷ ps) qs = cases (is_zero_of p) (nonzero_count-append ps qs)
  where
    cases : (t : Bool) → nonzero_count (ps ++ qs) ≡ nonzero_count ps + nonzero_count qs
        → cond t (nonzero_count (ps ++ qs)) (suc (nonzero_count (ps ++ qs)))
        ≡ cond t (nonzero_count ps) (suc (nonzero_count ps)) + nonzero_count qs
    cases true e = e
    cases false e = ap suc e ∙ sym (suc-add (nonzero_count ps) (nonzero_count qs))

length-block_terms : (s : ℤ) (c : ℕ) (b : Block) → length (block_terms_of s c b) ≡ nonzero_count b
unfolding block_terms_of nonzero_count
length-block_terms s c [] = refl
length-block_terms s c (p ∷ b) = cases (is_zero_of p) _ _ _ (length-block_terms s (suc c) b)
  where
    cases : (t : Bool) (e : Term) (es : List Term) (n : ℕ) → length es ≡ n → length (cond t es (e ∷ es)) ≡ cond t n (suc n)
    cases true e es n h = h
    cases false e es n h = ap suc h

length-terms_from : (s : ℤ) (bs : List Block) → length (terms_from s bs) ≡ nonzero_count (flatten bs)
unfolding terms_from nonzero_count flatten
length-terms_from s [] = refl
length-terms_from s (b ∷ bs) =
    length-append (block_terms_of s 1 b) (terms_from (pred_ℤ s) bs)
    ∙ ap₂ ◌+◌ (length-block_terms s 1 b) (length-terms_from (pred_ℤ s) bs)
    ∙ sym (nonzero_count-append b (flatten bs))

pub term-count : (s : ℤ) (l : List ℤ) → length (terms_from s (row_of l).blocks) ≡ nonzero_count (polynomials_in l)
unfolding row_of
term-count s l =
    length-terms_from s (row_of l).blocks ∙ ap nonzero_count (parts-parts coefficient_count column_count block_count l)

-- ---- parts of one width, one after the other

-- One polynomial more is counted, unless it is zero.
pub count_none : (l : List ℤ) (i n : ℕ) → i < polynomial_count → n ≡ length (trim (coefficients_at_of l i)) → n ≡ 0
    → nonzero_count (drop i (polynomials_in l)) ≡ nonzero_count (drop (i + 1) (polynomials_in l))
unfolding nonzero_count
count_none l i n h e none =
    rw (parts_next coefficient_count polynomial_count l i h, is_zero-trim (coefficients_at_of l i), sym e ∙ none)

pub count-some : (l : List ℤ) (i n : ℕ) → i < polynomial_count → n ≡ length (trim (coefficients_at_of l i)) → n ≢ 0
    → nonzero_count (drop i (polynomials_in l)) ≡ suc (nonzero_count (drop (i + 1) (polynomials_in l)))
unfolding nonzero_count
count-some l i n h e some =
    let part = coefficients_at_of l i in
    rw (parts_next coefficient_count polynomial_count l i h, is_zero-trim part, ne_eqb (length (trim part)) 0 (λ z. some (e ∙ z)))

-- ---- the places of a row that are not in use

block-zero : (s : ℤ) (c : ℕ) (b : Block) → T (zero_block b) → block_terms_of s c b ≡ []
unfolding block_terms_of zero_block every
block-zero s c [] h = refl
block-zero s c (p ∷ b) h =
    let both = (every-cons is_zero_of p b).0 h in
    cases (is_zero_of p) _ both.0 (block-zero s (suc c) b both.1)
  where
    cases : (t : Bool) (e : Term) {es : List Term} → T t → es ≡ [] → cond t es (e ∷ es) ≡ []
    cases true e h none = none
    cases false e h none = absurd h

terms-zero : (s : ℤ) (bs : List Block) → T (every zero_block bs) → terms_from s bs ≡ []
unfolding terms_from
terms-zero s [] h = refl
terms-zero s (b ∷ bs) h =
    let both = (every-cons zero_block b bs).0 h in
    ap₂ ◌++◌ (block-zero s 1 b both.0) (terms-zero (pred_ℤ s) bs both.1)

-- There are no terms past so many blocks.
abbrev pub NoTerms : ℕ → List ℤ → Type 0
NoTerms blocks row = (s : ℤ) → terms_from s (drop blocks (row_of row).blocks) ≡ []

-- The polynomials of a row past column m, and past so many blocks, are zero (SCOPE 3.34): they are no terms.
pub record Unused (m blocks : ℕ) (row : List ℤ) : Type 0 where
  pub columns : (i : ℕ) → i < polynomial_count → m ≤ i % column_count → T (is_zero_of (coefficients_at_of row i))
  pub rest : nonzero_count (drop (blocks * column_count) (polynomials_in row)) ≡ 0
  pub terms : NoTerms blocks row

-- So is each of the first n parts of k numbers, behind its first `skip` ones.
abbrev pub UnusedParts : ℕ → ℕ → ℕ → ℕ → ℕ → List ℤ → Type 0
UnusedParts m blocks skip k n l = (i : ℕ) → i < n → Unused m blocks (drop skip (take k (drop (i * k) l)))

module _ (row : List ℤ) where
  abbrev bs : List Block
  bs = (row_of row).blocks

  many : length bs ≡ block_count
  unfolding row_of
  many = length-map (parts block_length block_count row) block_of ∙ parts-length block_length block_count row

  -- The columns of a block.
  wide : (b : ℕ) → b < block_count → length (get_or bs b []) ≡ column_count
  unfolding row_of
  wide b h =
      ap length
      (get_or_map block_of (parts block_length block_count row) b [] [] (rw parts-length h) ∙ ap block_of (get_or-parts block_length block_count row b h))
      ∙ parts-length coefficient_count column_count (block_at row b)

  -- A polynomial is zero where its block says so of its column.
  zero-at : (i : ℕ) → i < polynomial_count → T (is_zero_of (get_or (get_or bs (i / column_count) []) (i % column_count) []))
      → T (is_zero_of (coefficients_at_of row i))
  zero-at i h z =
      let b = i / column_count in
      let c = i % column_count in
      let place : b * block_length + c * coefficient_count ≡ i * coefficient_count = omega arith in
      subst (λ p. T (is_zero_of p))
      (polynomial-at-row row b c (omega arith) (omega arith) ∙ ap (λ n. take coefficient_count (drop n row)) place) z

  -- The count of what is left where it is zero.
  count-rest : (k i : ℕ) → i + k ≡ polynomial_count → ((j : ℕ) → j < polynomial_count → i ≤ j → T (is_zero_of (coefficients_at_of row j)))
      → nonzero_count (drop i (polynomials_in row)) ≡ 0
  unfolding nonzero_count
  count-rest zero i h z = ap nonzero_count (parts-end coefficient_count polynomial_count row i (omega arith))
  count-rest (suc k) i h z =
      count_none row i 0 (omega arith) (sym (ap length (trim-none (coefficients_at_of row i) (z i (omega arith) (omega arith))))) refl
      ∙ count-rest k (i + 1) (omega arith) (λ j lt le. z j lt (omega arith))

pub unused : (m D : ℕ) (row : List ℤ) → suc D ≤ block_count → T (unused_zero_of m D (row_of row)) → Unused m (suc D) row
unfolding unused_zero_of zero_block
unused m D row few h =
    record {
      columns = λ i lt low. zero-at row i lt (column (i / column_count) (i % column_count) (omega arith) (omega arith) low);
      rest = count-rest row (polynomial_count - suc D * column_count) (suc D * column_count) (omega arith) (λ j lt low.
          zero-at row j lt (past (j / column_count) (j % column_count) (omega arith) (omega arith) (omega arith)));
      terms = λ s. terms-zero s (drop (suc D) (bs row)) both.1;
    }
  where
    both : T (every (λ b. zero_block (drop m b)) (bs row)) × T (every zero_block (drop (suc D) (bs row)))
    both = (T-&& (every (λ b. zero_block (drop m b)) (bs row)) (every zero_block (drop (suc D) (bs row)))).0 h

    column : (b c : ℕ) → b < block_count → c < column_count → m ≤ c → T (is_zero_of (get_or (get_or (bs row) b []) c []))
    column b c hb hc low =
        every-from-at is_zero_of (get_or (bs row) b []) [] m
        (every-from-at (λ q. zero_block (drop m q)) (bs row) [] 0 both.0 b (omega arith) (omega (arith, many row)))
        c low (omega (arith, wide row b hb))

    past : (b c : ℕ) → b < block_count → c < column_count → suc D ≤ b → T (is_zero_of (get_or (get_or (bs row) b []) c []))
    past b c hb hc low =
        every-from-at is_zero_of (get_or (bs row) b []) [] 0
        (every-from-at zero_block (bs row) [] (suc D) both.1 b low (omega (arith, many row)))
        c (omega arith) (omega (arith, wide row b hb))

-- ---- the lengths of terms

-- The number of coefficients of each of the first n polynomials that l holds.
abbrev pub Lengths : ℕ → List ℤ → List ℕ → Type 0
Lengths n l lengths = (i : ℕ) → i < n → get_or lengths i 0 ≡ length (trim (coefficients_at_of l i))

-- Those of one block.
pub lengths-part : (row : List ℤ) (lengths : List ℕ) (blocks b : ℕ) → b < blocks → Lengths (blocks * column_count) row lengths
    → Lengths column_count (block_at row b) (take column_count (drop (b * column_count) lengths))
lengths-part row lengths blocks b h all c g =
    get_or-take column_count (drop (b * column_count) lengths) c 0 g ∙ get_or-drop (b * column_count) lengths c 0
    ∙ all (b * column_count + c) (omega arith)
    ∙ ap (λ p. length (trim p)) (sym polynomial)
  where
    whole : block_length ≡ c * coefficient_count + (block_length - c * coefficient_count)
    whole = omega arith

    place : b * block_length + c * coefficient_count ≡ (b * column_count + c) * coefficient_count
    place = omega arith

    polynomial : coefficients_at_of (block_at row b) c ≡ coefficients_at_of row (b * column_count + c)
    polynomial =
        ap (λ n. coefficients_at_of (take n (drop (b * block_length) row)) c) whole
        ∙ ap (take coefficient_count) (drop-take (c * coefficient_count) (block_length - c * coefficient_count) (drop (b * block_length) row))
        ∙ take-take coefficient_count (block_length - c * coefficient_count) (drop (c * coefficient_count) (drop (b * block_length) row))
        (omega arith)
        ∙ ap (take coefficient_count) (drop-drop (c * coefficient_count) (b * block_length) row)
        ∙ ap (λ n. take coefficient_count (drop n row)) place

-- One length more.
pub lengths-next : (l : List ℤ) (lengths : List ℕ) (i n : ℕ) → Lengths i l lengths → i < length lengths
    → n ≡ length (trim (coefficients_at_of l i)) → Lengths (i + 1) l (set lengths i n)
lengths-next l lengths i n all h e =
    below_more (λ k. get_or (set lengths i n) k 0 ≡ length (trim (coefficients_at_of l k))) i
    (λ k lt. get_or-set_other lengths i k n 0 (λ same. omega arith) ∙ all k lt) (get_or-set_same lengths i n 0 h ∙ e)

-- ---- one term, and one block, more

pub block-next : (s : ℤ) (l : List ℤ) (c : ℕ) → c < column_count
    → spaced (numbers_of (block_terms_of s (c + 1) (drop c (block_of l))))
    ≡ spaced (term_at_of s (c + 1) (coefficients_at_of l c)) ++ spaced (numbers_of (block_terms_of s (c + 1 + 1) (drop (c + 1) (block_of l))))
block-next s l c h =
    let part = coefficients_at_of l c in
    let more = drop (c + 1) (block_of l) in
    ap spaced
    (ap (λ b. numbers_of (block_terms_of s (c + 1) b)) (parts_next coefficient_count column_count l c h) ∙ block-cons s (c + 1) part more
    ∙ ap (λ j. term_at_of s (c + 1) part ++ numbers_of (block_terms_of s j more)) (sym (add-one (c + 1))))
    ∙ sym (spaced-append (term_at_of s (c + 1) part) (numbers_of (block_terms_of s (c + 1 + 1) more)))

pub block-end : (s : ℤ) (l : List ℤ) (c : ℕ) → column_count ≤ c → spaced (numbers_of (block_terms_of s (c + 1) (drop c (block_of l)))) ≡ []
unfolding spaced numbers_of block_terms_of flatten
block-end s l c h = ap (λ b. spaced (numbers_of (block_terms_of s (c + 1) b))) (parts-end coefficient_count column_count l c h)

-- Block l - b.
pred-block : (l : ℤ) (b : ℕ) → pred_ℤ (l -ℤ pos b) ≡ l -ℤ pos (b + 1)
pred-block l b = sym (ap (λ n. l -ℤ pos n) (add-one b) ∙ ap (λ k. l +ℤ k) (neg_ℤ-suc_ℤ (pos b)) ∙ +ℤ-pred_ℤ l (neg_ℤ (pos b)))

pub block_size : (l : ℤ) (b : ℕ) → nat_abs l ≤ block_bound → b < block_count → nat_abs (l -ℤ pos b) ≤ block_bound + most_span
block_size l b h g = omega (arith, nat_abs-+ℤ l (neg_ℤ (pos b)), nat_abs-neg_ℤ (pos b))

pub terms-next : (l : ℤ) (row : List ℤ) (b : ℕ) → b < block_count
    → spaced (numbers_of (terms_from (l -ℤ pos b) (drop b (row_of row).blocks)))
    ≡ spaced (numbers_of (block_terms_of (l -ℤ pos b) 1 (block_of (block_at row b))))
    ++ spaced (numbers_of (terms_from (l -ℤ pos (b + 1)) (drop (b + 1) (row_of row).blocks)))
unfolding row_of
terms-next l row b h =
    let block = block_of (block_at row b) in
    let more = drop (b + 1) (row_of row).blocks in
    ap spaced
    (ap (λ bs. numbers_of (terms_from (l -ℤ pos b) bs)) (held_next block_of block_length block_count row b h)
    ∙ terms-cons (l -ℤ pos b) block more
    ∙ ap (λ s. numbers_of (block_terms_of (l -ℤ pos b) 1 block) ++ numbers_of (terms_from s more)) (pred-block l b))
    ∙ sym (spaced-append (numbers_of (block_terms_of (l -ℤ pos b) 1 block)) (numbers_of (terms_from (l -ℤ pos (b + 1)) more)))

pub terms-end : (s : ℤ) (row : List ℤ) (blocks b : ℕ) → b ≡ blocks → NoTerms blocks row
    → spaced (numbers_of (terms_from s (drop b (row_of row).blocks))) ≡ []
unfolding spaced numbers_of flatten
terms-end s row blocks b e none = ap (λ n. spaced (numbers_of (terms_from s (drop n (row_of row).blocks)))) e ∙ ap (λ es. spaced (numbers_of es)) (none s)

-- ---- lines

pub equation-line : (l : ℤ) (row : List ℤ)
    → (digits_of (nonzero_count (polynomials_in row)) ++ spaced (numbers_of (terms_from l (row_of row).blocks))) ++ (newline ∷ [])
    ≡ line (equation_numbers l (row_of row))
unfolding equation_numbers numbers_of
equation-line l row =
    let numbers = numbers_of (terms_from l (row_of row).blocks) in
    ap (λ n. (n ++ spaced numbers) ++ (newline ∷ [])) (sym (decimal-count (nonzero_count (polynomials_in row))))
    ∙ sym (line-is (pos (nonzero_count (polynomials_in row))) numbers)
    ∙ ap (λ n. line (pos n ∷ numbers)) (sym (term-count l row))

pub relation-line : (l : ℤ) (part : List ℤ)
    → (decimal (get_or part 0 (pos 0))
    ++ spaced (pos (nonzero_count (polynomials_in (drop 1 part))) ∷ numbers_of (terms_from l (row_of (drop 1 part)).blocks)))
    ++ (newline ∷ [])
    ≡ line (relation_line l (relation_of part))
unfolding relation_line relation_of equation_numbers numbers_of
relation-line l part =
    let numbers = numbers_of (terms_from l (row_of (drop 1 part)).blocks) in
    sym (line-is (get_or part 0 (pos 0)) (pos (nonzero_count (polynomials_in (drop 1 part))) ∷ numbers))
    ∙ ap (λ n. line (get_or part 0 (pos 0) ∷ pos n ∷ numbers)) (sym (term-count l (drop 1 part)))

pub order-line : (order : List ℕ) → (digits_of (length order) ++ spaced (map pos order)) ++ (newline ∷ []) ≡ line (order_line order)
unfolding order_line
order-line order =
    ap (λ n. (n ++ spaced (map pos order)) ++ (newline ∷ [])) (sym (decimal-count (length order)))
    ∙ sym (line-is (pos (length order)) (map pos order))

-- A right side is written as its trimmed coefficients behind their number (SCOPE 4.25).
pub side-line : (p : Polynomial) (n : ℕ) → n ≡ length (trim p)
    → (digits_of n ++ spaced (take n p)) ++ (newline ∷ []) ≡ line (side_line p)
unfolding side_line
side-line p n e =
    ap (λ k. (digits_of k ++ spaced (take k p)) ++ (newline ∷ [])) e
    ∙ ap₂ (λ d q. (d ++ spaced q) ++ (newline ∷ [])) (sym (decimal-count (length (trim p)))) (trim-take p)
    ∙ sym (line-is (pos (length (trim p))) (trim p))

-- The lines of what the n parts of a store hold, k numbers a part: those from i on are still to be stored.
module _ {B : Type 0} (f : B → List ℤ) (g : List ℤ → B) (k n : ℕ) (l : List ℤ) (i : ℕ) where
  -- One line more; the part's length is k as the code computes it.
  pub lines_next : {d all e e' : List ℕ} {at next last b : ℕ} → Going d at all e next (lines (map f (drop i (map g (parts k n l))))) (i * b)
      → i < n → Put e next (line (f (g (take (i * k + k - i * k) (drop (i * k) l))))) b e' last
      → Going d at all e' last (lines (map f (drop (i + 1) (map g (parts k n l))))) ((i + 1) * b)
  unfolding lines flatten
  lines_next {b = b} go h p =
      let width : i * k + k - i * k ≡ k = omega arith in
      going_next go (ap (λ r. lines (map f r)) (held_next g k n l i h))
      (put_same p (ap (λ m. line (f (g (take m (drop (i * k) l))))) width)) (omega (arith, add-mul i 1 b))

  pub lines-last : {d all e : List ℕ} {at next j m : ℕ} → Going d at all e next (lines (map f (drop i (map g (parts k n l))))) j
      → n ≤ i → j ≤ m → Put d at all m e next
  unfolding lines flatten
  lines-last go h few = going-last go (ap (λ r. lines (map f r)) (held-end g k n l i h)) few

pub sizes-line : (m : ℕ) (l t : ℤ)
    → ((51 ∷ []) ++ spaced (pos m ∷ l ∷ t ∷ [])) ++ (newline ∷ []) ≡ line (pos 3 ∷ pos m ∷ l ∷ t ∷ [])
unfolding decimal
sizes-line m l t = sym (line-is (pos 3) (pos m ∷ l ∷ t ∷ []))

-- ---- the whole sheet

pub lines-append : (l m : List (List ℤ)) → lines (l ++ m) ≡ lines l ++ lines m
unfolding lines flatten
lines-append [] m = refl
lines-append (a ∷ l) m = ap (λ r. line a ++ r) (lines-append l m) ∙ sym (append_assoc (line a) (lines l) (lines m))

-- Two lines, lines, a line, lines, and a last line.
lines_join : (a b c e : List ℤ) (l m : List (List ℤ))
    → line a ++ (line b ++ (lines l ++ (line c ++ (lines m ++ line e)))) ≡ lines ((a ∷ b ∷ l) ++ (c ∷ m) ++ (e ∷ []))
unfolding lines flatten
lines_join a b c e l m =
    ap (λ r. line a ++ (line b ++ r))
    (ap (λ r. lines l ++ (line c ++ (lines m ++ r))) (sym (append-nil (line e)))
    ∙ sym
    (append_assoc (lines l) (line c ++ lines m) (line e ++ []) ∙ ap (λ r. lines l ++ r) (append_assoc (line c) (lines m) (line e ++ [])))
    ∙ ap (λ r. r ++ (line e ++ [])) (sym (lines-append l (c ∷ m))) ∙ sym (lines-append (l ++ (c ∷ m)) (e ∷ [])))

-- The sheet of a system in stores, with the columns that are written.
unfoldable pub sheet_given : Sizes → ℕ → List ℕ → List ℤ → List ℤ → Sheet
unfolding rows_of relations_of
sheet_given z count columns row_store relation_store =
    record { sizes = z; rows = rows_of (equations z) row_store; relations = relations_of count relation_store; order = columns }

-- ---- the fifth section

-- The right side of a record stands behind its first `skip` numbers.
abbrev pub side_in : ℕ → List ℤ → Polynomial
side_in skip l = take coefficient_count (drop skip l)

-- The right sides of the first n records of a store.
unfoldable pub sides_in : ℕ → ℕ → List ℤ → List Polynomial
unfolding parts
sides_in skip n l = map (side_in skip) (parts (skip + coefficient_count) n l)

-- Those of the equations, and those of the relations.
abbrev pub sides_given : ℕ → ℕ → List ℤ → List ℤ → List Polynomial
sides_given m count row_store relation_store = sides_in entries_length m row_store ++ sides_in (1 + entries_length) count relation_store

pub length-sides_in : (skip n : ℕ) (l : List ℤ) → length (sides_in skip n l) ≡ n
unfolding sides_in
length-sides_in skip n l =
    length-map (parts (skip + coefficient_count) n l) (side_in skip) ∙ parts-length (skip + coefficient_count) n l

-- Where record i stands in the store, and so many of its numbers behind its first `skip` ones.
module _ (skip width : ℕ) where
  pub record-place : (n : ℕ) (l : List ℤ) (i : ℕ) → i < n → n * (skip + width) ≤ length l → i * (skip + width) + skip + width ≤ length l
  record-place n l i h fits = omega (arith, fits, mul-le-mul_right {m = suc i} {n = n} (skip + width) h, suc-mul i (skip + width))

  pub record-early : (n i : ℕ) → i < n → n ≤ most_relations → skip ≤ row_length → width ≤ row_length
      → i * (skip + width) ≤ most_relations * (row_length + row_length)
  record-early n i h few low narrow =
      mul-le-mul {n₁ = i} {m₁ = skip + width} {n₂ = most_relations} {m₂ = row_length + row_length} (omega arith) (omega arith)

pub side-at : (skip : ℕ) (l : List ℤ) (i : ℕ)
    → take (i * (skip + coefficient_count) + skip + coefficient_count - (i * (skip + coefficient_count) + skip))
    (drop (i * (skip + coefficient_count) + skip) l)
    ≡ side_in skip (take (skip + coefficient_count) (drop (i * (skip + coefficient_count)) l))
side-at skip l i =
    let place = i * (skip + coefficient_count) + skip in
    let width : place + coefficient_count - place ≡ coefficient_count = omega arith in
    ap (λ n. take n (drop place l)) width
    ∙ sym (part-of-part (i * (skip + coefficient_count)) skip coefficient_count (skip + coefficient_count) l (omega arith))

pub side-get : (skip n : ℕ) (l : List ℤ) (i : ℕ) → i < n
    → get_or (sides_in skip n l) i [] ≡ side_in skip (take (skip + coefficient_count) (drop (i * (skip + coefficient_count)) l))
unfolding sides_in
side-get skip n l i h =
    get_or_map (side_in skip) (parts (skip + coefficient_count) n l) i [] [] (rw parts-length h)
    ∙ ap (side_in skip) (get_or-parts (skip + coefficient_count) n l i h)

-- No side is nonzero, and nothing is written (SCOPE 4.16).
pub sides-none : (ps : List Polynomial) → every is_zero_of ps ≡ true → lines (side_lines ps) ≡ []
unfolding side_lines lines flatten
sides-none ps e = rw e refl

pub sides-some : (m count : ℕ) (row_store relation_store : List ℤ) → every is_zero_of (sides_given m count row_store relation_store) ≡ false
    → line (pos (m + count) ∷ [])
    ++ (lines (map side_line (sides_in entries_length m row_store)) ++ lines (map side_line (sides_in (1 + entries_length) count relation_store)))
    ≡ lines (side_lines (sides_given m count row_store relation_store))
unfolding side_lines lines flatten
sides-some m count row_store relation_store e =
    let A = sides_in entries_length m row_store in
    let B = sides_in (1 + entries_length) count relation_store in
    let size : m + count ≡ length (A ++ B) =
    sym (length-append A B ∙ ap₂ ◌+◌ (length-sides_in entries_length m row_store) (length-sides_in (1 + entries_length) count relation_store)) in
    rw e
    (ap₂ (λ n r. line (pos n ∷ []) ++ r) size
    (sym (lines-append (map side_line A) (map side_line B)) ∙ ap lines (sym (map-append side_line A B))))

-- They are the sides of the sheet.
sides-given : (z : Sizes) (count : ℕ) (columns : List ℕ) (row_store relation_store : List ℤ)
    → sides_given (equations z) count row_store relation_store ≡ sides_of (sheet_given z count columns row_store relation_store)
unfolding sides_of sheet_given sides_in rows_of relations_of row_of relation_of
sides-given z count columns row_store relation_store =
    sym
    (ap₂ ◌++◌ (map-map (λ r. r.right) row_of (parts row_length (equations z) row_store))
    (map-map (λ e. e.row.right) relation_of (parts relation_length count relation_store)
    ∙ ap (λ f. map f (parts relation_length count relation_store))
    (fun_ext (λ l. ap (take coefficient_count) (drop-drop entries_length 1 l)))))

pub sheet-bytes : (z : Sizes) (count : ℕ) (columns : List ℕ) (row_store relation_store : List ℤ)
    → line (pos 3 ∷ pos z.m ∷ z.l ∷ z.t ∷ [])
    ++ (line (pos (equations z) ∷ []) ++ (lines (map (equation_numbers z.l) (rows_of (equations z) row_store))
    ++ (line (pos count ∷ []) ++ (lines (map (relation_line z.l) (relations_of count relation_store)) ++ line (order_line columns)))))
    ++ lines (side_lines (sides_given (equations z) count row_store relation_store))
    ≡ write_sheet_of (sheet_given z count columns row_store relation_store)
unfolding write_sheet_of sheet_lines sheet_given
sheet-bytes z count columns row_store relation_store =
    let rows = map (equation_numbers z.l) (rows_of (equations z) row_store) in
    let relations = map (relation_line z.l) (relations_of count relation_store) in
    let sizes = pos 3 ∷ pos z.m ∷ z.l ∷ z.t ∷ [] in
    let four : ℕ → ℕ → List (List ℤ) = λ m n. (sizes ∷ (pos m ∷ []) ∷ rows) ++ ((pos n ∷ []) ∷ relations) ++ (order_line columns ∷ []) in
    ap (λ r. r ++ lines (side_lines (sides_given (equations z) count row_store relation_store)))
    (lines_join sizes (pos (equations z) ∷ []) (pos count ∷ []) (order_line columns) rows relations)
    ∙ sym (lines-append (four (equations z) count) (side_lines (sides_given (equations z) count row_store relation_store)))
    ∙ ap₂ (λ m n. lines (four m n ++ side_lines (sides_given (equations z) count row_store relation_store)))
    (sym (length-rows_of (equations z) row_store)) (sym (length-relations_of count relation_store))
    ∙ ap (λ ps. lines (four (length (rows_of (equations z) row_store)) (length (relations_of count relation_store)) ++ side_lines ps))
    (sides-given z count columns row_store relation_store)
