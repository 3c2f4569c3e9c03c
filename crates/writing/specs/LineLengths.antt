-- How long the lines of equations and relations are at most, by the number of coefficients that their polynomials have.
--
-- Main definitions
--   Small, SmallPolynomial, SmallBlock   numbers within ±C, and polynomials and blocks of a store with such coefficients
--   Numbers n l       the numbers of l are within ±C, and at most n
--   few_coefficients   most polynomials have no more coefficients
--   short_term, long_term   the numbers of a term with so few coefficients, and of any term, at most
--   most_in_term_of p, most_in_terms_of row   those of a term with the polynomial p, and of a row's terms, at most
--   most_in_records_of skip n l   those of the first n records of a store, each behind its first `skip` numbers
--   lines_length l n count rows relations   the bytes of the lines of so many equations and relations in stores
--
-- Main statements
--   line-length       a line takes at most 11 bytes for each of its numbers
--   blocks-numbers    the numbers of the terms of several blocks
--   total-most, most-in-terms, most-in-records   the same by the sizes alone
--   lines-most        the bytes of the lines of equations and relations, at most
use Rattle.std.specs.Prelude.{◌≡◌, Bool, true, false, cond, ℕ, suc, ◌+◌, ◌-◌, ◌*◌, ◌≤◌, ◌<◌, T, ℤ, pos, negsuc, nat_abs, take, drop, get_or}
use Rattle.std.proofs.Common.{sym, ◌∙◌, zero-le, le_refl, suc-mul, arith, le→leb, length-append, length-take, drop-drop}
use Rattle.std.proofs.Math.Path.{ap, subst}
use mathlib.Core.List.{List, [], ◌∷◌, ◌++◌, map, flatten, map-append, map-map}
use Rattle.std.proofs.Math.IntN.{pred_ℤ, -ℤ_one}
use Rattle.std.proofs.Math.ListN.{length, length-map}
use Rattle.algebra.specs.Integers.{nat_abs-+ℤ}
use Rattle.algebra.specs.Polynomials.{Polynomial, is_zero_of}
use Rattle.lists.specs.Everywhere.{All, all_both, all-always, all_take, all_drop, append-all, map-all, all-of-flatten, get_or-all}
use Rattle.lists.specs.Everywhere.{all-get_or-default}
use Rattle.lists.specs.Parts.{parts, parts-length, parts-short, parts-parts, flatten-parts, get_or-parts, held_next, held-end}
use Rattle.lists.specs.Taken.{drop-take}
use Rattle.lists.specs.Tests.{all-of-every}
use Rattle.lists.specs.Totals.{total}
use Rattle.rules.specs.Limits.{bound, small, coefficient_count, column_count, block_count, block_length, block_bound, polynomial_count}
use Rattle.rules.specs.Limits.{row_length, relation_length}
use Rattle.rules.specs.Layout.{polynomials_in}
use Rattle.rules.specs.Numbers.{line, lines}
use Rattle.rules.specs.Rows.{Block}
use Rattle.rules.specs.Sheets.{Term, trim, block_terms_of, terms_from, term_numbers, equation_numbers, relation_line}
use Rattle.rules.specs.Stores.{row_of, rows_of, relation_of, relations_of}
use Rattle.number_texts.specs.TextBytes.{number_bytes}
use Rattle.writing.specs.Writer.{trim-le, trim-take, trim-front, numbers_of, terms-cons, SmallParts}
use Rattle.number_texts.specs.Texts.{decimal-length}

-- ---- the bytes of a line

abbrev pub Small : ℤ → Type 0
Small a = T (small a)

-- A minus, nine digits and what stands behind each number.
pub line-length : (a : ℤ) (l : List ℤ) → All Small (a ∷ l) → length (line (a ∷ l)) ≤ number_bytes * suc (length l)
unfolding line All
line-length a [] h = simp length-append (omega (arith, decimal-length a h.0))
line-length a (b ∷ l) h = simp length-append (omega (arith, decimal-length a h.0, line-length b l h.1))

-- ---- totals

total-append : (l m : List ℕ) → total (l ++ m) ≡ total l + total m
unfolding total
total-append [] m = let e : total m ≡ 0 + total m = omega arith in e
total-append (n ∷ l) m = let e : n + total (l ++ m) ≡ n + total l + total m = omega (arith, total-append l m) in e

pub total-most : {A : Type 0} (f : A → ℕ) (k : ℕ) → ((x : A) → f x ≤ k) → (l : List A) → total (map f l) ≤ length l * k
unfolding total
total-most f k h [] = zero-le
total-most f k h (x ∷ l) =
    let e : f x + total (map f l) ≤ suc (length l) * k = omega (arith, h x, total-most f k h l, suc-mul (length l) k) in e

-- What each of the n parts of l comes to, k numbers a part: one part more.
module _ (f : List ℤ → ℕ) (k n : ℕ) (l : List ℤ) (i : ℕ) where
  pub total-parts-next : i < n → total (drop i (map f (parts k n l))) ≡ f (take k (drop (i * k) l)) + total (drop (i + 1) (map f (parts k n l)))
  unfolding total
  total-parts-next h = ap total (held_next f k n l i h)

  pub total-parts-end : n ≤ i → total (drop i (map f (parts k n l))) ≡ 0
  unfolding total
  total-parts-end h = ap total (held-end f k n l i h)

-- ---- the numbers of a term

abbrev pub few_coefficients : ℕ
few_coefficients = 4

-- Block, column, the number of coefficients and those.
abbrev pub short_term : ℕ
short_term = 3 + few_coefficients

abbrev pub long_term : ℕ
long_term = 3 + coefficient_count

unfoldable pub most_in_term_of : Polynomial → ℕ
unfolding is_zero_of
most_in_term_of p = cond (is_zero_of (drop few_coefficients p)) short_term long_term

pub most-in-term : (p : Polynomial) → most_in_term_of p ≤ long_term
unfolding most_in_term_of
most-in-term p = cases (is_zero_of (drop few_coefficients p))
  where
    cases : (t : Bool) → cond t short_term long_term ≤ long_term
    cases true = omega arith
    cases false = le_refl long_term

term_fits : (p : Polynomial) → length p ≤ coefficient_count → 3 + length (trim p) ≤ most_in_term_of p
unfolding most_in_term_of
term_fits p h =
    cases (is_zero_of (drop few_coefficients p)) (λ z.
    omega (arith, trim-front p few_coefficients z, trim-le (take few_coefficients p), length-take few_coefficients p))
  where
    cases : (t : Bool) → (T t → length (trim p) ≤ few_coefficients) → 3 + length (trim p) ≤ cond t short_term long_term
    cases true few = omega (arith, few tt)
    cases false few = omega (arith, trim-le p)

-- What is written of terms: numbers within ±C, and not more than so many.
pub record Numbers (n : ℕ) (l : List ℤ) : Type 0 where
  pub smalls : All Small l
  pub few : length l ≤ n

numbers-join : {j k : ℕ} {l m : List ℤ} → Numbers j l → Numbers k m → Numbers (j + k) (l ++ m)
numbers-join {l = l} {m = m} g h =
    record {
      smalls = append-all Small l m g.smalls h.smalls;
      few = rw (length-append l m) (omega (arith, g.few, h.few));
    }

abbrev pub SmallPolynomial : Polynomial → Type 0
SmallPolynomial p = (length p ≤ coefficient_count) × All Small p

pub small_pos : (n : ℕ) → n ≤ bound → Small (pos n)
unfolding small
small_pos n h = le→leb n bound h

term-numbers : (s : ℤ) (c : ℕ) (p : Polynomial) → Small s → c ≤ bound → SmallPolynomial p
    → Numbers (most_in_term_of p) (term_numbers (record { block = s; column = c; polynomial = trim p }))
unfolding term_numbers All
term-numbers s c p hs hc hp =
    record {
      smalls = (hs, (small_pos c hc, (small_pos (length (trim p)) (omega (arith, trim-le p, hp.0)), trimmed)));
      few = omega (arith, term_fits p hp.0);
    }
  where
    trimmed : All Small (trim p)
    trimmed = subst (All Small) (trim-take p) (all_take Small (length (trim p)) p hp.1)

-- ---- the numbers of a block, and of a row

block-numbers : (s : ℤ) (c : ℕ) (b : Block) → Small s → c + length b ≤ bound → All SmallPolynomial b
    → Numbers (total (map most_in_term_of b)) (numbers_of (block_terms_of s c b))
unfolding numbers_of block_terms_of All total
block-numbers s c [] hs hc h = record { smalls = tt; few = le_refl 0 }
block-numbers s c (p ∷ b) hs hc h =
    cases (is_zero_of p) (block_terms_of s (suc c) b) (block-numbers s (suc c) b hs (omega arith) h.1)
  where
    term : Term
    term = record { block = s; column = c; polynomial = trim p }

    cases : (t : Bool) (more : List Term) → Numbers (total (map most_in_term_of b)) (numbers_of more)
        → Numbers (most_in_term_of p + total (map most_in_term_of b)) (numbers_of (cond t more (term ∷ more)))
    cases true more i = record { smalls = i.smalls; few = omega (arith, i.few) }
    cases false more i = numbers-join (term-numbers s c p hs (omega arith) h.0) i

nat_abs-pred_ℤ : (s : ℤ) → nat_abs (pred_ℤ s) ≤ suc (nat_abs s)
nat_abs-pred_ℤ s = subst (λ x. nat_abs x ≤ suc (nat_abs s)) (-ℤ_one s) (omega (arith, nat_abs-+ℤ s (negsuc 0)))

abbrev pub SmallBlock : Block → Type 0
SmallBlock b = (length b ≡ column_count) × All SmallPolynomial b

pub blocks-numbers : (s : ℤ) (bs : List Block) → nat_abs s + length bs ≤ bound → All SmallBlock bs
    → Numbers (total (map most_in_term_of (flatten bs))) (numbers_of (terms_from s bs))
unfolding numbers_of terms_from All small total
blocks-numbers s [] hs h = record { smalls = tt; few = le_refl 0 }
blocks-numbers s (b ∷ bs) hs h =
    subst (Numbers (total (map most_in_term_of (flatten (b ∷ bs))))) (sym (terms-cons s b bs))
    (subst (λ n. Numbers n (numbers_of (block_terms_of s 1 b) ++ numbers_of (terms_from (pred_ℤ s) bs))) together
    (numbers-join first (blocks-numbers (pred_ℤ s) bs (omega (arith, nat_abs-pred_ℤ s)) h.1)))
  where
    first : Numbers (total (map most_in_term_of b)) (numbers_of (block_terms_of s 1 b))
    first = block-numbers s 1 b (le→leb (nat_abs s) bound (omega arith)) (omega (arith, h.0.0)) h.0.1

    together : total (map most_in_term_of b) + total (map most_in_term_of (flatten bs)) ≡ total (map most_in_term_of (b ++ flatten bs))
    together = sym (ap total (map-append most_in_term_of b (flatten bs)) ∙ total-append (map most_in_term_of b) (map most_in_term_of (flatten bs)))

pub terms-fewer : (es : List Term) → length es ≤ length (numbers_of es)
unfolding numbers_of term_numbers
terms-fewer [] = le_refl 0
terms-fewer (e ∷ es) = simp length-append (omega (arith, terms-fewer es))

unfoldable pub most_in_terms_of : List ℤ → ℕ
unfolding parts
most_in_terms_of row = total (map most_in_term_of (polynomials_in row))

pub most-in-terms : (row : List ℤ) → most_in_terms_of row ≤ polynomial_count * long_term
unfolding most_in_terms_of
most-in-terms row =
    omega
    (arith, total-most most_in_term_of long_term most-in-term (polynomials_in row), parts-length coefficient_count polynomial_count row)

module _ (l : ℤ) (row : List ℤ) (reach : nat_abs l ≤ block_bound) (smalls : All Small row) where
  polynomials : All SmallPolynomial (polynomials_in row)
  polynomials =
      all_both (λ p. length p ≤ coefficient_count) (All Small) (polynomials_in row) (parts-short coefficient_count polynomial_count row)
      (all-of-flatten Small (polynomials_in row)
      (rw (flatten-parts coefficient_count polynomial_count row) (all_take Small (polynomial_count * coefficient_count) row smalls)))

  same : flatten (row_of row).blocks ≡ polynomials_in row
  unfolding row_of
  same = parts-parts coefficient_count column_count block_count row

  blocks : All SmallBlock (row_of row).blocks
  unfolding row_of
  blocks =
      all_both (λ b. length b ≡ column_count) (All SmallPolynomial) (row_of row).blocks
      (map-all (λ b. length b ≡ column_count) (parts coefficient_count column_count) (parts block_length block_count row)
      (all-always (λ p. length (parts coefficient_count column_count p) ≡ column_count) (parts-length coefficient_count column_count) _))
      (all-of-flatten SmallPolynomial (row_of row).blocks (rw same polynomials))

  many : length (row_of row).blocks ≡ block_count
  unfolding row_of
  many = length-map (parts block_length block_count row) (parts coefficient_count column_count) ∙ parts-length block_length block_count row

  row-numbers : Numbers (most_in_terms_of row) (numbers_of (terms_from l (row_of row).blocks))
  unfolding most_in_terms_of
  row-numbers =
      subst (λ ps. Numbers (total (map most_in_term_of ps)) (numbers_of (terms_from l (row_of row).blocks))) same
      (blocks-numbers l (row_of row).blocks (omega (arith, many)) blocks)

  count_small : Small (pos (length (terms_from l (row_of row).blocks)))
  count_small = small_pos _ (omega (arith, terms-fewer (terms_from l (row_of row).blocks), row-numbers.few, most-in-terms row))

  equation-length : length (line (equation_numbers l (row_of row))) ≤ number_bytes * (1 + most_in_terms_of row)
  unfolding equation_numbers numbers_of All
  equation-length =
      let es = terms_from l (row_of row).blocks in
      omega (arith, line-length (pos (length es)) (numbers_of es) (count_small, row-numbers.smalls), row-numbers.few)

relation-length : (l : ℤ) (part : List ℤ) → nat_abs l ≤ block_bound → All Small part
    → length (line (relation_line l (relation_of part))) ≤ number_bytes * (2 + most_in_terms_of (drop 1 part))
unfolding relation_line relation_of equation_numbers numbers_of All small
relation-length l part reach smalls =
    let row = drop 1 part in
    let es = terms_from l (row_of row).blocks in
    let rest = all_drop Small 1 part smalls in
    let n = row-numbers l row reach rest in
    omega (
      arith,
      line-length (get_or part 0 (pos 0)) (pos (length es) ∷ numbers_of es)
          (all-get_or-default Small part (pos 0) 0 tt smalls, (count_small l row reach rest, n.smalls)),
      n.few,
    )

-- ---- the lines of a store

-- The lines of parts each of which has j numbers and those of its terms.
lines-length : (f : List ℤ → List ℤ) (g : List ℤ → ℕ) (j : ℕ) (ls : List (List ℤ))
    → All (λ p. length (line (f p)) ≤ number_bytes * (j + g p)) ls
    → length (lines (map f ls)) ≤ number_bytes * (length ls * j + total (map g ls))
unfolding lines flatten All total
lines-length f g j [] h = zero-le
lines-length f g j (p ∷ ls) h =
    rw (length-append (line (f p)) (lines (map f ls)))
    (omega (arith, h.0, lines-length f g j ls h.1, suc-mul (length ls) j))

unfoldable pub most_in_records_of : ℕ → ℕ → List ℤ → ℕ
unfolding parts
most_in_records_of skip n l = total (map (λ p. most_in_terms_of (drop skip p)) (parts (skip + row_length) n l))

-- The row of record i.
pub record-row : (skip : ℕ) (l : List ℤ) (i : ℕ)
    → take (i * (skip + row_length) + skip + row_length - (i * (skip + row_length) + skip)) (drop (i * (skip + row_length) + skip) l)
    ≡ drop skip (take (skip + row_length) (drop (i * (skip + row_length)) l))
record-row skip l i =
    let place = i * (skip + row_length) + skip in
    let width : place + row_length - place ≡ row_length = omega arith in
    ap (λ n. take n (drop place l)) width ∙ ap (take row_length) (sym (drop-drop skip (i * (skip + row_length)) l))
    ∙ sym (drop-take skip row_length (drop (i * (skip + row_length)) l))

pub most-in-records : (skip n : ℕ) (l : List ℤ) → most_in_records_of skip n l ≤ n * (polynomial_count * long_term)
unfolding most_in_records_of
most-in-records skip n l =
    subst (λ k. most_in_records_of skip n l ≤ k * (polynomial_count * long_term)) (parts-length (skip + row_length) n l)
    (total-most (λ p. most_in_terms_of (drop skip p)) (polynomial_count * long_term) (λ p. most-in-terms (drop skip p))
    (parts (skip + row_length) n l))

-- What holds of each part of a store.
all-parts : (P : List ℤ → Type 0) (k n : ℕ) (l : List ℤ) → ((i : ℕ) → i < n → P (take k (drop (i * k) l))) → All P (parts k n l)
all-parts P k n l h =
    get_or-all P (parts k n l) [] (λ i lt. let inside : i < n = rw (parts-length k n l) at lt in subst P (sym (get_or-parts k n l i inside)) (h i inside))

equations-length : (l : ℤ) (n : ℕ) (rows : List ℤ) → nat_abs l ≤ block_bound → SmallParts row_length n rows
    → length (lines (map (equation_numbers l) (rows_of n rows))) ≤ number_bytes * (n + most_in_records_of 0 n rows)
unfolding rows_of most_in_records_of
equations-length l n rows reach smalls =
    rw (map-map (equation_numbers l) row_of (parts row_length n rows))
    (omega (
      arith,
      lines-length (λ p. equation_numbers l (row_of p)) most_in_terms_of 1 (parts row_length n rows)
          (all-parts (λ p. length (line (equation_numbers l (row_of p))) ≤ number_bytes * (1 + most_in_terms_of p)) row_length n rows (λ i lt.
          equation-length l (take row_length (drop (i * row_length) rows)) reach (all-of-every small _ (smalls i lt)))),
      parts-length row_length n rows,
    ))

relations-length : (l : ℤ) (n : ℕ) (relations : List ℤ) → nat_abs l ≤ block_bound → SmallParts relation_length n relations
    → length (lines (map (relation_line l) (relations_of n relations))) ≤ number_bytes * (2 * n + most_in_records_of 1 n relations)
unfolding relations_of most_in_records_of
relations-length l n relations reach smalls =
    rw (map-map (relation_line l) relation_of (parts relation_length n relations))
    (omega (
      arith,
      lines-length (λ p. relation_line l (relation_of p)) (λ p. most_in_terms_of (drop 1 p)) 2 (parts relation_length n relations)
          (all-parts (λ p. length (line (relation_line l (relation_of p))) ≤ number_bytes * (2 + most_in_terms_of (drop 1 p))) relation_length n relations
          (λ i lt.
          relation-length l (take relation_length (drop (i * relation_length) relations)) reach (all-of-every small _ (smalls i lt)))),
      parts-length relation_length n relations,
    ))

-- Both, those of the equations of one store and of the relations of another.
unfoldable pub lines_length : ℤ → ℕ → ℕ → List ℤ → List ℤ → ℕ
unfolding rows_of relations_of lines
lines_length l n count rows relations =
    length (lines (map (equation_numbers l) (rows_of n rows))) + length (lines (map (relation_line l) (relations_of count relations)))

pub lines-most : (l : ℤ) (n count : ℕ) (rows relations : List ℤ) → nat_abs l ≤ block_bound
    → SmallParts row_length n rows → SmallParts relation_length count relations
    → lines_length l n count rows relations ≤ number_bytes * (n + 2 * count + (most_in_records_of 0 n rows + most_in_records_of 1 count relations))
unfolding lines_length
lines-most l n count rows relations reach smalls more =
    omega (arith, equations-length l n rows reach smalls, relations-length l count relations reach more)
