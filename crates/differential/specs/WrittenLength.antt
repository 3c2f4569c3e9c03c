-- The recurrence of a differential sheet is a short sheet: a byte store of a fixed length holds it.
--
-- Main definitions
--   equation_length        the numbers of an equation's line, at most
--   most_recurrence_bytes   the bytes of a recurrence, at most
--
-- Main statements
--   recurrence-short      the sheet that is written is not longer than that
--   write-fits            so a byte store that is not shorter gets the recurrence of each sheet that is read
use Rattle.std.specs.Prelude.{ℕ, suc, ◌+◌, ◌*◌, ◌≤◌, ◌≡◌, T, leb, ℤ, pos, nat_abs}
use Rattle.std.proofs.Common.{le_trans, le_refl, le_of_eq, arith, ◌∙◌, length-append}
use Rattle.std.proofs.Math.Path.{refl, ap}
use mathlib.Core.List.{List, [], ◌∷◌, ◌++◌, map, flatten, map-append}
use Rattle.std.proofs.Math.Dec.{le→leb, lit≤}
use Rattle.std.proofs.Math.ListN.{length}
use Rattle.algebra.specs.Order.{nat_abs-≤-iff, ≤ℤ-trans}
use Rattle.algebra.specs.Polynomials.{Polynomial, is_zero_of, is_zero-replicate}
use Rattle.lists.specs.Everywhere.{All, all-mono, all_both}
use Rattle.lists.specs.Joined.{flatten-append, length-flatten}
use Rattle.lists.specs.Tests.{T-&&, every, cond-passed, all-of-every}
use Rattle.lists.specs.Totals.{total}
use Rattle.rules.specs.Limits.{bound, small, coefficient_count, column_count, block_count, block_bound, most_equations, polynomial_count}
use Rattle.lists.specs.Overwritten.{overwrite}
use Rattle.rules.specs.Numbers.{decimal, line, lines, got, then_read}
use Rattle.rules.specs.SheetCalls.{written}
use Rattle.rules.specs.Rows.{Block, Row, small_row}
use Rattle.rules.specs.Sheets.{Sheet, blank_row, terms_from, equation_numbers, order_line}
use Rattle.rules.specs.Sheets.{side_lines, sides_of, sheet_lines, write_sheet_of}
use Rattle.rules.specs.Stores.{Sizes, row_right_of, Shaped, StoreRow, Valid}
use Rattle.rules.specs.Layout.{SizeBounds, size-bounds}
use Rattle.theory.specs.LimitsKept.{Small, small_row-iff, row_right-iff}
use Rattle.differential.specs.Differential.{DifferentialTerm, DifferentialSheet, ValidDifferential}
use Rattle.differential.specs.Recurrence.{add_terms, recurrence_row, recurrence_sizes, plain_sheet, recurrence_of}
use Rattle.differential.specs.Grammar.{read_differential_of}
use Rattle.differential.specs.Calls.{read_recurrence, write_read_of, write_recurrence_call}
use Rattle.differential.specs.Terms.{FullPolynomial, FullBlock, add_terms-right}
use Rattle.differential.specs.ValidRecurrence.{recurrence-valid}
use Rattle.differential.specs.Longer.{differential-accepted}
use Rattle.number_texts.specs.TextBytes.{number_bytes}
use Rattle.writing.specs.Writer.{numbers_of}
use Rattle.writing.specs.LineLengths.{line-length, small_pos, SmallPolynomial, SmallBlock, Numbers, blocks-numbers, terms-fewer}
use Rattle.writing.specs.LineLengths.{long_term, most_in_term_of, most-in-term, total-most}

-- ---- the line of an equation

-- The number of the terms and the terms.
abbrev pub equation_length : ℕ
equation_length = suc (polynomial_count * long_term)

module _ (l : ℤ) (r : Row) (reach : nat_abs l + block_count ≤ bound) (shape : StoreRow r) (smalls : T (small_row r)) where
  small-blocks : All SmallBlock r.blocks
  unfolding Shaped
  small-blocks =
      all-mono (λ b. FullBlock b × All (All Small) b) SmallBlock block r.blocks
      (all_both FullBlock (All (All Small)) r.blocks shape.1 ((small_row-iff r).0 smalls).0)
    where
      polynomial : (p : Polynomial) → FullPolynomial p × All Small p → SmallPolynomial p
      polynomial p h = (le_of_eq h.0, h.1)

      block : (b : Block) → FullBlock b × All (All Small) b → SmallBlock b
      block b h = (
        h.0.0,
        all-mono (λ p. FullPolynomial p × All Small p) SmallPolynomial polynomial b
            (all_both FullPolynomial (All Small) b h.0.1 h.1),
      )

  row-numbers : Numbers (total (map most_in_term_of (flatten r.blocks))) (numbers_of (terms_from l r.blocks))
  unfolding Shaped
  row-numbers = blocks-numbers l r.blocks (rw shape.0 reach) small-blocks

  row-most : total (map most_in_term_of (flatten r.blocks)) ≤ polynomial_count * long_term
  unfolding Shaped
  row-most =
      let many =
      length-flatten column_count r.blocks (all-mono SmallBlock (λ b. length b ≡ column_count) (λ b h. h.0) r.blocks small-blocks) in
      omega (arith, total-most most_in_term_of long_term most-in-term (flatten r.blocks), many, shape.0)

  row_line : length (line (equation_numbers l r)) ≤ number_bytes * equation_length
  unfolding equation_numbers numbers_of All
  row_line =
      let es = terms_from l r.blocks in
      let n = row-numbers in
      let count : Small (pos (length es)) = small_pos _ (omega (arith, terms-fewer es, n.few, row-most)) in
      omega (arith, line-length (pos (length es)) (numbers_of es) (count, n.smalls), n.few, row-most)

-- ---- the bytes of a sheet

rows-lines : (l : ℤ) (rows : List Row) → nat_abs l + block_count ≤ bound → All StoreRow rows → All (λ r. T (small_row r)) rows
    → length (lines (map (equation_numbers l) rows)) ≤ length rows * (number_bytes * equation_length)
unfolding lines All
rows-lines l [] reach shapes smalls = le_refl 0
rows-lines l (r ∷ rows) reach shapes smalls =
    rw (length-append (line (equation_numbers l r)) (lines (map (equation_numbers l) rows)))
    (omega (arith, row_line l r reach shapes.0 smalls.0, rows-lines l rows reach shapes.1 smalls.1))

lines-append : (ls ms : List (List ℤ)) → length (lines (ls ++ ms)) ≡ length (lines ls) + length (lines ms)
unfolding lines
lines-append ls ms =
    ap (λ l. length (flatten l)) (map-append line ls ms)
    ∙ ap length (flatten-append (map line ls) (map line ms))
    ∙ length-append (flatten (map line ls)) (flatten (map line ms))

lines_cons : (l : List ℤ) (ls : List (List ℤ)) → length (lines (l ∷ ls)) ≡ length (line l) + length (lines ls)
unfolding lines
lines_cons l ls = length-append (line l) (flatten (map line ls))

write_sheet-is : (sheet : Sheet) → write_sheet_of sheet ≡ lines (sheet_lines sheet)
unfolding write_sheet_of
write_sheet-is sheet = refl

-- Four numbers in the first line, the count of the equations, and the equations.
abbrev equations_bytes : ℕ
equations_bytes = number_bytes * 4 + (number_bytes + most_equations * (number_bytes * equation_length))

-- Then no relations and no order.
abbrev pub most_recurrence_bytes : ℕ
most_recurrence_bytes = equations_bytes + (number_bytes + number_bytes)

-- The sheet of a system without relations and order is short if it is valid and has no right sides.
module _ (z : Sizes) (rows : List Row) (v : Valid z rows [])
    (plain : T (every is_zero_of (map (λ r. r.right) rows ++ []))) where
  bounds : SizeBounds z
  bounds = size-bounds z v.sizes

  high_small : nat_abs z.l ≤ block_bound
  high_small = (nat_abs-≤-iff z.l).1 (≤ℤ-trans bounds.low bounds.ordered, bounds.high)

  low_small : nat_abs z.t ≤ block_bound
  low_small = (nat_abs-≤-iff z.t).1 (bounds.low, ≤ℤ-trans bounds.ordered bounds.high)

  few-rows : length rows ≤ most_equations
  few-rows = rw v.row_count bounds.few-equations

  first : List ℤ
  first = pos 3 ∷ pos z.m ∷ z.l ∷ z.t ∷ []

  first-line : length (line first) ≤ number_bytes * 4
  unfolding All small first
  first-line = line-length (pos 3) (pos z.m ∷ z.l ∷ z.t ∷ []) (
    tt,
    (
      small_pos z.m (omega (arith, bounds.few)),
      (
        le→leb (nat_abs z.l) bound (omega (arith, high_small)),
        (le→leb (nat_abs z.t) bound (omega (arith, low_small)), tt),
      ),
    ),
  )

  count-line : length (line (pos (length rows) ∷ [])) ≤ number_bytes
  unfolding All
  count-line = line-length (pos (length rows)) [] (small_pos (length rows) (omega (arith, few-rows)), tt)

  equation-lines : length (lines (map (equation_numbers z.l) rows)) ≤ length rows * (number_bytes * equation_length)
  equation-lines =
      rows-lines z.l rows (omega (arith, high_small)) v.row-shapes
      (all-mono (λ r. T (row_right_of z r)) (λ r. T (small_row r)) (λ r h. ((row_right-iff z r).0 h).0) rows
      (all-of-every (row_right_of z) rows v.rows_right))

  equations-part : List (List ℤ)
  equations-part = first ∷ (pos (length rows) ∷ []) ∷ map (equation_numbers z.l) rows

  none : List (List ℤ)
  none = (pos 0 ∷ []) ∷ []

  plain_lines : sheet_lines (plain_sheet z rows) ≡ equations-part ++ none ++ none ++ []
  unfolding sheet_lines side_lines sides_of order_line equations-part none first
  plain_lines =
      ap (λ sides. equations-part ++ none ++ none ++ sides)
      (cond-passed (every is_zero_of (map (λ r. r.right) rows ++ [])) [] _ plain)

  none-short : length (lines none) ≤ number_bytes
  unfolding none lines line decimal
  none-short = lit≤ tt

  no_lines : length (lines []) ≡ 0
  unfolding lines
  no_lines = refl

  equations-part-short : length (lines equations-part) ≤ equations_bytes
  unfolding equations-part
  equations-part-short =
      rw (lines_cons first _, lines_cons (pos (length rows) ∷ []) _)
      (omega (arith, first-line, count-line, equation-lines, few-rows))

  pub plain-short : length (write_sheet_of (plain_sheet z rows)) ≤ most_recurrence_bytes
  plain-short =
      rw (write_sheet-is (plain_sheet z rows), plain_lines)
      (simp lines-append (omega (arith, equations-part-short, none-short, no_lines)))

-- ---- the recurrence

no_sides : (K : ℕ) (es : List (List DifferentialTerm))
    → T (every is_zero_of (map (λ r. r.right) (map (recurrence_row K) es) ++ []))
unfolding every recurrence_row
no_sides K [] = tt
no_sides K (ts ∷ es) =
    (T-&& (is_zero_of (add_terms K blank_row ts).right) _).1 (rw (add_terms-right K ts blank_row) zeros, no_sides K es)
  where
    zeros : T (is_zero_of blank_row.right)
    zeros = is_zero-replicate coefficient_count

pub recurrence-short : (d : DifferentialSheet) → ValidDifferential d → length (write_sheet_of (recurrence_of d)) ≤ most_recurrence_bytes
unfolding recurrence_of
recurrence-short d valid =
    plain-short (recurrence_sizes d.unknowns (length d.equations) d.order d.degree)
    (map (recurrence_row d.order) d.equations) (recurrence-valid d valid) (no_sides d.order d.equations)

-- The call that writes a recurrence, where the byte store is not shorter than that (SCOPE 10.42).
written-fits : (text byte_store : List ℕ) → length text ≤ length byte_store
    → written text byte_store ≡ record { refusal = 0; length = length text; byte_store = overwrite text byte_store }
unfolding written
written-fits text byte_store h =
    cond-passed (leb (length text) (length byte_store)) _ _ (le→leb (length text) (length byte_store) h)

module _ (bytes : List ℕ) (d : DifferentialSheet) (rest : List ℕ) (read : read_differential_of bytes ≡ got d rest)
    (byte_store : List ℕ) (fits : most_recurrence_bytes ≤ length byte_store) where
  write-is : write_recurrence_call bytes byte_store ≡ written (write_sheet_of (recurrence_of d)) byte_store
  unfolding write_recurrence_call read_recurrence write_read_of
  write-is = ap (λ r. write_read_of (then_read r (λ d rest. got (recurrence_of d) rest)) byte_store) read

  pub write-fits : write_recurrence_call bytes byte_store
      ≡ record {
        refusal = 0;
        length = length (write_sheet_of (recurrence_of d));
        byte_store = overwrite (write_sheet_of (recurrence_of d)) byte_store;
      }
  write-fits =
      write-is
      ∙ written-fits (write_sheet_of (recurrence_of d)) byte_store
      (le_trans (recurrence-short d (differential-accepted bytes d rest read)) fits)
