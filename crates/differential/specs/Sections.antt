-- A differential sheet read straight into rows: its extent, its equations and its end.
--
-- Main definitions
--   end_of                nothing stands behind the last equation
--
-- Main statements
--   recurrence-is        the recurrence of a sheet is its extent, its rows and its end
use Prim.Native.Nat.{ℕ, zero, suc}
use Rattle.std.specs.Prelude.{◌≡◌, length}
use Rattle.std.proofs.Math.Path.{refl, sym, ap}
use Rattle.std.proofs.Common.{◌∙◌}
use mathlib.Core.List.{List, [], ◌∷◌, map}
use Rattle.std.proofs.lemmas.List.{length-map}
use Rattle.rules.specs.Rows.{Row}
use Rattle.rules.specs.Stores.{with_equations_of}
use Rattle.rules.specs.Numbers.{Read, got, fault, then_read}
use Rattle.rules.specs.Sheets.{Sheet}
use Rattle.tokens.specs.Fields.{then-cong, then-then}
use Rattle.reading.specs.Sections.{read_each}
use Rattle.differential.specs.Differential.{DifferentialTerm, DifferentialSheet}
use Rattle.differential.specs.Recurrence.{recurrence_row, plain_sheet, recurrence_of}
use Rattle.differential.specs.Grammar.{Extent, sizes_for_of, sheet_of, read_extent, read_equation, read_equations, read_end, read_differential_of}
use Rattle.differential.specs.Calls.{read_recurrence}
use Rattle.differential.specs.Rows.{row_read_of, read_row}

-- ---- equations

rows_read : ℕ → List (List DifferentialTerm) → List ℕ → Read (List Row)
rows_read K es rest = got (map (recurrence_row K) es) rest

module _ (x : Extent) where
  cons_equation : List DifferentialTerm → List (List DifferentialTerm) → List ℕ → Read (List (List DifferentialTerm))
  cons_equation e es rest = got (e ∷ es) rest

  then_equations : ℕ → List DifferentialTerm → List ℕ → Read (List (List DifferentialTerm))
  then_equations k e bytes = then_read (read_equations x k bytes) (cons_equation e)

  equations-suc : (k : ℕ) (bytes : List ℕ) → read_equations x (suc k) bytes ≡ then_read (read_equation x bytes) (then_equations k)
  unfolding read_equations then_equations cons_equation
  equations-suc k bytes = refl

  cons_row : Row → List Row → List ℕ → Read (List Row)
  cons_row r rows rest = got (r ∷ rows) rest

  then_rows : ℕ → Row → List ℕ → Read (List Row)
  then_rows k r bytes = then_read (read_each (read_row x) k bytes) (cons_row r)

  each-suc : (k : ℕ) (bytes : List ℕ) → read_each (read_row x) (suc k) bytes ≡ then_read (read_row x bytes) (then_rows k)
  unfolding read_each then_rows cons_row
  each-suc k bytes = refl

  row_first : (k : ℕ) (e : List DifferentialTerm) (rest : List ℕ)
      → then_read (read_equations x k rest) (rows_read x.order) ≡ read_each (read_row x) k rest
      → then_read (then_equations k e rest) (rows_read x.order) ≡ then_rows k (recurrence_row x.order e) rest
  unfolding rows_read then_rows then_equations cons_equation cons_row then_read
  row_first k e rest more =
      then-then (read_equations x k rest) (cons_equation e) (rows_read x.order)
      ∙ then-cong (read_equations x k rest) (λ es last. same es last)
      ∙ sym (then-then (read_equations x k rest) (rows_read x.order) (cons_row (recurrence_row x.order e)))
      ∙ ap (λ r. then_read r (cons_row (recurrence_row x.order e))) more
    where
      same : (es : List (List DifferentialTerm)) (last : List ℕ)
          → then_read (cons_equation e es last) (rows_read x.order)
          ≡ then_read (rows_read x.order es last) (cons_row (recurrence_row x.order e))
      same es last = refl

  -- The rows are those of the equations.
  rows_are : (k : ℕ) (bytes : List ℕ) → then_read (read_equations x k bytes) (rows_read x.order) ≡ read_each (read_row x) k bytes
  unfolding read_equations read_each rows_read read_row row_read_of then_read
  rows_are zero bytes = refl
  rows_are (suc k) bytes =
      ap (λ r. then_read r (rows_read x.order)) (equations-suc k bytes)
      ∙ then-then (read_equation x bytes) (then_equations k) (rows_read x.order)
      ∙ then-cong (read_equation x bytes) (λ e rest. row_first k e rest (rows_are k rest))
      ∙ sym (then-then (read_equation x bytes) (row_read_of x.order) (then_rows k))
      ∙ sym (each-suc k bytes)

-- ---- the whole sheet

-- A row for each equation that was read.
unfoldable pub end_of : Extent → List Row → List ℕ → Read Sheet
unfolding with_equations_of sizes_for_of
end_of x rows [] = got (plain_sheet (with_equations_of (length rows) (sizes_for_of x)) rows) []
end_of x rows (b ∷ bytes) = fault 4

unfoldable pub rows_end_of : Extent → List ℕ → Read Sheet
rows_end_of x bytes = then_read (read_each (read_row x) x.equations bytes) (end_of x)

recurrence_read : DifferentialSheet → List ℕ → Read Sheet
recurrence_read d rest = got (recurrence_of d) rest

equations_end : Extent → List (List DifferentialTerm) → List ℕ → Read DifferentialSheet
equations_end x es rest = read_end (sheet_of x es) rest

extent_end : Extent → List ℕ → Read DifferentialSheet
extent_end x bytes = then_read (read_equations x x.equations bytes) (equations_end x)

-- The definition, with its parts named.
differential-is : (bytes : List ℕ) → read_differential_of bytes ≡ then_read (read_extent bytes) extent_end
unfolding read_differential_of extent_end equations_end
differential-is bytes = refl

end_is : (x : Extent) (es : List (List DifferentialTerm)) (rest : List ℕ)
    → then_read (equations_end x es rest) recurrence_read ≡ end_of x (map (recurrence_row x.order) es) rest
unfolding equations_end read_end recurrence_read end_of recurrence_of then_read
end_is x es [] =
    ap (λ n. got (plain_sheet (with_equations_of n (sizes_for_of x)) (map (recurrence_row x.order) es)) [])
    (sym (length-map es (recurrence_row x.order)))
end_is x es (b ∷ rest) = refl

section-end : (x : Extent) (bytes : List ℕ) → then_read (extent_end x bytes) recurrence_read ≡ rows_end_of x bytes
unfolding extent_end rows_end_of rows_read then_read
section-end x bytes =
    then-then (read_equations x n bytes) (equations_end x) recurrence_read
    ∙ then-cong (read_equations x n bytes) (λ es rest. end_is x es rest)
    ∙ sym (then-then (read_equations x n bytes) (rows_read x.order) (end_of x))
    ∙ ap (λ r. then_read r (end_of x)) (rows_are x n bytes)
  where
    n : ℕ
    n = x.equations

pub recurrence-is : (bytes : List ℕ) → read_recurrence bytes ≡ then_read (read_extent bytes) rows_end_of
unfolding read_recurrence recurrence_read
recurrence-is bytes =
    ap (λ r. then_read r recurrence_read) (differential-is bytes)
    ∙ then-then (read_extent bytes) extent_end recurrence_read
    ∙ then-cong (read_extent bytes) section-end
