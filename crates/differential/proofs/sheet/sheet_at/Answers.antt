-- `differential::sheet::sheet_at` meets its contract: the extent, the equations, and nothing behind them.
-- Assumes nothing.
use Rattle.std.proofs.Common.{◌≡◌, sym, ap, ◌∙◌, List, ◌++◌, ℕ, ◌*◌, ◌≤◌, ℤ, length, take, drop, arith}
use Rattle.rules.specs.Limits.{most_equations, row_length}
use Rattle.rules.specs.Numbers.{got}
use Rattle.rules.specs.Layout.{length-rows_of}
use Rattle.rules.specs.Stores.{rows_of, row_need, largest_rows}
use Rattle.rules.specs.Calls.{zeros}
use Rattle.tokens.specs.Fields.{read-err, read-ok, read-within}
use Rattle.reading.specs.Zeros.{length-zeros, take-zeros}
use Rattle.reading.specs.Sections.{read_each, rows_of-front}
use Rattle.differential.specs.Grammar.{read_extent}
use Rattle.differential.specs.Read.{extent_of, SmallExtent}
use Rattle.differential.specs.Extents.{extent-small}
use Rattle.differential.specs.Rows.{read_row}
use Rattle.differential.specs.WholeSheet.{sheet-refuses, extent-fault, rows-fault, end-fault, end-got}
use Rattle.differential.proofs.sheet.sheet_at.Goals as goal
use Rattle.differential.proofs.sheet.sheet_at.Goals.{In_ok-h, In_ok-end}

pub returns-in_err-h : goal.returns-in_err-h
returns-in_err-h c = sheet-refuses _ _ _ c.in_err-h.field-0.0 c.from_residual.ensures.1 (extent-fault _ (read-err c.in_err-h.ensures))

-- The extent, as it was read.
module _ (c : In_ok-h) where
  abbrev rows : List ℤ
  rows = c.args.rows.now

  -- the number of equations
  abbrev n : ℕ
  n = c.in_ok-h.h.extent.equations

  extent-read : read_extent c.args.bytes.now ≡ got (extent_of c.in_ok-h.h.extent) (drop c.in_ok-h.h.at c.args.bytes.now)
  extent-read = read-ok c.in_ok-h.ensures

  small : SmallExtent (extent_of c.in_ok-h.h.extent) × (1 ≤ (extent_of c.in_ok-h.h.extent).unknowns)
  small = extent-small _ extent-read

  few : n ≤ most_equations
  unfolding extent_of
  few = small.0.equations-few

  -- The part of the store that is lent.
  lent : take (n * row_length) rows ≡ zeros (n * row_length)
  lent = ap (take (n * row_length)) c.requires ∙ take-zeros (n * row_length) largest_rows (omega (arith, few))

pub overflow_mul-used : goal.overflow_mul-used
overflow_mul-used c = omega (arith, few (goal.at.overflow_mul-used c).In_ok-h)

pub slice_bounds-equations_at-end : goal.slice_bounds-equations_at-end
slice_bounds-equations_at-end c =
    omega (arith, few (goal.at.slice_bounds-equations_at-end c).In_ok-h, ap length c.requires, length-zeros largest_rows)

pub slice_bounds-equations_at-end-2 : goal.slice_bounds-equations_at-end-2
slice_bounds-equations_at-end-2 c = sym (ap length (lent (goal.at.slice_bounds-equations_at-end-2 c).In_ok-h) ∙ length-zeros _)

pub equations_at-requires : goal.equations_at-requires
equations_at-requires c =
    let d = (goal.at.equations_at-requires c).In_ok-h in
    record {
      at_in_bounds = (read-within c.in_ok-h.ensures, (small d).0);
      equations_le_most_equations = (few d, lent d);
    }

pub returns-in_err-end : goal.returns-in_err-end
unfolding extent_of
returns-in_err-end c =
    sheet-refuses _ _ _ c.in_err-end.field-0.0 c.from_residual-in_err-end.ensures.1
    (rows-fault _ _ _ (extent-read (goal.at.returns-in_err-end c).In_ok-h) (read-err c.in_err-end.ensures))

-- The rows, as they were read into the part that was lent.
module _ (c : In_ok-end) where
  abbrev d : In_ok-h
  d = (goal.at.In_ok-end c).In_ok-h

  abbrev part : List ℤ
  part = c.equations_at.new.rows

  abbrev after : List ℤ
  after = part ++ drop (n d * row_length) (rows d)

  part-long : length part ≡ n d * row_length
  part-long = c.equations_at.auto.rows ∙ ap length (lent d) ∙ length-zeros _

  rows-read : read_each (read_row (extent_of c.in_ok-h.h.extent)) (n d) (drop c.in_ok-h.h.at c.args.bytes.now)
      ≡ got (rows_of (n d) after) (drop c.in_ok-end.end c.args.bytes.now)
  unfolding row_need
  rows-read =
      read-ok c.in_ok-end.ensures
      ∙ ap (λ r. got r (drop c.in_ok-end.end c.args.bytes.now))
      (sym (rows_of-front (n d) part (drop (n d * row_length) (rows d)) part-long))

pub returns-then-end-bytes : goal.returns-then-end-bytes
unfolding extent_of
returns-then-end-bytes c =
    end-fault _ _ _ (extent-read (goal.at.returns-then-end-bytes c).In_ok-h) _ _
    (rows-read (goal.at.returns-then-end-bytes c).In_ok-end) c.if-end-bytes.true

pub returns : goal.returns
unfolding extent_of
returns c =
    record {
      read =
          end-got _ _ _ (extent-read (goal.at.returns c).In_ok-h) _ _ (rows-read (goal.at.returns c).In_ok-end) (length-rows_of _ _)
          c.if-end-bytes.false;
      small = small (goal.at.returns c).In_ok-h;
    }
