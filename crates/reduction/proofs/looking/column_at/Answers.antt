-- `reduction::looking::column_at` meets its contract.
-- Assumes nothing.
use mathlib.Core.Path.{sym, ◌∙◌, ap}
use Rattle.rules.specs.Limits.{column_count}
use Rattle.rules.specs.Rows.{leading_block, first_nonzero}
use Rattle.rules.specs.Stores.{row_of}
use Rattle.working_rows.specs.Found.{found_or}
use Rattle.working_rows.specs.Working.{left-long, leading-left}
use Rattle.reduction.proofs.looking.column_at.Goals as goal

pub slice_bounds-first_column-end : goal.slice_bounds-first_column-end
slice_bounds-first_column-end c = sym (left-long c.row_at-row.result.now c.row_at-row.ensures.result_len)

pub first_column-requires : goal.first_column-requires
first_column-requires c = left-long c.row_at-row.result.now c.row_at-row.ensures.result_len

pub returns : goal.returns
returns c =
    c.first_column.ensures
    ∙ ap (λ b. found_or column_count (first_nonzero b)) (leading-left c.row_at-row.result.now c.row_at-row.ensures.result_len
    ∙ ap (λ l. leading_block (row_of l)) c.row_at-row.ensures.result_value)
