-- `reduction::looking::width_at` meets its contract.
-- Assumes nothing.
use mathlib.Core.Path.{sym, ◌∙◌, ap}
use native.Mathlib.Omega.{arith}
use Rattle.rules.specs.Rows.{width}
use Rattle.rules.specs.Stores.{row_of}
use Rattle.working_rows.specs.Working.{left-long, width-left}
use Rattle.reduction.proofs.looking.width_at.Goals as goal

pub slice_bounds-width_within-end : goal.slice_bounds-width_within-end
slice_bounds-width_within-end c = sym (left-long c.row_at-row.result.now c.row_at-row.ensures.result_len)

pub width_within-requires : goal.width_within-requires
width_within-requires c =
    let same = width-left c.row_at-row.result.now c.row_at-row.ensures.result_len ∙ ap (λ l. width (row_of l)) c.row_at-row.ensures.result_value in
    (left-long c.row_at-row.result.now c.row_at-row.ensures.result_len, omega (arith, c.requires.1), omega (arith, same, c.requires.2))

pub returns : goal.returns
returns c =
    c.width_within.ensures ∙ width-left c.row_at-row.result.now c.row_at-row.ensures.result_len ∙ ap (λ l. width (row_of l)) c.row_at-row.ensures.result_value
