-- `reduction::looking::side_zero_at` meets its contract.
-- Assumes nothing.
use mathlib.Core.Path.{sym, ◌∙◌, ap}
use native.Mathlib.Omega.{arith}
use Rattle.algebra.specs.Polynomials.{is_zero_of}
use Rattle.rules.specs.Stores.{row_of}
use Rattle.working_rows.specs.Working.{behind-all, right-behind}
use Rattle.reduction.proofs.looking.side_zero_at.Goals as goal

pub slice_bounds-is_zero-count : goal.slice_bounds-is_zero-count
slice_bounds-is_zero-count c = omega (arith, c.row_at-row.ensures.result_len)

pub slice_bounds-is_zero-start : goal.slice_bounds-is_zero-start
slice_bounds-is_zero-start c = omega (arith, c.row_at-row.ensures.result_len)

pub returns : goal.returns
returns c =
    let l = c.row_at-row.result.now in
    c.is_zero.ensures
    ∙ ap is_zero_of (behind-all l c.row_at-row.ensures.result_len ∙ sym (right-behind l c.row_at-row.ensures.result_len))
    ∙ ap (λ m. is_zero_of (row_of m).right) c.row_at-row.ensures.result_value
