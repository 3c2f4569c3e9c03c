-- `reduction::looking::met_at` meets its contract.
-- Assumes nothing.
use mathlib.Core.Path.{sym, ◌∙◌, ap}
use mathlib.Core.List.{map}
use lib.ListN.{take}
use Rattle.rules.specs.Rows.{entry, first_nonzero}
use Rattle.rules.specs.Stores.{row_of}
use Rattle.working_rows.specs.Found.{found_or}
use Rattle.working_rows.specs.Working.{left-long, entry-left}
use Rattle.reduction.proofs.looking.met_at.Goals as goal

pub slice_bounds-first_met-end : goal.slice_bounds-first_met-end
slice_bounds-first_met-end c = sym (left-long c.row_at-row.result.now c.row_at-row.ensures.result_len)

pub first_met-requires : goal.first_met-requires
first_met-requires c =
    (left-long c.row_at-row.result.now c.row_at-row.ensures.result_len, c.requires.1, c.requires.2)

pub returns : goal.returns
returns c =
    let args = c.args in
    c.first_met.ensures
    ∙ ap (λ f. found_or args.settled (first_nonzero (map f (take args.settled args.order))))
    (entry-left c.row_at-row.result.now c.row_at-row.ensures.result_len ∙ ap (λ l. entry (row_of l)) c.row_at-row.ensures.result_value)
