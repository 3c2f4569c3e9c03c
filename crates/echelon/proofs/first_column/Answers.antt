-- `echelon::first_column` meets its contract.
-- Assumes nothing.
use Rattle.std.proofs.Common.{sym, ◌∙◌, ap, rules}
use Rattle.echelon.specs.RowWork.{FirstOf, column-searched, column_found}
use Rattle.std.specs.Prelude.{length}
use Rattle.echelon.proofs.first_column.Goals as goal

pub returns : goal.returns
returns c =
    let row = c.args.row.now in
    let first : FirstOf row c.position.result = search rules in
    column-searched row c.position.result first ∙ ap (column_found (length row)) (sym c.unwrap_or.ensures)
