-- `echelon::settle` meets its contract.
-- Assumes nothing.
use mathlib.Core.Path.{◌≡◌, refl, ◌∙◌}
use mathlib.Core.Option.{none, some}
use native.Mathlib.Omega.{arith}
use lib.ListN.{length}
use Rattle.echelon.specs.Eliminated.{first_at}
use Rattle.echelon.specs.MatrixTurns.{count_after, columns_after, store_after}
use Rattle.echelon.specs.RowWork.{column-some, column-none}
use Rattle.echelon.proofs.settle.Goals as goal
use Rattle.echelon.proofs.settle.Goals.{Else-column-row, Then-column-row}

found : (c : Then-column-row) → first_at c.args.row.now ≡ some c.first_column-column.result
found c =
    c.first_column-column.ensures
    ∙ column-some (length c.args.row.now) c.first_column-column.result c.if-column-row.true

missing : (c : Else-column-row) → first_at c.args.row.now ≡ none
missing c =
    c.first_column-column.ensures
    ∙ column-none (length c.args.row.now) c.first_column-column.result c.if-column-row.false

pub bounds-columns-settled : goal.bounds-columns-settled
unfolding count_after
bounds-columns-settled c =
    let t = (goal.at.bounds-columns-settled c).Then-column-row in omega (arith, rw (found t) at t.requires.columns_len.1)

pub returns-then-column-row : goal.returns-then-column-row
unfolding count_after columns_after store_after
returns-then-column-row c = rw (found (goal.at.returns-then-column-row c).Then-column-row) record {
  value = (refl, refl);
  matrix_after = c.save.ensures;
}

pub returns : goal.returns
unfolding count_after columns_after store_after
returns c = rw (missing c) record { value = (refl, refl); matrix_after = refl }
