-- `echelon::eliminate` meets its contract. The loop's invariant: behind i rows the elimination stands where its definition
-- stands behind them, and the rows from row i on are as they were given.
-- Assumes nothing.
use mathlib.Core.Path.{◌≡◌}
use lib.ListN.{length}
use Rattle.echelon.specs.MatrixTurns.{Turn}
use Rattle.constant_rows.specs.ListLengths.{list_columns}
use Rattle.echelon.proofs.eliminate.Given as goal

abbrev pub invariant-loop-i : goal.invariant-loop-i
invariant-loop-i l =
    Turn l.n l.count l.initial.matrix l.matrix l.columns l.settled l.i × (length l.numbers ≡ list_columns)
