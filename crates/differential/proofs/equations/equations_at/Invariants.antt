-- `differential::equations::equations_at` meets its contract. The loop's invariant: the first i equations are in the store, and the others
-- are read from `next`.
-- Assumes nothing.
use Rattle.rules.specs.Limits.{row_length}
use Rattle.rules.specs.Stores.{row_of}
use Rattle.reading.specs.Sections.{StoredTo}
use Rattle.differential.specs.Read.{extent_of}
use Rattle.differential.specs.Rows.{read_row}
use Rattle.differential.proofs.equations.equations_at.Given as goal

abbrev pub invariant-loop-i : goal.invariant-loop-i
invariant-loop-i l =
    StoredTo row_length row_of (read_row (extent_of l.x)) l.equations l.bytes l.at l.initial.rows l.rows l.i l.next
