-- `echelon::combine` meets its contract. The loop's invariant: the first j numbers of the row are combined, and the others
-- are as they were.
-- Assumes nothing.
use mathlib.Core.Path.{◌≡◌}
use lib.ListN.{length, drop}
use Rattle.lists.specs.Taken.{Overwritten}
use Rattle.echelon.specs.Eliminated.{combined}
use Rattle.echelon.proofs.combine.Given as goal

abbrev pub invariant-loop-j : goal.invariant-loop-j
invariant-loop-j l =
    Overwritten (length l.initial.row) (combined (record { g = l.g; h = l.h }) l.initial.row l.pivot) l.row l.j
    × (drop l.j l.row ≡ drop l.j l.initial.row)
