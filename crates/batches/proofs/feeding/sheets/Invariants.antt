-- `batches::feeding::sheets` meets its contract. The loop's invariant: what was written so far, followed by the work on what is
-- left, is the whole work, and the work stores are zero. The measure is the number of sheets to come.
-- Assumes nothing.
use mathlib.Core.Path.{◌≡◌}
use Rattle.rules.specs.Stores.{largest_rows, relation_need}
use Rattle.rules.specs.Calls.{zeros}
use Rattle.batches.specs.Turns.{Sofar}
use Rattle.batches.proofs.feeding.sheets.Given as goal

abbrev pub invariant-loop-stage : goal.invariant-loop-stage
invariant-loop-stage l =
    Sofar l.initial.b l.bytes l.initial.output l.b l.at l.out l.output
    × (l.rows ≡ zeros largest_rows) × (l.relations ≡ zeros relation_need)

abbrev pub decreases-loop-stage : goal.decreases-loop-stage
decreases-loop-stage l = l.b.left
