-- `steps::checks::pivots_right` meets its contract.
-- Assumes nothing.
use mathlib.Core.Path.{◌≡◌}
use mathlib.Core.Bool.{true}
use lib.ListN.{length}
use Rattle.rules.specs.Stores.{rows_of}
use Rattle.rules.specs.Limits.{column_count}
use Rattle.steps.specs.HeldCalls.{pivots_right_of}
use Rattle.steps.proofs.checks.pivots_right.Given as goal

abbrev pub invariant-loop-j : goal.invariant-loop-j
invariant-loop-j l =
    (length l.order ≡ column_count) × (pivots_right_of l.order (rows_of l.settled l.rows) l.j ≡ true)
