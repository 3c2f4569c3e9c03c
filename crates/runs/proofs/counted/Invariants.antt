-- `runs::counted` meets its contract. The loop's invariant: the first j columns are counted.
-- Assumes nothing.
use mathlib.Core.Path.{◌≡◌}
use lib.ListN.{take}
use Rattle.rules.specs.Calls.{reported_order}
use Rattle.runs.proofs.counted.Given as goal

abbrev pub invariant-loop-j : goal.invariant-loop-j
invariant-loop-j l = l.result ≡ reported_order (take l.j l.order)
