-- `reduction::run::steps` meets its contract. The loop's invariant: the steps that are left, from the progress that is reached, give what
-- the whole run gives.
-- Assumes nothing.
use Prim.Native.Nat.{◌-◌}
use Rattle.rules.specs.Limits.{column_count}
use Rattle.sides.specs.Lent.{side_of}
use Rattle.reduction.specs.Progress.{state_of}
use Rattle.reduction.specs.Ran.{run_of}
use Rattle.reduction.specs.Unused.{Unused}
use Rattle.reduction.specs.RunLaws.{Running}
use Rattle.reduction.proofs.run.steps.Given as goal

abbrev pub invariant-loop : goal.invariant-loop
invariant-loop l =
    Running (side_of l.side) l.equations l.initial.rows l.initial.relations l.rows l.relations 0 l.p (l.most - l.counter)
    (run_of (side_of l.side) l.equations l.count l.initial.rows l.initial.relations)
    × Unused column_count l.span (state_of l.rows l.relations l.p)
