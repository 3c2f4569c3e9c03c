-- `own_logs::steps` meets its contract. The loop's invariant: the steps that are left, from the progress that is reached, give
-- what the whole run gives, and the log holds the steps up to there.
-- Assumes nothing.
use Prim.Native.Nat.{◌-◌}
use Rattle.rules.specs.Stores.{rows_of, relations_of}
use Rattle.rules.specs.Elimination as Elimination
use Rattle.reduction.specs.Progress.{state_of}
use Rattle.reduction.specs.RunLaws.{Running}
use Rattle.own_logs.specs.Own.{own_changes}
use Rattle.own_logs.specs.LoggedSteps.{Noting}
use Rattle.own_logs.proofs.steps.Given as goal

abbrev pub invariant-loop : goal.invariant-loop
invariant-loop l =
    Running Elimination.leading l.equations l.initial.rows l.initial.relations l.rows l.relations 0 l.p (l.most - l.counter)
    (Elimination.run Elimination.leading (Elimination.enough (rows_of l.equations l.initial.rows))
    (Elimination.start (rows_of l.equations l.initial.rows) (relations_of l.count l.initial.relations)))
    × Noting (own_changes (rows_of l.equations l.initial.rows) (relations_of l.count l.initial.relations)) l.initial.log l.log
    0 l.k (l.most - l.counter) (state_of l.rows l.relations l.p)
