-- `steps::moving::take_steps` meets its contract. The loop's invariant: the steps that were taken lead from the first state to
-- that which the stores hold.
-- Assumes nothing.
use Rattle.steps.specs.Moving.{Moving}
use Rattle.steps.proofs.moving.take_steps.Given as goal

abbrev pub invariant-loop-taken : goal.invariant-loop-taken
invariant-loop-taken l =
    Moving l.initial.p l.initial.rows l.initial.relations l.rows l.relations l.p l.taken
