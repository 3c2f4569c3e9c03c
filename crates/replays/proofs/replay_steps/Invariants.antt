-- `replays::replay_steps` meets its contract. The loop's invariant: the first k steps lead from the first state to that which the
-- stores hold.
-- Assumes nothing.
use Rattle.log_steps.specs.Logs.{steps_in}
use Rattle.replays.specs.Replays.{Replaying}
use Rattle.replays.proofs.replay_steps.Given as goal

abbrev pub invariant-loop-k : goal.invariant-loop-k
invariant-loop-k l =
    Replaying l.span (steps_in l.steps l.log) l.initial.p l.initial.rows l.initial.relations l.rows l.relations l.p l.k
