-- `working_rows::mirroring::turn` meets its contract. The loop's invariant: the first b blocks in use have changed places with the last b.
-- Assumes nothing.
use Rattle.working_rows.specs.Mirroring.{TurnedTo}
use Rattle.working_rows.proofs.mirroring.turn.Given as goal

abbrev pub invariant-loop-b : goal.invariant-loop-b
invariant-loop-b l = TurnedTo l.span l.b l.initial.entries l.entries
