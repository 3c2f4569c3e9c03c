-- `working_rows::mirroring::exchange` meets its contract. The loop's invariant: the first k numbers of each block have changed places.
-- Assumes nothing.
use Rattle.working_rows.specs.Mirroring.{Exchanged}
use Rattle.working_rows.proofs.mirroring.exchange.Given as goal

abbrev pub invariant-loop-k : goal.invariant-loop-k
invariant-loop-k l = Exchanged l.a l.b l.k l.initial.entries l.entries
