-- `working_rows::mirroring::turn` meets its contract. The loop's invariant: the first b blocks in use have changed places with the last b.
-- Assumes nothing.
use native.Mathlib.Omega.{arith}
use Rattle.working_rows.specs.Mirroring.{turned_none, turned-next, turned-all}
use Rattle.working_rows.proofs.mirroring.turn.Goals as goal

pub loop-b-init : goal.loop-b-init
loop-b-init c = turned_none c.args.span c.args.entries.now

pub loop-b-preserved : goal.loop-b-preserved
loop-b-preserved c =
    let l = c.loop-b in
    turned-next c.args.span l.b c.args.entries.now l.entries c.exchange.new.entries (omega arith) l.invariant c.exchange.ensures

pub returns : goal.returns
returns c = turned-all c.args.span c.loop-b.b c.args.entries.now c.loop-b.entries (omega arith) c.loop-b.invariant
