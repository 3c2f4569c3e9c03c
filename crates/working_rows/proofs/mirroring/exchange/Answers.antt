-- `working_rows::mirroring::exchange` meets its contract. The loop's invariant: the first k numbers of each block have changed places.
-- Assumes nothing.
use Prim.Native.Nat.{◌+◌}
use native.Mathlib.Omega.{arith}
use mathlib.Core.Path.{sym, subst}
use lib.IntN.{pos}
use Rattle.working_rows.specs.Mirroring.{Exchanged, exchanged-none, exchanged-next}
use Rattle.working_rows.proofs.mirroring.exchange.Goals as goal

pub loop-k-init : goal.loop-k-init
loop-k-init c = exchanged-none c.args.a c.args.b c.args.entries.now

pub loop-k-preserved : goal.loop-k-preserved
loop-k-preserved c =
    let args = c.args in
    let k = c.loop-k.k in
    subst (Exchanged args.a args.b (k + 1) args.entries.now) (sym (c.swap.ensures.by_index.3 (pos 0)))
    (exchanged-next args.a args.b k args.entries.now c.loop-k.entries (omega arith) (omega arith) c.loop-k.invariant)
