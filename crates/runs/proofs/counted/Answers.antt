-- `runs::counted` meets its contract. The loop's invariant: the first j columns are counted.
-- Assumes nothing.
use native.Mathlib.Omega.{arith}
use Rattle.working_rows.specs.Found.{Columns-at}
use Rattle.runs.specs.CallLaws.{counted_none, counted_next}
use Rattle.runs.proofs.counted.Goals as goal

pub loop-j-init : goal.loop-j-init
loop-j-init c = counted_none c.args.order

pub overflow_add-result : goal.overflow_add-result
overflow_add-result c = omega (arith, Columns-at c.args.order c.requires.1 c.loop-j.j)

pub loop-j-preserved : goal.loop-j-preserved
loop-j-preserved c =
    let next = counted_next c.args.order c.loop-j.j (omega arith) (omega arith) in
    rw c.loop-j.invariant next
