-- `steps::checks::from_zero` meets its contract.
-- Assumes nothing.
use mathlib.Core.Path.{◌≡◌}
use Prim.Native.Nat.{◌≤◌, ◌<◌}
use lib.ListN.{take}
use Rattle.steps.specs.Handed.{zeroed-none, zeroed-next}
use lib.Seq.{length-take-le, get_or-take}
use Rattle.lists.specs.Everywhere.{all_get_or}
use native.Mathlib.Omega.{arith}
use Rattle.steps.proofs.checks.from_zero.Goals as goal

pub loop-j-init : goal.loop-j-init
loop-j-init c = (omega arith, zeroed-none c.args.order)

pub overflow_sub-columns : goal.overflow_sub-columns
overflow_sub-columns c =
    all_get_or (λ c. 1 ≤ c) (take c.args.settled c.args.order) 0 c.loop-j.j (omega arith) c.requires.1

pub loop-j-preserved : goal.loop-j-preserved
loop-j-preserved c =
    let inv = c.loop-j.invariant in
    let inside : c.loop-j.j < c.args.settled = omega (arith, length-take-le c.args.settled c.args.order (omega arith)) in
    let next = zeroed-next c.args.order c.loop-j.j (omega arith) (omega arith) in
    (inv.0, rw (inv.1, get_or-take c.args.settled c.args.order c.loop-j.j 0 inside) next)

pub returns : goal.returns
returns c =
    let all : c.loop-j.j ≡ c.args.settled = omega (arith, length-take-le c.args.settled c.args.order (omega arith)) in
    (rw all at c.loop-j.invariant.1, c.loop-j.invariant.0)
