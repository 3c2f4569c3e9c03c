-- Each call is one that `passed` speaks of: the stream is right, there is room for an answer, and some bytes are left.
use Rattle.std.proofs.Common.{arith, sym, length-take-le}
use Rattle.regularise.specs.Passing.{passed}
use Rattle.regularise.proofs.pass.Goals as goal

pub overflow_add-at : goal.overflow_add-at
overflow_add-at g c =
    let p = passed _ _ _ _ c.loop-at.invariant.1 (omega arith) (omega arith) _ _ _ c.piece-passed.ensures in
    omega (arith, p.taken)

pub slice_bounds-put-end : goal.slice_bounds-put-end
slice_bounds-put-end g c =
    let p = passed _ _ _ _ c.loop-at.invariant.1 (omega arith) (omega arith) _ _ _ c.piece-passed.ensures in
    omega (arith, p.written)

pub slice_bounds-put-end-in-loop-at : goal.slice_bounds-put-end-in-loop-at
slice_bounds-put-end-in-loop-at g c =
    let p = passed _ _ _ _ c.loop-at.invariant.1 (omega arith) (omega arith) _ _ _ c.piece-passed.ensures in
    sym (length-take-le _ _ (omega (arith, p.written)))

pub loop-at-smaller : goal.loop-at-smaller
loop-at-smaller g c =
    let p = passed _ _ _ _ c.loop-at.invariant.1 (omega arith) (omega arith) _ _ _ c.piece-passed.ensures in
    omega (arith, p.some, p.taken)

pub loop-at-preserved : goal.loop-at-preserved
loop-at-preserved g c =
    let p = passed _ _ _ _ c.loop-at.invariant.1 (omega arith) (omega arith) _ _ _ c.piece-passed.ensures in
    (omega (arith, p.taken), p.right)
