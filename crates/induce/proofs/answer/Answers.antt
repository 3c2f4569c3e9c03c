-- The sheet lies in its store.
use Rattle.std.proofs.Common.{arith, sym, length-take-le}
use Rattle.differential.specs.SheetCalls.{recurrence-length}
use Rattle.induce.proofs.answer.Goals as goal

pub slice_bounds-output-end : goal.slice_bounds-output-end
slice_bounds-output-end g c =
    let few = recurrence-length _ _ c.in-Ok.ensures in
    omega (arith, few)

pub slice_bounds-put-end : goal.slice_bounds-put-end
slice_bounds-put-end g c =
    let few = recurrence-length _ _ c.in-Ok.ensures in
    sym (length-take-le _ _ (omega (arith, few)))
