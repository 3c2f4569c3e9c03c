-- The line lies in its store.
use Rattle.std.proofs.Common.{arith, rules, sym, length-take-le}
use Rattle.frames.specs.PieceSizes.{text-fits}
use Rattle.induce.proofs.put_line.Goals as goal

pub slice_bounds-text-end : goal.slice_bounds-text-end
slice_bounds-text-end g c =
    let line = c.refusal_line-line in
    let few = text-fits line.result _ line.ensures (search rules) in
    omega (arith, few)

pub slice_bounds-put-end : goal.slice_bounds-put-end
slice_bounds-put-end g c =
    let line = c.refusal_line-line in
    let few = text-fits line.result _ line.ensures (search rules) in
    sym (length-take-le _ _ (omega (arith, few)))
