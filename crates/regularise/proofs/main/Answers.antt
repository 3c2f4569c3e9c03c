-- The last line lies in the output.
use Rattle.std.proofs.Common.{sym, length-take-le}
use Rattle.regularise.specs.Passing.{end-within}
use Rattle.regularise.proofs.main.Goals as goal

pub slice_bounds-output-end : goal.slice_bounds-output-end
slice_bounds-output-end c = end-within _ _ _ _ c.finish-last.ensures

pub slice_bounds-put-end : goal.slice_bounds-put-end
slice_bounds-put-end c = sym (length-take-le _ _ (end-within _ _ _ _ c.finish-last.ensures))
