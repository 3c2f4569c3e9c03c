-- `frames::window` meets its contract.
-- Assumes nothing.
use mathlib.Core.Path.{sym}
use lib.Seq.{take_all, length-take-le}
use borrow.Author.Rules.{rules}
use Rattle.frames.proofs.window.Goals as goal

pub slice_bounds-result-end : goal.slice_bounds-result-end
slice_bounds-result-end c = sym (length-take-le 24 c.args.bytes.now (search rules))

pub returns-then-bytes-le24 : goal.returns-then-bytes-le24
returns-then-bytes-le24 c = sym (take_all 24 c.args.bytes.now c.if-bytes-le24.true)
