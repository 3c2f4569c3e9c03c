-- `frames::counted` meets its contract.
-- Assumes nothing.
use Rattle.frames.specs.Lines.{stays-empty, counts-accepted, counts-refused}
use Rattle.frames.proofs.counted.Goals as goal

pub returns-then-batch-eq0 : goal.returns-then-batch-eq0
returns-then-batch-eq0 c = let args = c.args in stays-empty args.batch args.client args.refusal c.if-batch-eq0.true

pub returns-then-refusal-eq0 : goal.returns-then-refusal-eq0
returns-then-refusal-eq0 c =
    let args = c.args in
    counts-accepted args.batch args.client args.refusal c.if-batch-eq0.false
    c.if-refusal-eq0.true c.raised.result c.raised.ensures

pub returns : goal.returns
returns c =
    let args = c.args in
    counts-refused args.batch args.client args.refusal c.if-batch-eq0.false
    c.if-refusal-eq0.false c.raised-2.result c.raised-2.ensures
