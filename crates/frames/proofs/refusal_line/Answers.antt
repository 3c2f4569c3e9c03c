-- `frames::refusal_line` meets its contract.
-- Assumes nothing.
use Rattle.frames.specs.Lines.{text-count}
use Rattle.frames.proofs.refusal_line.Goals as goal

pub returns : goal.returns
returns c =
    let put = c.put_count-length in
    text-count c.args.refusal put.new.bytes put.result put.ensures
