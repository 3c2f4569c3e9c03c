-- `frames::put_pair` meets its contract: the three pieces are one line.
-- Assumes nothing.
use Rattle.number_texts.specs.Runs.{put_then, put_same}
use Rattle.frames.specs.Lines.{two-numbers}
use Rattle.frames.proofs.put_pair.Goals as goal

pub returns : goal.returns
returns c =
    let args = c.args in
    let first = c.put_digits-after in
    let second = c.put_byte-next in
    put_same (put_then (put_then first.ensures second.ensures) c.put_count.ensures)
    (two-numbers args.accepted args.refused)
