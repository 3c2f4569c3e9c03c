-- `number_texts::put_count` meets its contract: the number, and the end of its line.
-- Assumes nothing.
use Rattle.number_texts.specs.Runs.{put_same, put_then}
use Rattle.number_texts.specs.Texts.{count-line}
use Rattle.number_texts.proofs.put_count.Goals as goal

pub returns : goal.returns
returns c =
    put_same (put_then c.put_digits-written.ensures c.put_byte.ensures)
    (count-line c.args.n)
