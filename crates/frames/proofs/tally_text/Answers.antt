-- `frames::tally_text` meets its contract.
-- Assumes nothing.
use Rattle.rules.specs.Batch.{Tally}
use Rattle.frames.specs.Lines.{text-tally}
use Rattle.frames.proofs.tally_text.Goals as goal

pub returns : goal.returns
returns c =
    let put = c.put_tally-length in
    let y : Tally = record { accepted = c.args.accepted; refused = c.args.refused } in
    text-tally y c.requires.0 c.requires.1 put.new.bytes put.result put.ensures
