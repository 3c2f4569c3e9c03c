-- `batches::finish` meets its contract: the end of the batch, with the fields of the stream.
-- Assumes nothing.
use Rattle.batches.specs.PieceCalls.{end_call}
use Rattle.batches.proofs.finish.Goals as goal

pub returns : goal.returns
unfolding end_call
returns c = c.ending.ensures
