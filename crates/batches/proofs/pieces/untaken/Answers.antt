-- `batches::pieces::untaken` meets its contract.
-- Assumes nothing.
use Rattle.batches.specs.PieceSteps.{untaken_of}
use Rattle.batches.proofs.pieces.untaken.Goals as goal

pub returns-then-fed : goal.returns-then-fed
unfolding untaken_of
returns-then-fed c = rw c.if-fed.true

pub returns : goal.returns
unfolding untaken_of
returns c = rw c.if-fed.false
