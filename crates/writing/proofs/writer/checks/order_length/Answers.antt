-- `writing::writer::checks::order_length` meets its contract.
-- Assumes nothing.
use Rattle.writing.proofs.writer.checks.order_length.Goals as goal

pub returns : goal.returns
returns c = c.columns_given.ensures
