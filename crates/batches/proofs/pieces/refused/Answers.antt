-- `batches::pieces::refused` meets its contract.
-- Assumes nothing.
use mathlib.Core.Path.{ap}
use Rattle.batches.proofs.pieces.refused.Goals as goal

pub returns : goal.returns
returns c = ap (λ s. record { refusal = c.args.refusal; stream = s; taken = 0; written = 0 }) c.start.ensures
