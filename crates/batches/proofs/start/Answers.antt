-- `batches::start` meets its contract.
-- Assumes nothing.
use mathlib.Core.Path.{ap}
use Rattle.batches.specs.declared.Stage.TheVariants.{Count}
use Rattle.batches.proofs.start.Goals as goal

pub returns : goal.returns
returns c = ap (λ b. record { stage = Count; batch = b; held = 0 }) c.uncounted.ensures
