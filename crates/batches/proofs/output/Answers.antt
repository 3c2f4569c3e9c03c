-- `batches::output` meets its contract: a whole batch in stores of its own, which are zero as they are made.
-- Assumes nothing.
use mathlib.Core.Path.{refl}
use Rattle.rules.specs.Calls.{zeros}
use Rattle.batches.proofs.output.Goals as goal

pub whole-requires : goal.whole-requires
unfolding zeros
whole-requires c = (refl, refl)
