-- `batches::answer` meets its contract: the answer in stores of its own, which are zero as they are made.
-- Assumes nothing.
use mathlib.Core.Path.{refl}
use Rattle.rules.specs.Calls.{zeros}
use Rattle.batches.proofs.answer.Goals as goal

pub answer_in-requires : goal.answer_in-requires
unfolding zeros
answer_in-requires c = (refl, refl)
