-- `solutions::unlisted` meets its contract.
-- Assumes nothing.
use mathlib.Core.Path.{refl}
use Rattle.solutions.specs.AnswerStores.{solutions_of}
use Rattle.solutions.proofs.unlisted.Goals as goal

pub returns : goal.returns
unfolding solutions_of
returns c = refl
