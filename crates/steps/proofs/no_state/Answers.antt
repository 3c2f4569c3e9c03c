-- `steps::no_state` meets its contract.
-- Assumes nothing.
use mathlib.Core.Path.{refl}
use Rattle.stores.specs.Validity.{the_sizes_of}
use Rattle.steps.specs.Handed.{held_of}
use Rattle.steps.proofs.no_state.Goals as goal

pub returns : goal.returns
unfolding held_of the_sizes_of
returns c = refl
