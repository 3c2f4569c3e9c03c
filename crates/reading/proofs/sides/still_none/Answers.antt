-- `reading::sides::still_none` meets its contract.
-- Assumes nothing.
use mathlib.Core.Path.{◌∙◌}
use Rattle.lists.specs.Tests.{and_second}
use Rattle.reading.proofs.sides.still_none.Goals as goal

pub is_zero-requires : goal.is_zero-requires
is_zero-requires c = tt

pub returns-then-none : goal.returns-then-none
returns-then-none c = c.is_zero.ensures ∙ and_second _ _ c.if-none.true
