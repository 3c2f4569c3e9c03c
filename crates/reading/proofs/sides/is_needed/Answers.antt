-- `reading::sides::is_needed` meets its contract.
-- Assumes nothing.
use Rattle.lists.specs.Tests.{and_second}
use Rattle.reading.proofs.sides.is_needed.Goals as goal

pub returns-then-none : goal.returns-then-none
returns-then-none c = and_second _ _ c.if-none.true
