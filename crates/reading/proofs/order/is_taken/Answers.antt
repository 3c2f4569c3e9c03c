-- `reading::order::is_taken` meets its contract: the search is that of the definition.
-- Assumes nothing.
use Rattle.std.proofs.Common.{◌∙◌}
use Rattle.reading.specs.OrderLine.{taken-any}
use Rattle.reading.proofs.order.is_taken.Goals as goal

pub returns : goal.returns
returns c = c.contains.ensures.value ∙ taken-any _ _ _ c.requires
