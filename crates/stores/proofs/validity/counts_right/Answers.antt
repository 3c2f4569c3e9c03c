-- `stores::validity::counts_right` meets its contract.
-- Assumes nothing.
use mathlib.Core.Path.{sym, ◌∙◌}
use Rattle.lists.specs.Tests.{and_second, and_first}
use Rattle.stores.proofs.validity.counts_right.Goals as goal

pub returns-then-counted : goal.returns-then-counted
returns-then-counted c = and_second _ _ (sym c.counted.ensures ∙ c.if-counted.true)

pub returns-else-counted : goal.returns-else-counted
returns-else-counted c =
    c.counted.ensures ∙ and_first _ _ (sym c.counted.ensures ∙ c.if-counted.false)
