-- `steps::checks::order_held` meets its contract.
-- Assumes nothing.
use mathlib.Core.Path.{sym, ◌∙◌}
use Rattle.lists.specs.Tests.{and_second, and_first}
use Rattle.steps.proofs.checks.order_held.Goals as goal

pub returns-then-columns_within : goal.returns-then-columns_within
returns-then-columns_within c =
    c.columns_unused.ensures ∙ and_second _ _ (sym c.columns_within.ensures ∙ c.if-columns_within.true)

pub returns-else-columns_within : goal.returns-else-columns_within
returns-else-columns_within c =
    c.columns_within.ensures ∙ and_first _ _ (sym c.columns_within.ensures ∙ c.if-columns_within.false)
