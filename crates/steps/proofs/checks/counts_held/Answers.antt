-- `steps::checks::counts_held` meets its contract.
-- Assumes nothing.
use mathlib.Core.Path.{sym, ◌∙◌}
use Rattle.lists.specs.Tests.{and_second, and_first}
use Rattle.steps.proofs.checks.counts_held.Goals as goal

pub returns-then-sizes_right : goal.returns-then-sizes_right
returns-then-sizes_right c = and_second _ _ (sym c.sizes_right.ensures ∙ c.if-sizes_right.true)

pub returns-else-sizes_right : goal.returns-else-sizes_right
returns-else-sizes_right c =
    c.sizes_right.ensures ∙ and_first _ _ (sym c.sizes_right.ensures ∙ c.if-sizes_right.false)
