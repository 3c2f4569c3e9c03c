-- `combinations::both_small` meets its contract.
-- Assumes nothing.
use mathlib.Core.Path.{sym, ◌∙◌}
use Rattle.lists.specs.Tests.{every, and_first, and_second}
use Rattle.rules.specs.Limits.{small}
use Rattle.combinations.proofs.both_small.Goals as goal

pub returns-then-all_small : goal.returns-then-all_small
returns-then-all_small c =
    let a = c.args in
    c.all_small-then-all_small.ensures
    ∙ and_second (every small a.entries.now) (every small a.right.now) (sym c.all_small.ensures ∙ c.if-all_small.true)

pub returns-else-all_small : goal.returns-else-all_small
returns-else-all_small c =
    let a = c.args in
    c.all_small.ensures
    ∙ and_first (every small a.entries.now) (every small a.right.now) (sym c.all_small.ensures ∙ c.if-all_small.false)
