-- `combinations::known_with` meets its contract.
-- Assumes nothing.
use mathlib.Core.Path.{◌∙◌, ap₂}
use Rattle.lists.specs.Tests.{every, and_first, and_second}
use Rattle.rules.specs.Limits.{small}
use Rattle.combinations.proofs.known_with.Goals as goal

pub returns-then-before : goal.returns-then-before
returns-then-before c =
    ap₂ (λ d w. record { content = d; within = w }) c.content_with.ensures
    (c.all_small.ensures ∙ and_second c.args.before.within (every small c.args.p.now) c.if-before.true)

pub returns-else-before : goal.returns-else-before
returns-else-before c =
    ap₂ (λ d w. record { content = d; within = w }) c.content_with.ensures
    (and_first c.args.before.within (every small c.args.p.now) c.if-before.false)
