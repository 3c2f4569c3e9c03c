-- `integers::within_bound` meets its contract. The two tests, from below and from above, are one test of the size.
-- Assumes nothing.
use mathlib.Core.Path.{◌∙◌}
use mir.Facts.{to_z-of_z}
use Rattle.rules.specs.Limits.{small}
use Rattle.integers.specs.Ranges.{size-not-below, size_below}
use Rattle.integers.proofs.within_bound.Goals as goal

pub returns-then-a : goal.returns-then-a
unfolding small
returns-then-a c =
    let back = to_z-of_z c.before.ranges.a in
    rw back (size-not-below c.before.args.a _ (rw back at c.if-a.true))

pub returns-else-a : goal.returns-else-a
unfolding small
returns-else-a c =
    let back = to_z-of_z c.before.ranges.a in
    c.if-a.false ∙ size_below c.before.args.a _ (rw back at c.if-a.false)
