-- `differential::terms::factor_small` meets its contract. The two tests, from below and from above, are one test of the size.
-- Assumes nothing.
use mathlib.Core.Path.{◌∙◌}
use mir.Facts.{to_z-of_z}
use Rattle.integers.specs.Ranges.{size-not-below, size_below}
use mir.Syntax.{w64}
use Rattle.differential.proofs.terms.factor_small.Goals as goal

pub returns-then-value : goal.returns-then-value
returns-then-value c =
    let back = to_z-of_z {w = w64} c.ranges.value in
    rw back (size-not-below c.args.value _ (rw back at c.if-value.true))

pub returns-else-value : goal.returns-else-value
returns-else-value c =
    let back = to_z-of_z {w = w64} c.ranges.value in
    c.if-value.false ∙ size_below c.args.value _ (rw back at c.if-value.false)
