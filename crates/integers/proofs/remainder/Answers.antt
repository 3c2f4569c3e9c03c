-- `integers::remainder` meets its contract. The machine asks the same as of the quotient; the remainder is no larger than the dividend.
-- Assumes nothing.
use mir.Facts.{to_z-of_z}
use Rattle.integers.specs.Ranges.{division, sfits-rem_z}
use Rattle.integers.proofs.remainder.Goals as goal

pub nonzero_rem-result : goal.nonzero_rem-result
nonzero_rem-result c = division c.ranges.a c.ranges.d c.requires.0 c.requires.1

pub returns : goal.returns
returns c =
    let fits = sfits-rem_z c.args.a c.args.d c.ranges.a in
    simp (to_z-of_z c.ranges.a, to_z-of_z c.ranges.d, to_z-of_z fits)
