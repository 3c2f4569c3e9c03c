-- `records::checks::within` meets its contract. Assumes nothing.
use mathlib.Core.Path.{ap, ◌∙◌}
use lib.Dec.{leb}
use lib.IntN.{nat_abs}
use mir.Facts.{to_z-of_z}
use Rattle.records.proofs.checks.within.Goals as goal

pub returns : goal.returns
returns c =
    ap (λ k. leb k c.args.most) (c.magnitude.ensures ∙ ap nat_abs (to_z-of_z c.ranges.n))
