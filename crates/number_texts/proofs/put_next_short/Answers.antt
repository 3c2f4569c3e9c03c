-- `number_texts::put_next_short` meets its contract: both ways write the same bytes.
-- Assumes nothing.
use mathlib.Core.Path.{ap}
use mathlib.Core.List.{[], ◌∷◌}
use native.Mathlib.Omega.{arith}
use lib.IntN.{nat_abs}
use mir.Facts.{to_z-of_z}
use Rattle.number_texts.specs.Runs.{put_same}
use Rattle.number_texts.specs.Texts.{small-pair, spaced}
use Rattle.number_texts.proofs.put_next_short.Goals as goal

pub put_spaced_pair-requires : goal.put_spaced_pair-requires
put_spaced_pair-requires c =
    (omega (arith, ap nat_abs (to_z-of_z c.ranges.a), c.requires.0), omega arith)

pub returns-then-at-bytes : goal.returns-then-at-bytes
returns-then-at-bytes c =
    put_same c.put_spaced_pair.ensures (ap (λ a. spaced (a ∷ [])) (to_z-of_z c.ranges.a))

pub put_far-requires : goal.put_far-requires
put_far-requires c =
    (rw (to_z-of_z c.ranges.a) (small-pair _ c.requires.0), omega arith)

pub returns : goal.returns
returns c =
    put_same c.put_far.ensures (ap (λ a. spaced (a ∷ [])) (to_z-of_z c.ranges.a))
