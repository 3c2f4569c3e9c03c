-- `number_texts::put_next` meets its contract: both ways write the same bytes.
-- Assumes nothing.
use mathlib.Core.Path.{ap}
use mathlib.Core.List.{[], ◌∷◌}
use native.Mathlib.Omega.{arith}
use mir.Facts.{to_z-of_z}
use Rattle.number_texts.specs.Runs.{put_same}
use Rattle.number_texts.specs.Texts.{spaced}
use Rattle.number_texts.proofs.put_next.Goals as goal

pub put_spaced-requires : goal.put_spaced-requires
put_spaced-requires c =
    (rw (to_z-of_z c.ranges.a) c.requires.0, omega arith)

pub returns-then-at-bytes : goal.returns-then-at-bytes
returns-then-at-bytes c =
    put_same c.put_spaced.ensures (ap (λ a. spaced (a ∷ [])) (to_z-of_z c.ranges.a))

pub put_far-requires : goal.put_far-requires
put_far-requires c =
    (rw (to_z-of_z c.ranges.a) c.requires.0, omega arith)

pub returns : goal.returns
returns c =
    put_same c.put_far.ensures (ap (λ a. spaced (a ∷ [])) (to_z-of_z c.ranges.a))
