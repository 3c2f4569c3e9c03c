-- `number_texts::put_far` meets its contract: a space, and the number.
-- Assumes nothing.
use mathlib.Core.Path.{◌∙◌, ap}
use mathlib.Core.List.{◌∷◌}
use mir.Facts.{to_z-of_z}
use Rattle.rules.specs.Numbers.{space, decimal}
use Rattle.number_texts.specs.Runs.{put_same, put_then}
use Rattle.number_texts.specs.Texts.{spaced-number}
use borrow.Author.Rules.{rules}
use Rattle.number_texts.proofs.put_far.Goals as goal

pub put_number-requires : goal.put_number-requires
put_number-requires c =
    (rw (to_z-of_z c.ranges.a) c.requires.0, search rules)

pub returns : goal.returns
returns c =
    put_same (put_then c.put_byte-next.ensures c.put_number.ensures)
    (ap (λ a. space ∷ decimal a) (to_z-of_z c.ranges.a) ∙ spaced-number c.args.a)
