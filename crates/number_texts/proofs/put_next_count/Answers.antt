-- `number_texts::put_next_count` meets its contract: a space, and the number.
-- Assumes nothing.
use mathlib.Core.Path.{sym, ◌∙◌, ap}
use mathlib.Core.List.{◌∷◌}
use Rattle.rules.specs.Numbers.{space}
use Rattle.number_texts.specs.Runs.{put_same, put_then}
use Rattle.number_texts.specs.Texts.{decimal-count, spaced-number}
use Rattle.number_texts.proofs.put_next_count.Goals as goal

pub returns : goal.returns
returns c =
    put_same (put_then c.put_byte-next.ensures c.put_digits.ensures)
    (ap (λ l. space ∷ l) (sym (decimal-count _)) ∙ spaced-number _)
