-- `number_texts::put_number` meets its contract. A minus comes before the digits of a negative number.
-- Assumes nothing.
use mathlib.Core.Path.{sym, ◌∙◌, ap}
use mathlib.Core.List.{◌∷◌}
use lib.IntN.{nat_abs}
use mir.Facts.{to_z-of_z}
use Rattle.rules.specs.Numbers.{minus}
use Rattle.number_texts.specs.Runs.{put_same, put-few, put_then}
use Rattle.number_texts.specs.Texts.{digits_of, decimal-negative, decimal-positive, decimal-length}
use Rattle.number_texts.proofs.put_number.Goals as goal

pub returns-then-a-lt0 : goal.returns-then-a-lt0
returns-then-a-lt0 c =
    let back = to_z-of_z c.ranges.a in
    let size = c.magnitude-size.ensures ∙ ap nat_abs back in
    let negative = rw back at c.if-a-lt0.true in
    put-few
    (put_same (put_then c.put_byte-next.ensures c.put_digits.ensures)
    (ap (λ n. minus ∷ digits_of n) size ∙ sym (decimal-negative c.args.a negative)))
    (decimal-length c.args.a c.requires.0)

pub returns-else-a-lt0 : goal.returns-else-a-lt0
returns-else-a-lt0 c =
    let back = to_z-of_z c.ranges.a in
    let size = c.magnitude-size.ensures ∙ ap nat_abs back in
    let positive = rw back at c.if-a-lt0.false in
    put-few
    (put_same c.put_digits-else-a-lt0.ensures (ap digits_of size ∙ sym (decimal-positive c.args.a positive)))
    (decimal-length c.args.a c.requires.0)
