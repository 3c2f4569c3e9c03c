-- `frames::begin` meets its contract: a refusal is told by its number.
use Rattle.std.proofs.Common.{ap, ◌∙◌}
use Rattle.rules.specs.Batch.{no_tally}
use Rattle.frames.specs.Pieces.{batch_with}
use Rattle.frames.proofs.begin.Goals as goal

pub returns-in-Err : goal.returns-in-Err
returns-in-Err c =
    ap (λ b. record { refusal = c.number.result; taken = 0; batch = b }) c.uncounted.ensures
    ∙ ap (λ n. record { refusal = n; taken = 0; batch = batch_with 0 no_tally }) c.number.ensures ∙ c.in-Err.ensures
