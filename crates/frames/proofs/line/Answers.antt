-- `frames::line` meets its contract: a refusal is told by its number.
use Rattle.std.proofs.Common.{ap, ◌∙◌}
use Rattle.frames.proofs.line.Goals as goal

pub returns-in-Err : goal.returns-in-Err
returns-in-Err c =
    c.no_line.ensures ∙ ap (λ n. record { refusal = n; taken = 0; client = 0; bytes = 0 }) c.number.ensures ∙ c.in-Err.ensures
