-- `own_logs::put_lines` meets its contract.
-- Assumes nothing.
use mathlib.Core.Path.{◌∙◌, ap, ap₂}
use Prim.Native.Nat.{◌+◌, ◌*◌}
use lib.Seq.{paste}
use Rattle.working_rows.specs.Working.{paste-joined}
use Rattle.log_steps.specs.Logs.{step_length}
use Rattle.own_logs.proofs.put_lines.Goals as goal

pub returns : goal.returns
returns c =
    let args = c.args in
    let log = args.log.now in
    let lines = args.lines in
    let at = args.k * step_length in
    c.save-2.ensures
    ∙ ap₂ (λ l n. paste l (at + step_length) lines.second n)
    (c.save.ensures ∙ ap (λ n. paste log at lines.first n) c.requires.0.first-long) c.requires.0.second-long
    ∙ paste-joined log lines.first lines.second at step_length step_length c.requires.0.first-long c.requires.0.second-long c.requires.1
