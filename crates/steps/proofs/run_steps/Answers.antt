-- `steps::run_steps` meets its contract.
-- Assumes nothing.
use mathlib.Core.Path.{refl}
use Rattle.refusals.specs.Refusals.{number_of, number-nonzero}
use Rattle.rules.specs.Calls.{refusal}
use Rattle.runs.specs.CallLaws as RunLaws
use Rattle.steps.specs.Handed.{held_of}
use Rattle.steps.specs.StepCalls.{run_in, result_of, call_of, call-unmoved}
use Rattle.steps.proofs.run_steps.Goals as goal

pub returns-in-Err : goal.returns-in-Err
unfolding call_of result_of run_in RunLaws.result_of
returns-in-Err c =
    let args = c.args in
    let r = c.in-Err.refusal in
    call-unmoved args.budget (held_of args.state) args.rows.now args.relations.now
    (number_of r) (refusal (number_of r)) (number-nonzero r) c.in-Err.ensures refl
