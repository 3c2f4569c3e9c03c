-- `exported_steps::run_numbers` meets its contract.
-- Assumes nothing.
use Rattle.std.proofs.Common.{Ok}
use mathlib.Core.Path.{sym, ◌∙◌, ap, subst}
use Rattle.refusals.specs.Refusals.{number_of}
use Rattle.rules.specs.Calls.{zeros}
use Rattle.runs.specs.CallLaws as RunLaws
use Rattle.steps.specs.StepCalls.{run_in}
use Rattle.exported_runs.specs.Runs.{run_numbers_of, SmallResult, refused-numbers}
use Rattle.exported_steps.proofs.run_numbers.Goals as goal

pub run_numbers-requires : goal.run_numbers-requires
unfolding run_in
run_numbers-requires c =
    let whole : SmallResult (run_in (Ok c.in-Ok.finished)) = subst (λ r. SmallResult (run_in r)) c.in-Ok.is c.requires in
    subst (λ f. SmallResult (run_in (Ok f))) c.in-Some.is whole

pub run_numbers-requires-in-Err : goal.run_numbers-requires-in-Err
unfolding run_in
run_numbers-requires-in-Err c = subst (λ r. SmallResult (run_in r)) c.in-Err.is c.requires

pub returns-in-None : goal.returns-in-None
unfolding run_in zeros
returns-in-None c =
    sym (ap (λ r. run_numbers_of (run_in r)) c.in-Ok.is ∙ ap (λ f. run_numbers_of (run_in (Ok f))) c.in-None.is ∙ refused-numbers 0)

pub returns-in-Some : goal.returns-in-Some
unfolding run_in
returns-in-Some c =
    c.run_numbers.ensures
    ∙ sym (ap (λ r. run_numbers_of (run_in r)) c.in-Ok.is ∙ ap (λ f. run_numbers_of (run_in (Ok f))) c.in-Some.is)

pub returns-in-Err : goal.returns-in-Err
unfolding run_in
returns-in-Err c = c.run_numbers-in-Err.ensures ∙ sym (ap (λ r. run_numbers_of (run_in r)) c.in-Err.is)
