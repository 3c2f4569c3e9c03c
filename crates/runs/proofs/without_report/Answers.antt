-- `runs::without_report` meets its contract.
-- Assumes nothing.
use mathlib.Core.Path.{◌∙◌, ap, refl}
use native.Mathlib.Omega.{arith}
use Rattle.std.proofs.lemmas.Result.{err_from_is_err_and}
use Rattle.std.proofs.lemmas.Bool.{le-leb}
use Rattle.rules.specs.Calls.{refusal}
use Rattle.reduction.specs.Progress.{state_of}
use Rattle.runs.specs.CallLaws.{result_after_of, ended-accepted}
use Rattle.runs.specs.Unreported.{unreported_in, unreported-accepted}
use Rattle.runs.proofs.without_report.Goals as goal

pub returns : goal.returns
returns c =
    let p = c.in_ok-p.p in
    let end = rw c.in_ok-p.was at c.requires in
    λ side D rows relations.
    rw c.in_ok-p.was
    (unreported-accepted side D rows relations p c.counted.result (omega (arith, end.0, end.1)) c.counted.ensures
    ∙ ap unreported_in (ended-accepted side D (state_of rows relations p) 0 _ refl (le-leb p.rows p.settled end.3)))

pub returns-in_err-p : goal.returns-in_err-p
unfolding result_after_of refusal
returns-in_err-p c =
    let exit = err_from_is_err_and c.from_residual.result c.from_residual.ensures.1 in
    λ side D rows relations. rw (exit.1, exit.2, c.in_err-p.was) refl

pub counted-requires : goal.counted-requires
counted-requires c =
    let end = rw c.in_ok-p.was at c.requires in
    (end.0, end.2)
