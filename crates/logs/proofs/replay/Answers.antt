-- `logs::replay` meets its contract.
-- Assumes nothing.
use mathlib.Core.Path.{refl, sym}
use Rattle.std.proofs.Common.{Err}
use Rattle.std.proofs.lemmas.Result.{err_from_is_err_and}
use Rattle.refusals.specs.Refusals.{number_of, number-nonzero}
use Rattle.stores.specs.Validity.{the_sizes_of}
use Rattle.runs.specs.CallLaws.{result_of}
use Rattle.logs.specs.ReplayCalls.{call-unchanged}
use Rattle.logs.proofs.replay.Goals as goal

pub returns-in_err-check : goal.returns-in_err-check
unfolding result_of
returns-in_err-check c =
    let exit = err_from_is_err_and c.from_residual.result c.from_residual.ensures.1 in
    let a = c.args in
    let refusal = c.in_err-check.field-0.0 in
    rw (exit.1, exit.2)
    (call-unchanged (the_sizes_of a.sizes) a.count a.steps a.log.now a.rows.now a.relations.now (Err refusal) (number_of refusal) (number-nonzero refusal)
    c.in_err-check.ensures refl)

pub checked_replay-requires : goal.checked_replay-requires
checked_replay-requires c = sym c.in_ok-check.ensures

pub returns : goal.returns
returns c = c.checked_replay.ensures
