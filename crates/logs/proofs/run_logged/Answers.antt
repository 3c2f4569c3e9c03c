-- `logs::run_logged` meets its contract.
-- Assumes nothing.
use mathlib.Core.Path.{refl, sym}
use Rattle.std.proofs.Common.{Err}
use Rattle.refusals.specs.Refusals.{number_of, number-nonzero}
use Rattle.stores.specs.Validity.{the_sizes_of}
use Rattle.runs.specs.CallLaws.{result_of}
use Rattle.logs.specs.LoggedRuns.{logged-refused}
use Rattle.logs.proofs.run_logged.Goals as goal

pub returns-in-Err : goal.returns-in-Err
unfolding result_of
returns-in-Err c =
    let args = c.args in
    let refusal = c.in-Err.refusal in
    logged-refused (the_sizes_of args.sizes) args.count args.log.now args.rows.now args.relations.now (Err refusal)
    (number_of refusal) (number-nonzero refusal) c.in-Err.ensures refl

pub checked_run-requires : goal.checked_run-requires
checked_run-requires c = sym c.in_default.ensures
