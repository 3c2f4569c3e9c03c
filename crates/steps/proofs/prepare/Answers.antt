-- `steps::prepare` meets its contract.
-- Assumes nothing.
use mathlib.Core.Path.{refl}
use Rattle.std.proofs.lemmas.Result.{err_from_is_err_and}
use Rattle.refusals.specs.Refusals.{number_of, number-nonzero}
use Rattle.stores.specs.Validity.{the_sizes_of}
use Rattle.steps.specs.HeldCalls.{prepared, no_state_of}
use Rattle.steps.specs.Handed.{held_of, prepared_of, prepare-refused, prepare-passed}
use Rattle.steps.proofs.prepare.Goals as goal

pub returns-in_err-check_stores : goal.returns-in_err-check_stores
unfolding prepared_of
returns-in_err-check_stores c =
    let r = c.in_err-check_stores.field-0.0 in
    let exit = err_from_is_err_and c.from_residual.result c.from_residual.ensures.1 in
    rw (exit.1, exit.2) (prepare-refused (the_sizes_of c.args.sizes) c.args.count c.args.rows.now c.args.relations.now
    (number_of r) no_state_of (number-nonzero r) c.in_err-check_stores.ensures refl)

pub returns : goal.returns
unfolding prepared_of held_of prepared
returns c =
    prepare-passed (the_sizes_of c.args.sizes) c.args.count c.args.rows.now c.args.relations.now c.in_ok-check_stores.ensures
