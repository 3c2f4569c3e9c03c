-- `exports::wurgalm_prepare` meets its contract.
-- Assumes nothing.
use mathlib.Core.Path.{◌∙◌, ap}
use Rattle.stores.specs.Validity.{the_sizes_of}
use Rattle.export_results.specs.Results.{sizes-told}
use Rattle.exported_steps.specs.StateNumbers.{export_prepare}
use Rattle.exports.proofs.wurgalm_prepare.Goals as goal

pub returns : goal.returns
unfolding the_sizes_of
returns c =
    let args = c.args in
    c.exported_prepare.ensures
    ∙ ap (λ z. export_prepare z args.count args.rows.now args.relations.now args.state.now)
    (sizes-told args.m args.equations c.ranges.l c.ranges.t)
