-- `exports::wurgalm_run_trailing` meets its contract.
-- Assumes nothing.
use mathlib.Core.Path.{◌∙◌, ap}
use Rattle.rules.specs.Elimination.{trailing}
use Rattle.stores.specs.Validity.{the_sizes_of}
use Rattle.export_results.specs.Results.{sizes-told}
use Rattle.exported_runs.specs.Runs.{export_run}
use Rattle.exports.proofs.wurgalm_run_trailing.Goals as goal

pub returns : goal.returns
unfolding the_sizes_of
returns c =
    let args = c.args in
    c.exported.ensures
    ∙ ap (λ z. export_run trailing z args.count args.rows.now args.relations.now args.res.now)
    (sizes-told args.m args.equations c.ranges.l c.ranges.t)
