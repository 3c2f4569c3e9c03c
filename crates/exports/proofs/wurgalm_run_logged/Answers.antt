-- `exports::wurgalm_run_logged` meets its contract.
-- Assumes nothing.
use mathlib.Core.Path.{◌∙◌, ap}
use Rattle.stores.specs.Validity.{the_sizes_of}
use Rattle.export_results.specs.Results.{sizes-told}
use Rattle.exported_logs.specs.LogNumbers.{export_logged}
use Rattle.exports.proofs.wurgalm_run_logged.Goals as goal

pub returns : goal.returns
unfolding the_sizes_of
returns c =
    let args = c.args in
    c.exported_run.ensures
    ∙ ap (λ z. export_logged z args.count args.log.now args.rows.now args.relations.now args.res.now)
    (sizes-told args.m args.equations c.ranges.l c.ranges.t)
