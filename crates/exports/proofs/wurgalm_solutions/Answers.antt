-- `exports::wurgalm_solutions` meets its contract.
-- Assumes nothing.
use mathlib.Core.Path.{◌∙◌, ap}
use Rattle.stores.specs.Validity.{the_sizes_of}
use Rattle.solutions.specs.AnswerStores.{work_of}
use Rattle.export_results.specs.Results.{sizes-told}
use Rattle.exported_solutions.specs.SolutionNumbers.{export_solutions}
use Rattle.exports.proofs.wurgalm_solutions.Goals as goal

pub returns : goal.returns
unfolding the_sizes_of
returns c =
    let args = c.args in
    c.exported.ensures
    ∙ ap (λ z. export_solutions z args.count args.rows.now args.relations.now
    (work_of args.work_rows.now args.work_relations.now args.work_matrix.now args.list.now) args.res.now)
    (sizes-told args.m args.equations c.ranges.l c.ranges.t)
