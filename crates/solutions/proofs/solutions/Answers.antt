-- `solutions::solutions` meets its contract.
-- Assumes nothing.
use mathlib.Core.Path.{sym, ◌∙◌}
use Rattle.stores.specs.Validity.{the_sizes_of}
use Rattle.solutions.specs.AnswerStores.{call-refused}
use Rattle.std.proofs.Common.{◌≡◌, ◌∙◌, ap, false}
use Rattle.refusals.specs.Refusals.{number_of, number-nonzero}
use Rattle.solutions.specs.SolutionCalls.{unlisted}
use Rattle.solutions.proofs.solutions.Goals as goal

pub returns-in-Err : goal.returns-in-Err
returns-in-Err c =
    let r = c.in-Err.refusal in
    let told : number_of r ≡ _ = c.in-Err.ensures in
    call-refused (the_sizes_of c.args.sizes) c.args.count c.args.rows.now c.args.relations.now c.args.work_rows.now
    c.args.work_relations.now c.args.work_matrix.now c.args.list.now c.unlisted.result (number_of r)
    (number-nonzero r) told (c.unlisted.ensures ∙ ap (unlisted false) c.number.ensures)

pub checked_solutions-requires : goal.checked_solutions-requires
checked_solutions-requires c = sym c.in-Ok.ensures

pub returns-in-Ok : goal.returns-in-Ok
returns-in-Ok c = c.checked_solutions.ensures
