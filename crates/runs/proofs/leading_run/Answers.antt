-- `runs::leading_run` meets its contract.
-- Assumes nothing.
use mathlib.Core.Path.{◌≡◌, refl, ◌∙◌, ap}
use mathlib.Core.List.{List}
use Prim.Native.Nat.{ℕ, ◌≤◌}
use lib.ListN.{length}
use Rattle.std.specs.Prelude.{Result, IfOk}
use Rattle.std.proofs.Common.{Ok, Err, le_of_eq}
use Rattle.refusals.specs.declared.Refusal.{Refusal}
use Rattle.rules.specs.Limits.{column_count}
use Rattle.working_rows.specs.Found.{Columns}
use Rattle.reduction.specs.declared.step.Progress.{Progress}
use Rattle.reduction.specs.Answer.{run_answer}
use Rattle.reduction.specs.Progress.{start_progress, final_answer, outcome-run}
use lib.IntN.{ℤ}
use Rattle.rules.specs.Elimination.{leading}
use Rattle.rules.specs.Stores.{span}
use Rattle.stores.specs.Validity.{the_sizes_of}
use Rattle.runs.specs.CallLaws.{Final, result_after_of, checked, final-run}
use Rattle.runs.specs.Unreported.{unreported_in, unreported-left}
use Rattle.runs.proofs.leading_run.Goals as goal

-- what is left of a run that has ended
columns-in : {D : ℕ} {rows : List ℤ} (left : Progress) (run : Result Progress Refusal) → Final leading D rows (run_answer run left)
    → IfOk run (λ p. (p.settled ≤ column_count) × (length p.order ≡ column_count) × Columns p.order × (p.rows ≤ p.settled))
columns-in left (Ok p) h = (h.few-settled, h.four, h.columns, le_of_eq (h.all_settled refl).1)
columns-in left (Err r) h = tt

pub without_report-requires : goal.without_report-requires
without_report-requires c =
    let z = the_sizes_of c.args.sizes in
    let equations = c.args.sizes.equations in
    let run = c.checked_run-run.result in
    columns-in (start_progress equations 0) run
    (final-run leading z c.args.count c.args.rows.now c.args.relations.now _ _ (final_answer equations run)
    (checked z c.args.count c.args.rows.now c.args.relations.now c.requires) c.checked_run-run.ensures)

pub returns : goal.returns
returns c =
    let z = the_sizes_of c.args.sizes in
    let equations = c.args.sizes.equations in
    let run = c.checked_run-run.result in
    let rows = c.checked_run-run.new.rows in
    let relations = c.checked_run-run.new.relations in
    unreported-left leading z c.args.count c.args.rows.now c.args.relations.now rows relations (final_answer equations run) c.without_report.result
    c.requires c.checked_run-run.ensures
    (c.without_report.ensures leading (span z) rows relations
    ∙ ap (λ x. unreported_in (result_after_of leading (span z) x)) (outcome-run rows relations run (start_progress equations 0)))
