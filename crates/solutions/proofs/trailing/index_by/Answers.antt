-- `solutions::trailing::index_by` meets its contract.
-- Assumes nothing.
use Rattle.std.specs.Prelude.{false, Result}
use Rattle.std.proofs.Common.{sym, ◌∙◌, ap, subst}
use Rattle.rules.specs.Elimination as Elimination
use Rattle.rules.specs.Stores as Stores
use Rattle.stores.specs.Validity.{the_sizes_of}
use Rattle.refusals.specs.declared.Refusal.{Refusal}
use Rattle.refusals.specs.Refusals.{number-nonzero, number_of}
use Rattle.reduction.specs.declared.step.Progress.{Progress}
use Rattle.reduction.specs.Progress.{final_answer, outcome_at, state_of, start_progress}
use Rattle.runs.specs.CallLaws.{Final}
use Rattle.solutions.specs.LastIndices.{index_of, index_after, after-refused}
use Rattle.solutions.proofs.trailing.index_by.Goals as goal

pub index_after-requires : goal.index_after-requires
index_after-requires c =
    let e = c.args.sizes.equations in
    (c.requires.0, subst (λ (r : Result Progress Refusal). Final Elimination.trailing (Stores.span (the_sizes_of c.args.sizes)) c.args.rows.now (final_answer e r)) c.in-Ok.is c.requires.1)

pub returns-in-Ok : goal.returns-in-Ok
returns-in-Ok c =
    let e = c.args.sizes.equations in
    λ relations. c.index_after.ensures relations
    ∙ ap (λ (r : Result Progress Refusal). index_after (the_sizes_of c.args.sizes) (outcome_at c.args.rows.now relations (final_answer e r))) (sym c.in-Ok.is)

pub returns-in-Err : goal.returns-in-Err
returns-in-Err c =
    let e = c.args.sizes.equations in
    let r = c.in-Err.refusal in
    λ relations.
    ap (λ n. index_of n false 0) c.number.ensures
    ∙ after-refused (the_sizes_of c.args.sizes) (number_of r) false (state_of c.args.rows.now relations (start_progress e 0)) (number-nonzero r)
    ∙ ap (λ (x : Result Progress Refusal). index_after (the_sizes_of c.args.sizes) (outcome_at c.args.rows.now relations (final_answer e x))) (sym c.in-Err.is)
