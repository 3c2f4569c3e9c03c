-- `runs::ended` meets its contract.
-- Assumes nothing.
use mathlib.Core.Path.{◌∙◌, ap, subst, refl}
use Rattle.std.proofs.Common.{Ok}
use Rattle.std.proofs.lemmas.Result.{err_from_is_err_and}
use Rattle.reduction.specs.Answer.{run_answer}
use Rattle.rules.specs.Stores.{row_need, span}
use Rattle.rules.specs.Calls.{acceptance}
use Rattle.stores.specs.Validity.{the_sizes_of}
use Rattle.sides.specs.Lent.{side_of, Within}
use Rattle.reduction.specs.Progress.{state_of}
use Rattle.runs.specs.CallLaws.{Final, few-blocks, result_of, result_after_of, ended-accepted}
use Rattle.runs.proofs.ended.Goals as goal
use Rattle.runs.proofs.ended.Goals.{In_ok-p}

-- the run has ended with the progress p
final : (c : In_ok-p) → Final (side_of c.args.side) (span (the_sizes_of c.args.sizes)) c.args.rows.now (run_answer (Ok c.in_ok-p.p) c.in_ok-p.p)
final c = rw c.in_ok-p.was at c.requires.1

pub accepted-requires : goal.accepted-requires
unfolding the_sizes_of
accepted-requires c =
    let end = final (goal.at.accepted-requires c).In_ok-p in
    let settled = (end.all_settled refl).1 in
    record {
      span_bound = (
        rw c.span.ensures (few-blocks (the_sizes_of c.args.sizes) c.requires.0),
        end.few-settled,
        subst (λ n. Within (row_need n) c.args.rows.now) settled end.rows-within,
        settled,
      );
      order_len = (end.four, end.columns);
      nonzero = rw c.span.ensures (end.nonzero refl);
    }

pub returns : goal.returns
unfolding the_sizes_of
returns c =
    let end = final (goal.at.returns c).In_ok-p in
    let side = side_of c.args.side in
    λ relations.
    let state = state_of c.args.rows.now relations c.in_ok-p.p in
    rw c.in_ok-p.was
    (c.accepted.ensures relations ∙ ap (λ d. acceptance side d state) c.span.ensures
    ∙ ended-accepted side (span (the_sizes_of c.args.sizes)) state 0 _ refl (end.all_settled refl).0)

pub returns-in_err-p : goal.returns-in_err-p
unfolding result_of result_after_of
returns-in_err-p c =
    let exit = err_from_is_err_and c.from_residual.result c.from_residual.ensures.1 in
    λ relations. rw (exit.1, exit.2, c.in_err-p.was) refl
