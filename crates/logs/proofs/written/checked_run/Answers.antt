-- `logs::written::checked_run` meets its contract.
-- Assumes nothing.
use mathlib.Core.Path.{◌≡◌, refl, sym, ◌∙◌, ap, subst}
use mathlib.Core.List.{List, ◌++◌, map}
use Prim.Native.Nat.{ℕ, suc, ◌*◌, ◌≤◌}
use native.Mathlib.Omega.{arith}
use lib.IntN.{ℤ, pos}
use lib.ListN.{length, take}
use Rattle.std.specs.Prelude.{Result}
use Rattle.std.proofs.Common.{false, Ok, Err}
use Rattle.lists.specs.Everywhere.{All}
use Rattle.lists.specs.Padded.{length-pad_to}
use Rattle.refusals.specs.declared.Refusal.{Refusal}
use Rattle.refusals.specs.Refusals.{number_of, number-nonzero}
use Rattle.rules.specs.Limits.{column_count}
use Rattle.rules.specs.Calls.{acceptance, reported_order, call_run}
use Rattle.rules.specs.Elimination.{State, Outcome, leading, whole_run_of, leading_run_of}
use Rattle.rules.specs.Layout.{StoresRight, check_stores-zero}
use Rattle.rules.specs.Stores.{Sizes, equations, span, rows_of, relations_of, row_need, check_stores_of}
use Rattle.stores.specs.Validity.{the_sizes_of}
use Rattle.sides.specs.Lent.{Within}
use Rattle.reduction.specs.declared.step.Progress.{Progress}
use Rattle.reduction.specs.Answer as Answer
use Rattle.reduction.specs.Progress.{state_of, outcome_of, outcome_at, start_progress, final_answer, refused-is}
use Rattle.reduction.specs.Ran.{Ran}
use Rattle.runs.specs.declared.RunReport.{RunReport}
use Rattle.runs.specs.CallLaws.{few-equations, few-blocks, Checked, checked, Final, final-run, call-run, result_of, result_after_of, call_of, ended-accepted}
use Rattle.log_steps.specs.Logs.{Change, most_steps, step_length, log_need, own_need}
use Rattle.logs.specs.LogCallLaws.{check-right}
use Rattle.own_logs.specs.Own.{own_changes}
use Rattle.own_logs.specs.LogStores.{closed, closed-own, reported-few}
use Rattle.logs.specs.LoggedRuns.{logged-done, logged-stopped}
use Rattle.logs.proofs.written.checked_run.Goals as goal
use Rattle.logs.proofs.written.checked_run.Goals.{After-accepted-report, After-run, Start}

-- the stores before the run
module _ (c : Start) where
  abbrev z : Sizes
  z = the_sizes_of c.args.sizes

  abbrev count : ℕ
  count = c.args.count

  abbrev rows : List ℤ
  rows = c.args.rows.now

  abbrev relations : List ℤ
  relations = c.args.relations.now

  abbrev log : List ℤ
  log = c.args.log.now

  passed : StoresRight z count rows relations × (most_steps ≤ most_steps) × (log_need most_steps ≤ length log)
  passed = (check-right z count most_steps log rows relations).0 c.requires

  right : check_stores_of z count rows relations ≡ 0
  right = (check_stores-zero z count rows relations).1 passed.0

  stores : Checked z count rows relations
  stores = checked z count rows relations right

  room : own_need ≤ length log
  unfolding log_need
  room = passed.2

-- the run has come to its end
module _ (c : After-run) where
  abbrev start : Start
  start = (goal.at.After-run c).Start

  abbrev whole : Outcome
  whole = whole_run_of leading (span (z start)) (rows_of (equations (z start)) (rows start)) (relations_of (count start) (relations start))

  abbrev own : List Change
  own = own_changes (rows_of (equations (z start)) (rows start)) (relations_of (count start) (relations start))

  abbrev answer : Result Progress Refusal → Answer.Outcome
  answer r = final_answer (equations (z start)) r

  -- by the result of the run
  module _ (r : Result Progress Refusal)
      (ran : Ran (equations (z start)) (rows start) (relations start) c.run.new.rows c.run.new.relations (answer r) whole) where
    final : Final leading (span (z start)) c.run.new.rows (answer r)
    final =
        final-run leading (z start) (count start) (rows start) (relations start) c.run.new.rows c.run.new.relations (answer r) (stores start) ran

    call : (result : Result RunReport Refusal)
        → result_of result ≡ result_after_of leading (span (z start)) (outcome_at c.run.new.rows c.run.new.relations (answer r))
        → call_of result c.run.new.rows c.run.new.relations ≡ call_run leading (z start) (count start) (rows start) (relations start)
    call result e =
        call-run leading (z start) (count start) (rows start) (relations start) c.run.new.rows c.run.new.relations (answer r) result (right start) ran e

pub run-requires : goal.run-requires
unfolding equations the_sizes_of
run-requires c =
    let b = (goal.at.run-requires c).Start in
    let ok = stores b in
    (few-equations (z b) ok.sizes, ok.rows-within, ok.listing, room b)

pub returns-in-Err : goal.returns-in-Err
unfolding equations the_sizes_of whole_run_of leading_run_of result_of result_after_of
returns-in-Err c =
    let e = (goal.at.returns-in-Err c).After-run in
    let b = start e in
    let r = c.in-Err.refusal in
    let n = number-nonzero r in
    let ran = c.in-Err.ensures.ran in
    let left = c.in-Err.ensures.log_left in
    let is-refused = sym ran.reached.outcome ∙ sym (refused-is (number_of r) false (state_of c.run.new.rows c.run.new.relations (start_progress (equations (z b)) 0)) n) in
    logged-stopped (z b) (count b) (log b) (rows b) (relations b) (Err r) 0 c.run.new.rows c.run.new.relations
    c.run.new.log b.requires (right b)
    (call e (Err r) ran (Err r) (ap (result_after_of leading (span (z b))) (refused-is (number_of r) false _ n)))
    (number_of r) is-refused (left.steps-none n) (left.cleared n)

pub span-span-requires : goal.span-span-requires
span-span-requires c = (stores (goal.at.span-span-requires c).Start).sizes

pub accepted-report-requires : goal.accepted-report-requires
unfolding equations the_sizes_of whole_run_of leading_run_of
accepted-report-requires c =
    let e = (goal.at.accepted-report-requires c).After-run in
    let b = start e in
    let end = final e (Ok c.in-Ok.written.progress) c.in-Ok.ensures.ran in
    let settled = (end.all_settled refl).1 in
    record {
      span_bound = (
        rw c.span-span.ensures (few-blocks (z b) (stores b).sizes),
        end.few-settled,
        subst (λ n. Within (row_need n) c.run.new.rows) settled end.rows-within,
        settled,
      );
      order_len = (end.four, end.columns);
      nonzero = rw c.span-span.ensures (end.nonzero refl);
    }

-- the report of a run that accepts
module _ (c : After-accepted-report) where
  abbrev ended : After-run
  ended = (goal.at.After-accepted-report c).After-run

  abbrev p : Progress
  p = c.in-Ok.written.progress

  abbrev s : State
  s = state_of c.run.new.rows c.run.new.relations p

  reported : result_of (Ok c.accepted-report.result) ≡ acceptance leading (span (z (start ended))) s
  reported = c.accepted-report.ensures c.run.new.relations ∙ ap (λ d. acceptance leading d s) c.span-span.ensures

  order_is : c.accepted-report.result.order ≡ reported_order (take p.settled p.order)
  unfolding result_of acceptance state_of
  order_is = ap (λ x. x.order) reported

pub close-requires : goal.close-requires
unfolding reported_order equations the_sizes_of whole_run_of leading_run_of
close-requires c =
    let d = (goal.at.close-requires c).After-accepted-report in
    let e = ended d in
    let end = final e (Ok (p d)) c.in-Ok.ensures.ran in
    let left = c.in-Ok.ensures.log_left in (
      (left.noted refl).few,
      omega (arith, room (start e), left.same_length),
      subst (All (λ k. k ≤ column_count)) (sym (order_is d)) (reported-few (p d).order (p d).settled end.columns),
      ap length (order_is d) ∙ length-pad_to column_count 0 (map suc (take (p d).settled (p d).order)),
    )

pub returns-in-Ok : goal.returns-in-Ok
unfolding equations the_sizes_of state_of outcome_of whole_run_of leading_run_of
returns-in-Ok c =
    let d = (goal.at.returns-in-Ok c).After-accepted-report in
    let e = ended d in
    let b = start e in
    let ran = c.in-Ok.ensures.ran in
    let end = final e (Ok (p d)) ran in
    let noted = c.in-Ok.ensures.log_left.noted refl in
    let steps = c.in-Ok.written.steps in
    let done-here = ap (λ t. outcome_of 0 t (s d)) (end.all_settled refl).0 in
    let written = c.close.ensures
    ∙ ap (λ o. closed (take (steps * step_length) c.run.new.log ++ map pos o) c.run.new.log) (order_is d)
    ∙ closed-own noted refl (room b) (take (p d).settled (p d).order) in
    logged-done (z b) (count b) (log b) (rows b) (relations b) (Ok c.accepted-report.result) steps c.run.new.rows c.run.new.relations
    c.close.new.log b.requires (right b)
    (call e (Ok (p d)) ran (Ok c.accepted-report.result) (reported d ∙ ended-accepted leading (span (z b)) (s d) 0 _ refl (end.all_settled refl).0))
    (s d) (sym ran.reached.outcome ∙ done-here) (noted.count-is refl) written
