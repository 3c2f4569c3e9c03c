-- `steps::checked_steps` meets its contract.
-- Assumes nothing.
use mathlib.Core.Path.{◌≡◌, refl, ◌∙◌, ap}
use mathlib.Core.Bool.{false}
use mathlib.Core.List.{List}
use Rattle.std.proofs.Common.{Ok}
use Rattle.refusals.specs.Refusals.{number_of, number-nonzero}
use Rattle.rules.specs.Calls.{refusal}
use Rattle.reduction.specs.Progress.{start_progress, state_of}
use Rattle.steps.specs.Moving.{moved-as}
use lib.IntN.{ℤ}
use Rattle.rules.specs.Stores.{equations, span}
use Rattle.stores.specs.Validity.{the_sizes_of}
use Rattle.steps.specs.HeldCalls.{Held, the_columns_of}
use Rattle.steps.specs.SoundStates.{HeldBounds}
use Rattle.steps.specs.Handed.{held_of, held-few, held-positive}
use Rattle.runs.specs.CallLaws as RunLaws
use Rattle.steps.specs.StepCalls.{run_in, result_of, call_of, progress_in, passed-bounds, after-held, after-refused, run-refused}
use Rattle.steps.proofs.StepCalls.{held-ready, held-shifts, triangular-in, stands}
use Rattle.steps.proofs.StepCalls.{call-moved}
use Rattle.steps.proofs.checked_steps.Goals as goal
use Rattle.steps.proofs.checked_steps.Goals.{Start, After-from_zero-order}

-- the state that is handed in
module _ (c : Start) where
  abbrev x : Held
  x = held_of c.args.state

  abbrev rows : List ℤ
  rows = c.args.rows.now

  abbrev relations : List ℤ
  relations = c.args.relations.now

  held : HeldBounds x
  held = passed-bounds x rows relations c.requires

pub from_zero-order-requires : goal.from_zero-order-requires
unfolding held_of
from_zero-order-requires c = let s = (goal.at.from_zero-order-requires c).Start in (held-few (x s) (held s), held-positive (x s) (held s))

pub run_on-moved-requires : goal.run_on-moved-requires
unfolding held_of progress_in the_columns_of the_sizes_of equations
run_on-moved-requires c =
    let s = (goal.at.run_on-moved-requires c).Start in (
      rw c.from_zero-order.ensures.0 (held-ready (x s) (rows s) (relations s) c.from_zero-order.ensures.1 s.requires),
      held-shifts (x s) (rows s) (relations s) c.from_zero-order.ensures.1 s.requires,
    )

pub state_at-requires : goal.state_at-requires
state_at-requires c = let ready = (moved-as c.in-Ok.is c.run_on-moved.ensures).ran.reached.ready in (ready.few-settled, ready.columns)

pub report_at-requires : goal.report_at-requires
unfolding held_of progress_in the_columns_of the_sizes_of equations
report_at-requires c =
    let s = (goal.at.report_at-requires c).Start in
    let triangular = triangular-in (x s) (rows s) (relations s) c.from_zero-order.ensures.1 s.requires in (
      (held s).sizes,
      stands (span (x s).sizes) (rw c.from_zero-order.ensures.0 triangular) (moved-as c.in-Ok.is c.run_on-moved.ensures),
    )

-- the progress that is handed in, as the code has it and as the definitions do
same : (c : After-from_zero-order)
    → let s = (goal.at.After-from_zero-order c).Start in
    record {
      rows = equations (x s).sizes;
      settled = (x s).settled;
      order = c.from_zero-order.result;
      count = (x s).relations;
      shifts = (x s).shifts;
    } ≡ progress_in (x s)
unfolding progress_in the_columns_of held_of
same c =
    let s = (goal.at.After-from_zero-order c).Start in
    λ i. record {
      rows = equations (x s).sizes;
      settled = (x s).settled;
      order = c.from_zero-order.ensures.0 i;
      count = (x s).relations;
      shifts = (x s).shifts;
    }

pub returns-in-Ok : goal.returns-in-Ok
unfolding call_of result_of held_of the_columns_of the_sizes_of equations
returns-in-Ok c =
    let s = (goal.at.returns-in-Ok c).Start in
    ap (λ f. record {
      result = record {
        steps = c.run_on-moved.result.taken;
        finished = f;
        state = held_of c.state_at.result;
        run = run_in (Ok c.report_at.result);
      };
      row_store = c.run_on-moved.new.rows;
      relation_store = c.run_on-moved.new.relations;
    }) c.report_at.ensures.finished
    ∙ call-moved s.args.budget (x s) (rows s) (relations s) c.from_zero-order.ensures.1 s.requires
    (moved-as c.in-Ok.is c.run_on-moved.ensures) (same (goal.at.returns-in-Ok c).After-from_zero-order)
    (held_of c.state_at.result) (run_in (Ok c.report_at.result))
    (c.state_at.ensures ∙ after-held (x s).sizes 0 c.in-Ok.p refl) (c.report_at.ensures.report _)

pub returns-in-Err : goal.returns-in-Err
unfolding call_of result_of held_of the_columns_of the_sizes_of equations run_in RunLaws.result_of
returns-in-Err c =
    let s = (goal.at.returns-in-Err c).Start in
    let r = c.in-Err.stop.refusal in
    let start = start_progress (equations (x s).sizes) 0 in
    call-moved s.args.budget (x s) (rows s) (relations s) c.from_zero-order.ensures.1 s.requires
    (moved-as c.in-Err.is c.run_on-moved.ensures) (same (goal.at.returns-in-Err c).After-from_zero-order)
    (held_of c.no_state.result) (refusal (number_of r))
    (c.no_state.ensures ∙ after-refused (x s).sizes (number_of r) start (number-nonzero r))
    (run-refused (span (x s).sizes) (refusal (number_of r)) (state_of c.run_on-moved.new.rows c.run_on-moved.new.relations start)
    (number_of r) false (number-nonzero r) refl)
