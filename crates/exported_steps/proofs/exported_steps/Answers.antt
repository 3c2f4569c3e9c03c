-- `exported_steps::exported_steps` meets its contract.
-- Assumes nothing.
use mathlib.Core.Path.{◌≡◌, sym, ◌∙◌, ap, subst}
use mathlib.Core.Bool.{true}
use mathlib.Core.List.{List, []}
use Prim.Native.Nat.{ℕ, ◌≤◌}
use lib.IntN.{ℤ}
use lib.ListN.{length}
use Rattle.lists.specs.Taken.{none_before}
use Rattle.steps.specs.HeldCalls.{steps_call}
use Rattle.steps.specs.StepCalls.{result_of, call_of}
use Rattle.exported_steps.specs.StateNumbers.{state_need, held_in, counts_right_of, held-four}
use Rattle.exported_steps.specs.StepNumbers.{kept_steps, run-same, SmallUnlessEarly, answer-small}
use Rattle.exported_steps.specs.StepNumbers.{steps-no-state, steps-negative, steps-short, steps-left}
use Rattle.exported_steps.proofs.exported_steps.Goals as goal
use Rattle.exported_steps.proofs.exported_steps.Goals.{After-run_steps-answer, After-state_in-held, Else-not-counts_right, Start}

-- the call
module _ (c : Start) where
  abbrev rows : List ℤ
  rows = c.args.rows.now

  abbrev relations : List ℤ
  relations = c.args.relations.now

  abbrev state : List ℤ
  state = c.args.state.now

  abbrev budget : ℕ
  budget = c.args.budget

  abbrev result : List ℤ
  result = c.args.res.now

-- the numbers say a state
module _ (c : After-state_in-held) where
  abbrev passed : Else-not-counts_right
  passed = (goal.at.After-state_in-held c).Else-not-counts_right

  abbrev start : Start
  start = (goal.at.Else-not-counts_right passed).Start

  long : state_need ≤ length (state start)
  long = passed.if-state-lt11.false

  right : counts_right_of (state start) ≡ true
  right = sym passed.counts_right.ensures ∙ passed.if-not-counts_right.false

-- what was done with it
module _ (c : After-run_steps-answer) where
  abbrev read : After-state_in-held
  read = (goal.at.After-run_steps-answer c).After-state_in-held

  abbrev place : Start
  place = start read

  made : call_of c.run_steps-answer.result c.run_steps-answer.new.rows c.run_steps-answer.new.relations
      ≡ steps_call (budget place) (held_in (state place)) (rows place) (relations place)
  made =
      c.run_steps-answer.ensures
      ∙ ap (λ x. steps_call (budget place) x (rows place) (relations place)) read.state_in-held.ensures

  small : SmallUnlessEarly (result_of c.run_steps-answer.result)
  unfolding call_of
  small = subst (λ x. SmallUnlessEarly x.result) (sym made)
      (answer-small (held_in (state place)) (rows place) (relations place) (budget place) (held-four (state place) (long read)))

pub returns-then-state-lt11 : goal.returns-then-state-lt11
unfolding kept_steps
returns-then-state-lt11 c =
    let s = (goal.at.returns-then-state-lt11 c).Start in
    steps-no-state (budget s) (rows s) (relations s) (state s) (result s) c.if-state-lt11.true

pub returns-then-not-counts_right : goal.returns-then-not-counts_right
unfolding kept_steps
returns-then-not-counts_right c =
    let s = (goal.at.returns-then-not-counts_right c).Start in
    steps-negative (budget s) (rows s) (relations s) (state s) (result s) c.if-state-lt11.false
    (sym c.counts_right.ensures ∙ c.if-not-counts_right.true)

pub returns-then-res-lt12 : goal.returns-then-res-lt12
unfolding kept_steps call_of result_of
returns-then-res-lt12 c =
    let told = (goal.at.returns-then-res-lt12 c).After-state_in-held in
    let s = start told in
    let call = c.run_steps-judged in
    (λ i. record {
      refusal = (c.number_in.ensures ∙ sym (run-same call.result.run)) i;
      row_store = none_before call.new.rows (rows s) call.auto.rows i;
      relation_store = none_before call.new.relations (relations s) call.auto.relations i;
      state_store = state s;
      result_store = result s;
    })
    ∙ steps-short (budget s) (rows s) (relations s) (state s) (result s) (long told) (right told)
    (call.ensures ∙ ap (λ x. steps_call 0 x [] []) told.state_in-held.ensures) c.if-res-lt12.true

pub put_answer-requires : goal.put_answer-requires
put_answer-requires c =
    let run = (goal.at.put_answer-requires c).After-run_steps-answer in
    (long (read run), run.if-res-lt12.false, small run)

pub returns : goal.returns
unfolding call_of result_of
returns c =
    let run = (goal.at.returns c).After-run_steps-answer in
    let s = place run in
    let (refusal, state-after, result-after) = c.put_answer.ensures in
    (λ i. record {
      refusal = (refusal ∙ sym (run-same run.run_steps-answer.result.run)) i;
      row_store = run.run_steps-answer.new.rows;
      relation_store = run.run_steps-answer.new.relations;
      state_store = c.put_answer.new.state;
      result_store = c.put_answer.new.res;
    })
    ∙ steps-left (budget s) (rows s) (relations s) (state s) (result s) (long (read run)) (right (read run)) (made run)
    state-after result-after run.if-res-lt12.false
