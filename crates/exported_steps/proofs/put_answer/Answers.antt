-- `exported_steps::put_answer` meets its contract.
-- Assumes nothing.
use mathlib.Core.Path.{◌≡◌, sym, ◌∙◌, ap}
use mathlib.Core.Bool.{false}
use Rattle.lists.specs.Overwritten.{overwrite}
use Rattle.steps.specs.StepCalls.{result_of}
use Rattle.exported_steps.specs.StepNumbers.{early, run-same, SmallAnswer, left-early, left-late}
use Rattle.exported_steps.proofs.put_answer.Goals as goal
use Rattle.exported_steps.proofs.put_answer.Goals.{After-number_in-refusal, Else-found_before}

-- the refusal, as the definitions have it
same : (c : After-number_in-refusal) → (result_of c.args.answer).run.refusal ≡ c.number_in-refusal.result
unfolding result_of
same c = run-same c.args.answer.run ∙ sym c.number_in-refusal.ensures

pub returns-then-found_before : goal.returns-then-found_before
returns-then-found_before c =
    let args = c.args in
    let n = (goal.at.returns-then-found_before c).After-number_in-refusal in
    let soon = ap early (same n) ∙ sym c.found_before.ensures ∙ c.if-found_before.true in
    let answer = result_of args.answer in
    (c.number_in-refusal.ensures, (left-early answer args.state.now soon).0, (left-early answer args.res.now soon).1)

-- the refusal is none of the checks
module _ (c : Else-found_before) where
  late : early (result_of c.args.answer).run.refusal ≡ false
  late = ap early (same (goal.at.Else-found_before c).After-number_in-refusal) ∙ sym c.found_before.ensures ∙ c.if-found_before.false

  small : SmallAnswer (result_of c.args.answer)
  small = c.requires.2 late

pub state_numbers-numbers-requires : goal.state_numbers-numbers-requires
unfolding result_of
state_numbers-numbers-requires c = (small (goal.at.state_numbers-numbers-requires c).Else-found_before).state

pub put_steps-requires : goal.put_steps-requires
put_steps-requires c =
    let passed = (goal.at.put_steps-requires c).Else-found_before in
    (passed.requires.1, (small passed).numbers)

pub returns : goal.returns
unfolding result_of
returns c =
    let passed = (goal.at.returns c).Else-found_before in
    let args = passed.args in (
      c.number_in-refusal.ensures,
      c.put.ensures ∙ ap (λ l. overwrite l args.state.now) c.state_numbers-numbers.ensures
          ∙ (left-late (result_of args.answer) args.state.now (late passed)).0,
      c.put_steps.ensures ∙ (left-late (result_of args.answer) args.res.now (late passed)).1,
    )
