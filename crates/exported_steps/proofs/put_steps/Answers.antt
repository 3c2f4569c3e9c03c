-- `exported_steps::put_steps` meets its contract.
-- Assumes nothing.
use mathlib.Core.Path.{◌≡◌, ◌∙◌, ap}
use mathlib.Core.List.{◌∷◌}
use mathlib.Core.Bool.{cond}
use Prim.Native.Nat.{◌≤◌}
use lib.IntN.{pos}
use native.Mathlib.Omega.{arith}
use lib.ListN.{length, length-set, length-append, length-map}
use Rattle.lists.specs.Overwritten.{overwrite}
use Rattle.steps.specs.StepCalls.{result_of}
use Rattle.export_results.specs.Results.{most_count, count_fits, count-value, answer-value}
use Rattle.exported_runs.specs.Runs.{run_numbers_of}
use Rattle.exported_steps.specs.StepNumbers.{step_numbers, two-and-more}
use Rattle.exported_steps.proofs.put_steps.Goals as goal
use Rattle.exported_steps.proofs.put_steps.Goals.{After-run_numbers-numbers, Start}

pub run_numbers-numbers-requires : goal.run_numbers-numbers-requires
unfolding result_of
run_numbers-numbers-requires c = c.requires.1.run

steps : (c : Start) → c.args.answer.steps ≤ most_count
unfolding result_of
steps c = omega (arith, c.requires.1.few-steps)

-- a run has ten numbers
ten : (c : After-run_numbers-numbers) → length c.run_numbers-numbers.result ≡ 10
unfolding result_of run_numbers_of
ten c = ap length c.run_numbers-numbers.ensures ∙ simp (length-append, length-map) (omega (arith, c.requires.1.run.four))

pub save-requires : goal.save-requires
save-requires c =
    let numbers = (goal.at.save-requires c).After-run_numbers-numbers in
    simp length-set (omega (arith, ten numbers, numbers.requires.0))

pub shape_of-res : goal.shape_of-res
shape_of-res c = c.save.auto.store ∙ simp length-set

pub returns : goal.returns
unfolding step_numbers result_of
returns c =
    let start = (goal.at.returns c).Start in
    let answer = start.args.answer in
    let result = start.args.res.now in
    c.save.ensures
    ∙ two-and-more _ _ c.run_numbers-numbers.result result (omega (arith, start.requires.0))
    ∙ (λ i. overwrite
    (count-value answer.steps (steps start) i ∷ (answer-value c.is_finished.result ∙ ap (λ t. pos (cond t 1 0)) c.is_finished.ensures) i ∷ c.run_numbers-numbers.ensures i) result)

pub overflow_cast-res : goal.overflow_cast-res
overflow_cast-res c = count_fits _ (steps (goal.at.overflow_cast-res c).Start)
