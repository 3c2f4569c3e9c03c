-- `exported_solutions::solution_numbers` meets its contract.
-- Assumes nothing.
use mathlib.Core.List.{[], ◌∷◌}
use Rattle.solutions.specs.AnswerStores.{solutions_of}
use Rattle.export_results.specs.Results.{small-fits, small-value, answer-value}
use Rattle.exported_solutions.specs.SolutionNumbers.{solution_numbers_of}
use Rattle.exported_solutions.proofs.solution_numbers.Goals as goal

pub overflow_cast-result-2 : goal.overflow_cast-result-2
unfolding solutions_of
overflow_cast-result-2 c = small-fits _ c.requires.small-last

pub overflow_cast-result-3 : goal.overflow_cast-result-3
unfolding solutions_of
overflow_cast-result-3 c = small-fits _ c.requires.few

pub returns : goal.returns
unfolding solution_numbers_of solutions_of
returns c =
    let answer = c.args.answer in
    let last = small-value answer.last c.requires.small-last in
    let count = small-value answer.count c.requires.few in
    λ i. answer-value answer.found i ∷ last i ∷ count i ∷ []
