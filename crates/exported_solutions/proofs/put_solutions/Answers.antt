-- `exported_solutions::put_solutions` meets its contract.
-- Assumes nothing.
use mathlib.Core.Path.{◌∙◌, ap}
use borrow.Author.Tests.{not-true, not-false}
use Rattle.lists.specs.Overwritten.{overwrite}
use Rattle.solutions.specs.AnswerStores.{solutions_of}
use Rattle.exported_solutions.specs.SolutionNumbers.{solution_numbers_of, not-begun, has-begun}
use Rattle.exported_solutions.proofs.put_solutions.Goals as goal

pub returns-then-not-answer : goal.returns-then-not-answer
returns-then-not-answer c =
    let args = c.args in
    not-begun args.answer.begun (solution_numbers_of (solutions_of args.answer)) args.res.now (not-true _ c.if-not-answer.true)

pub returns : goal.returns
returns c =
    let args = c.args in
    c.put.ensures
    ∙ ap (λ l. overwrite l args.res.now) c.solution_numbers-numbers.ensures
    ∙ has-begun args.answer.begun (solution_numbers_of (solutions_of args.answer)) args.res.now (not-false _ c.if-not-answer.false)
