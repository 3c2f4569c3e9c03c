-- `placed_answers::undecided` meets its contract.
-- Assumes nothing.
use borrow.Author.Rules.{rules}
use borrow.Author.Tests.{eqb-true}
use Rattle.placed_answers.proofs.undecided.Goals as goal

pub returns-else-refusal-eq1 : goal.returns-else-refusal-eq1
returns-else-refusal-eq1 c = (λ _ one. absurd (c.if-refusal-eq1.false one), eqb-true c.args.refusal 1)
