-- `steps::checks::settled_held` meets its contract.
-- Assumes nothing.
use borrow.Author.Tests.{le-leb, lt-leb}
use Rattle.lists.specs.Tests.{and_second, and_first}
use Rattle.steps.proofs.checks.settled_held.Goals as goal

pub returns-then-settled-m : goal.returns-then-settled-m
returns-then-settled-m c = and_second _ _ (le-leb _ _ c.if-settled-m.true)

pub returns-else-settled-m : goal.returns-else-settled-m
returns-else-settled-m c = and_first _ _ (lt-leb _ _ c.if-settled-m.false)
