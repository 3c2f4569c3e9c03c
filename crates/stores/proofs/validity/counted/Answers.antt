-- `stores::validity::counted` meets its contract.
-- Assumes nothing.
use borrow.Author.Tests.{le-leb, lt-leb}
use Rattle.lists.specs.Tests.{and_second, and_first}
use Rattle.stores.proofs.validity.counted.Goals as goal

pub returns-then-k-ge1 : goal.returns-then-k-ge1
returns-then-k-ge1 c = and_second _ _ (le-leb _ _ c.if-k-ge1.true)

pub returns-else-k-ge1 : goal.returns-else-k-ge1
returns-else-k-ge1 c = and_first _ _ (lt-leb _ _ c.if-k-ge1.false)
