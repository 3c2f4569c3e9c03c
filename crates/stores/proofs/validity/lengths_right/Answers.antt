-- `stores::validity::lengths_right` meets its contract.
-- Assumes nothing.
use borrow.Author.Tests.{le-leb, lt-leb}
use Rattle.rules.specs.Stores.{row_need, lengths_right_of}
use Rattle.lists.specs.Tests.{and_second, and_first}
use Rattle.stores.proofs.validity.lengths_right.Goals as goal

pub returns-then-equations-rows : goal.returns-then-equations-rows
unfolding lengths_right_of row_need
returns-then-equations-rows c = and_second _ _ (le-leb _ _ c.if-equations-rows.true)

pub returns-else-equations-rows : goal.returns-else-equations-rows
unfolding lengths_right_of row_need
returns-else-equations-rows c = and_first _ _ (lt-leb _ _ c.if-equations-rows.false)
