-- `sides::report::furthest_with` meets its contract.
-- Assumes nothing.
use Rattle.sides.proofs.report.furthest_with.Goals as goal

pub returns-in-Leading : goal.returns-in-Leading
returns-in-Leading c = rw c.in-Leading.is c.largest_with.ensures

pub returns-in-Trailing : goal.returns-in-Trailing
returns-in-Trailing c = rw c.in-Trailing.is c.smallest_with.ensures
