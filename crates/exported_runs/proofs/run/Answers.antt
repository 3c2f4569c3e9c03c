-- `exported_runs::run` meets its contract: the run of either side.
-- Assumes nothing.
use Rattle.exported_runs.proofs.run.Goals as goal

pub returns-in-Leading : goal.returns-in-Leading
returns-in-Leading c = rw c.in-Leading.is c.run_leading.ensures

pub returns-in-Trailing : goal.returns-in-Trailing
returns-in-Trailing c = rw c.in-Trailing.is c.run_trailing.ensures
