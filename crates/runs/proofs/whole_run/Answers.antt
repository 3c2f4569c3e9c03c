-- `runs::whole_run` meets its contract.
-- Assumes nothing.
use Rattle.rules.specs.Elimination.{whole_run_of, leading_run_of}
use Rattle.runs.proofs.whole_run.Goals as goal

pub returns-in-Leading : goal.returns-in-Leading
unfolding whole_run_of leading_run_of
returns-in-Leading c =
    rw c.in-Leading.is
    (record { answer = c.run.ensures.value; rows-after = c.run.ensures.rows_after; relations-after = c.run.ensures.relations_after; reached = c.run.ensures.reached })

pub returns-in-Trailing : goal.returns-in-Trailing
unfolding whole_run_of
returns-in-Trailing c = rw c.in-Trailing.is c.trailing_run.ensures
