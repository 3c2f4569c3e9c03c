-- `back_substitution::rows_meeting` meets its contract. The loop's invariant: the rows from i on are 0 at the column.
-- Assumes nothing.
use Rattle.back_substitution.specs.BackSubstitution.{MetBelow}
use Rattle.back_substitution.proofs.rows_meeting.Given as goal

abbrev pub invariant-loop-i : goal.invariant-loop-i
invariant-loop-i l = MetBelow l.matrix l.f l.count l.i
