-- `evaluation::used` meets its contract. The invariant: how far the coefficients before i that are not 0 reach.
-- Assumes nothing.
use Rattle.evaluation.specs.Evaluated.{Reaches}
use Rattle.evaluation.proofs.used.Given as goal

abbrev pub invariant-loop-i : goal.invariant-loop-i
invariant-loop-i l = Reaches l.p l.i l.reached
