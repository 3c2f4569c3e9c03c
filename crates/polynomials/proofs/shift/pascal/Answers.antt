-- `polynomials::shift::pascal` meets its contract: the addition rule is a test over the whole table, which antt computes.
-- Assumes nothing.
use Rattle.polynomials.specs.Shift.{follows_rule}
use Rattle.polynomials.proofs.shift.pascal.Goals as goal

pub returns : goal.returns
unfolding follows_rule
returns c = tt
