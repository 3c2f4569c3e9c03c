-- Each case ends behind the place where it begins, so less of the input is left.
use Rattle.std.proofs.Common.{length, ◌-◌, ◌≤◌}
use Rattle.known.proofs.run_cases.Given as goal

abbrev pub invariant-loop-at : goal.invariant-loop-at
invariant-loop-at g l = l.at ≤ length l.input

abbrev pub decreases-loop-at : goal.decreases-loop-at
decreases-loop-at g l = length l.input - l.at
