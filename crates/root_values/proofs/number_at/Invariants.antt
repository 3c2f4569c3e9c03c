-- What is read is below ten times the limit; each turn goes on by a byte.
use Rattle.std.proofs.Common.{length, ◌-◌, ◌≤◌}
use Rattle.root_values.proofs.number_at.Given as goal

abbrev pub invariant-loop-size : goal.invariant-loop-size
invariant-loop-size l = (l.from ≤ l.at) × (l.at ≤ length l.bytes) × (l.size ≤ 10000000000)

abbrev pub decreases-loop-size : goal.decreases-loop-size
decreases-loop-size l = length l.bytes - l.at
