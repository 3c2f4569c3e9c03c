-- After the first number the place is past the line's start.
use Rattle.std.proofs.Common.{◌≤◌, ◌<◌}
use Rattle.root_values.proofs.polynomial_at.Given as goal

abbrev pub invariant-loop-value : goal.invariant-loop-value
invariant-loop-value l = (l.from ≤ l.at) × (0 < l.value-index → l.from < l.at)
