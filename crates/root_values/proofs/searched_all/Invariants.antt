-- Each polynomial is read behind the place where it begins, so less of the input is left.
use Rattle.std.proofs.Common.{◌-◌, ◌<◌, length}
use Rattle.root_values.proofs.searched_all.Given as goal

abbrev pub invariant-loop-at : goal.invariant-loop-at
invariant-loop-at g l = 0 < l.at

abbrev pub decreases-loop-at : goal.decreases-loop-at
decreases-loop-at g l = length l.bytes - l.at
