-- `multiplicities::each_with_times` meets its contract. The invariant: the first i numbers are counted, and zeros stand behind.
-- Assumes nothing.
use mathlib.Core.Path.{◌≡◌}
use Rattle.multiplicities.specs.Counts.{counted}
use Rattle.multiplicities.proofs.each_with_times.Given as goal

abbrev pub invariant-loop-i : goal.invariant-loop-i
invariant-loop-i l = l.roots ≡ counted l.p l.value-items l.i
