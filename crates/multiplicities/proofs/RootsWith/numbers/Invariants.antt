-- `multiplicities::RootsWith::numbers` meets its contract. The invariant: the first i numbers are in the array, and zeros stand behind.
-- Assumes nothing.
use mathlib.Core.Path.{◌≡◌}
use lib.IntN.{pos}
use Rattle.multiplicities.specs.Counts.{placed}
use Rattle.multiplicities.proofs.RootsWith.numbers.Given as goal

abbrev pub invariant-loop-i : goal.invariant-loop-i
invariant-loop-i l = l.values ≡ placed (λ r. r.value) (pos 0) l.root-items l.i
