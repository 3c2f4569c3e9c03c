-- `multiplicities::multiplicity` meets its contract. The invariant: the divisions made and those that are left, of what is left, are those
-- of p.
-- Assumes nothing.
use mathlib.Core.Path.{◌≡◌}
use Prim.Native.Nat.{◌+◌, ◌-◌}
use lib.ListN.{length}
use Rattle.algebra.specs.Multiplicity.{divisions}
use Rattle.rules.specs.Limits.{coefficient_count}
use Rattle.multiplicities.specs.Divisions.{Sized}
use Rattle.multiplicities.proofs.multiplicity.Given as goal

abbrev pub invariant-loop-times : goal.invariant-loop-times
invariant-loop-times l =
    (length l.rest ≡ coefficient_count) × Sized l.r l.rest
    × (l.times + divisions (coefficient_count - l.times) l.rest l.r ≡ divisions coefficient_count l.initial.rest l.r)
