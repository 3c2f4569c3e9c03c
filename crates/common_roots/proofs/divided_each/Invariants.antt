-- `common_roots::divided_each` meets its contract. The invariant: the roots that are left divide, from the entries as they are, what all of
-- them divide from the first; the counts are those of the pivot as it is, and no integer occurs more often in the target than at first.
-- Assumes nothing.
use mathlib.Core.Path.{◌≡◌}
use mathlib.Core.Bool.{not}
use Prim.Native.Nat.{◌≤◌}
use lib.Dec.{T}
use lib.IntN.{ℤ}
use lib.ListN.{drop}
use Rattle.algebra.specs.Multiplicity.{multiplicity}
use Rattle.algebra.specs.Polynomials.{is_zero_of}
use Rattle.algebra.specs.Roots.{roots}
use Rattle.rules.specs.Limits.{coefficient_count}
use Rattle.rules.specs.CommonRoots.{divide_each}
use Rattle.multiplicities.specs.Counts.{listed_with, times_in}
use Rattle.common_roots.specs.Divisions.{Fits, entries_of}
use Rattle.common_roots.proofs.divided_each.Given as goal

abbrev pub invariant-loop-i : goal.invariant-loop-i
invariant-loop-i l =
    Fits l.e × T (not (is_zero_of l.e.pivot)) × ((x : ℤ) → multiplicity l.e.target x ≤ multiplicity l.initial.e.target x)
    × (l.left ≡ listed_with (times_in l.e.pivot (roots l.initial.e.pivot)))
    × (divide_each coefficient_count (drop l.i (roots l.initial.e.pivot)) (entries_of l.e)
    ≡ divide_each coefficient_count (roots l.initial.e.pivot) (entries_of l.initial.e))
