-- `common_roots::divided_at` meets its contract. The invariant: as many divisions as are left give, from both polynomials as they are, what
-- all of them give from the first, and those made and those to come are as many as there are.
-- Assumes nothing.
use mathlib.Core.Path.{◌≡◌}
use Prim.Native.Nat.{◌+◌, ◌-◌}
use Rattle.rules.specs.CommonRoots.{divide_at}
use Rattle.common_roots.specs.Divisions.{Fits, entries_of}
use Rattle.common_roots.specs.DividedTimes.{made_at}
use Rattle.common_roots.proofs.divided_at.Given as goal

abbrev pub invariant-loop-made : goal.invariant-loop-made
invariant-loop-made l =
    Fits l.left
    × (divide_at (l.times - l.made) l.r (entries_of l.left) ≡ divide_at l.times l.r (entries_of l.initial.left))
    × (l.made + made_at (l.times - l.made) l.r (entries_of l.left) ≡ made_at l.times l.r (entries_of l.initial.left))
