-- `solutions::trailing::index_at` meets its contract.
-- Assumes nothing.
use mathlib.Core.Path.{◌≡◌}
use mathlib.Core.Bool.{true}
use lib.Dec.{T}
use lib.IntN.{nat_abs}
use lib.Signed.{non_neg}
use mir.Facts.{to_z-of_z, Fits-nat_abs}
use Rattle.solutions.specs.LastIndices.{index_of, index_at, negative-none, past-refused, within-index}
use mir.Syntax.{w64}
use Rattle.solutions.proofs.trailing.index_at.Goals as goal
use Rattle.solutions.proofs.trailing.index_at.Goals.{Else-n-gt-LARGEST}

pub returns-then-n-lt0 : goal.returns-then-n-lt0
returns-then-n-lt0 c = negative-none c.args.n (rw (to_z-of_z {w = w64} c.ranges.n) at c.if-n-lt0.true)

pub returns-then-n-gt-LARGEST : goal.returns-then-n-gt-LARGEST
returns-then-n-gt-LARGEST c = past-refused c.args.n (rw (to_z-of_z {w = w64} c.ranges.n) at c.if-n-gt-LARGEST.true)

-- n is from 0 to 15.
within : (d : Else-n-gt-LARGEST) → let n = d.args.n in T (non_neg n) × (index_of 0 true (nat_abs n) ≡ index_at n)
within d =
    within-index d.args.n (rw (to_z-of_z {w = w64} d.ranges.n) at d.if-n-lt0.false) (rw (to_z-of_z {w = w64} d.ranges.n) at d.if-n-gt-LARGEST.false)

pub overflow_cast-result : goal.overflow_cast-result
overflow_cast-result c = rw (to_z-of_z {w = w64} c.ranges.n) ((within c).0, Fits-nat_abs tt c.ranges.n)

pub returns : goal.returns
returns c = rw (to_z-of_z {w = w64} c.ranges.n) (within c).1
