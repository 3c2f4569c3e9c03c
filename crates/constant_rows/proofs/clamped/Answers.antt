-- `constant_rows::clamped` meets its contract. Assumes nothing.
use mathlib.Core.Path.{◌≡◌}
use native.Mathlib.Numerals.{add-one}
use native.Mathlib.Omega.{arith}
use lib.Dec.{T}
use lib.IntN.{pos, nat_abs}
use lib.Signed.{non_neg}
use mir.Facts.{to_z-of_z, Fits-nat_abs}
use Rattle.constant_rows.specs.ConstantStores.{from_zero, clamped-none, clamped-past, clamped-here}
use mir.Syntax.{w64}
use Rattle.constant_rows.proofs.clamped.Goals as goal
use Rattle.constant_rows.proofs.clamped.Goals.{Else-x-lt0}

pub returns-then-x-lt0 : goal.returns-then-x-lt0
returns-then-x-lt0 c = clamped-none c.args.x c.args.last (rw (to_z-of_z {w = w64} c.ranges.x) at c.if-x-lt0.true)

-- x is not negative.
not-below : (d : Else-x-lt0) → let x = d.args.x in T (non_neg x) × (x ≡ pos (nat_abs x))
not-below d = from_zero d.args.x (rw (to_z-of_z {w = w64} d.ranges.x) at d.if-x-lt0.false)

pub overflow_cast-index : goal.overflow_cast-index
overflow_cast-index c = rw (to_z-of_z {w = w64} c.ranges.x) ((not-below c).0, Fits-nat_abs tt c.ranges.x)

pub overflow_add-result : goal.overflow_add-result
overflow_add-result c = omega (arith, c.requires)

pub returns-then-last-index : goal.returns-then-last-index
returns-then-last-index c =
    rw add-one (clamped-past c.args.x c.args.last (not-below (goal.at.returns-then-last-index c).Else-x-lt0).1 (rw (to_z-of_z {w = w64} c.ranges.x) at c.if-last-index.true))

pub returns : goal.returns
returns c =
    let here = rw (to_z-of_z {w = w64} c.ranges.x) at c.if-last-index.false in
    rw (to_z-of_z {w = w64} c.ranges.x) (clamped-here c.args.x c.args.last (not-below (goal.at.returns c).Else-x-lt0).1 here)
