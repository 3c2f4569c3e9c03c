-- `multiplicities::limit_at` meets its contract.
-- Assumes nothing.
use mathlib.Core.Path.{◌≡◌, refl}
use mathlib.Core.Logic.{inl, inr}
use native.Mathlib.Omega.{arith}
use lib.IntN.{nat_abs}
use mir.Facts.{to_z-of_z}
use Rattle.multiplicities.proofs.limit_at.Goals as goal
use Rattle.multiplicities.proofs.limit_at.Goals.{After-magnitude}

size_is : (c : After-magnitude) → c.magnitude.result ≡ nat_abs c.args.r
size_is c = rw (to_z-of_z c.ranges.r) at c.magnitude.ensures

pub returns-then-magnitude-gt1 : goal.returns-then-magnitude-gt1
returns-then-magnitude-gt1 c = inl (omega (arith, size_is c.before, c.if-magnitude-gt1.true), refl)

pub returns-else-magnitude-gt1 : goal.returns-else-magnitude-gt1
returns-else-magnitude-gt1 c = inr (omega (arith, size_is c.before, c.if-magnitude-gt1.false), refl)
