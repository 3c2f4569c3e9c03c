-- `roots::vanishes` meets its contract. The invariant: the value is that of the coefficients from i on, and not large. The measure is i.
-- Assumes nothing.
use mathlib.Core.Path.{◌≡◌}
use Prim.Native.Nat.{◌≤◌, ◌<◌}
use lib.IntN.{nat_abs}
use lib.ListN.{length, drop}
use Rattle.algebra.specs.Polynomials.{eval}
use Rattle.roots.proofs.vanishes.Given as goal

abbrev pub invariant-loop-i : goal.invariant-loop-i
invariant-loop-i l = (l.i < length l.p) × (nat_abs l.value ≤ 4294967296) × (eval (drop l.i l.p) l.r ≡ l.value)
