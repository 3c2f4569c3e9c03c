-- `integers::negated` meets its contract. Negation is 0 - a, and keeps the size.
-- Assumes nothing.
use Prim.Native.Nat.{◌^◌, ◌<◌}
use native.Mathlib.Nat.{le_refl}
use lib.IntN.{ℤ, neg_ℤ, nat_abs, +ℤ_idl}
use mir.Syntax.{w64}
use mir.Val.{SFits}
use mir.Facts.{to_z-of_z}
use Rattle.algebra.specs.Integers.{nat_abs-neg_ℤ}
use Rattle.integers.specs.Ranges.{sfits-size}
use Rattle.integers.proofs.negated.Goals as goal

neg-fits : (a : ℤ) → nat_abs a < 2 ^ 63 → SFits w64 (neg_ℤ a)
neg-fits a h = sfits-size (neg_ℤ a) (rw (nat_abs-neg_ℤ a) (le_refl (nat_abs a))) h

pub overflow_sub-result : goal.overflow_sub-result
overflow_sub-result c = simp (to_z-of_z c.ranges.a, +ℤ_idl) (neg-fits c.args.a c.requires)

pub returns : goal.returns
returns c = simp (to_z-of_z c.ranges.a, +ℤ_idl, to_z-of_z (neg-fits c.args.a c.requires))
