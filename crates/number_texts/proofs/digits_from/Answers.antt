-- `number_texts::digits_from` meets its contract, with the minus and without it.
-- Assumes nothing.
use mathlib.Core.Path.{refl}
use mathlib.Core.Logic.{inl, inr}
use native.Mathlib.Omega.{arith}
use mir.Facts.{to_z-of_z}
use Rattle.number_texts.proofs.digits_from.Goals as goal

pub returns-then-a-lt0 : goal.returns-then-a-lt0
returns-then-a-lt0 c = record { sides = inl (rw (to_z-of_z c.ranges.a) at c.if-a-lt0.true, refl); bottom = omega arith; top = omega arith }

pub returns-else-a-lt0 : goal.returns-else-a-lt0
returns-else-a-lt0 c = record { sides = inr (rw (to_z-of_z c.ranges.a) at c.if-a-lt0.false, refl); bottom = omega arith; top = omega arith }
