-- `back_substitution::multiply` meets its contract. The loop's invariant: the first i numbers are taken so many times and the others
-- are as they were.
-- Assumes nothing.
use mathlib.Core.Path.{◌≡◌}
use lib.ListN.{length, drop}
use Rattle.algebra.specs.Polynomials.{scale}
use Rattle.lists.specs.Taken.{Overwritten}
use Rattle.back_substitution.proofs.multiply.Given as goal

abbrev pub invariant-loop-a : goal.invariant-loop-a
invariant-loop-a l = Overwritten (length l.initial.v) (scale l.times l.initial.v) l.v l.a-index × (drop l.a-index l.v ≡ drop l.a-index l.initial.v)
