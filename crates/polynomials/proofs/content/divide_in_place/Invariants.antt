-- `polynomials::content::divide_in_place` meets its contract. The loop's invariant: the first i coefficients are divided by d and the
-- others are as they were.
-- Assumes nothing.
use mathlib.Core.Path.{◌≡◌}
use lib.IntN.{nat_abs}
use lib.ListN.{length, drop}
use Rattle.algebra.specs.Gcd.{divide_by}
use Rattle.lists.specs.Taken.{Overwritten}
use Rattle.polynomials.proofs.content.divide_in_place.Given as goal

abbrev pub invariant-loop-a : goal.invariant-loop-a
invariant-loop-a l =
    Overwritten (length l.initial.p) (divide_by (nat_abs l.d) l.initial.p) l.p l.a-index × (drop l.a-index l.p ≡ drop l.a-index l.initial.p)
