-- `polynomials::content::negate_in_place` meets its contract. The loop's invariant: the first coefficients have the other sign and the
-- others are as they were.
-- Assumes nothing.
use mathlib.Core.Path.{◌≡◌}
use lib.ListN.{length, drop}
use Rattle.algebra.specs.Polynomials.{negate}
use Rattle.lists.specs.Taken.{Overwritten}
use Rattle.polynomials.proofs.content.negate_in_place.Given as goal

abbrev pub invariant-loop-a : goal.invariant-loop-a
invariant-loop-a l = Overwritten (length l.initial.p) (negate l.initial.p) l.p l.a-index × (drop l.a-index l.p ≡ drop l.a-index l.initial.p)
