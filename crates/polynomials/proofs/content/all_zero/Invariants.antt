-- `polynomials::content::all_zero` meets its contract. The loop's invariant: p is zero exactly if the joined bits and the coefficients
-- from i on are.
-- Assumes nothing.
use mathlib.Core.Path.{◌≡◌}
use mathlib.Core.Bool.{◌&&◌}
use lib.Dec.{eqb}
use lib.ListN.{drop}
use Rattle.algebra.specs.Polynomials.{is_zero_of}
use mir.Val.{of_z}
use mir.Syntax.{w64}
use Rattle.polynomials.proofs.content.all_zero.Given as goal

abbrev pub invariant-loop-a : goal.invariant-loop-a
invariant-loop-a l = is_zero_of l.p ≡ (eqb (of_z w64 l.joined) 0 && is_zero_of (drop l.a-index l.p))
