-- `polynomials::content::lowest` meets its contract. The loop's invariant: the coefficients from i on have the lowest nonzero one.
-- Assumes nothing.
use mathlib.Core.Path.{◌≡◌}
use lib.ListN.{drop}
use Rattle.algebra.specs.Polynomials.{lowest}
use Rattle.polynomials.proofs.content.lowest.Given as goal

abbrev pub invariant-loop-a : goal.invariant-loop-a
invariant-loop-a l = lowest l.p ≡ lowest (drop l.a-index l.p)
