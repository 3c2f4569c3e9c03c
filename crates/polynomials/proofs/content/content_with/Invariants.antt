-- `polynomials::content::content_with` meets its contract. The loop's invariant: the result is the greatest common divisor of d and of
-- the content of the coefficients from i on.
-- Assumes nothing.
use mathlib.Core.Path.{◌≡◌}
use lib.ListN.{take, drop}
use Rattle.algebra.specs.Gcd.{gcd, content}
use Rattle.polynomials.proofs.content.content_with.Given as goal

abbrev pub invariant-loop-a : goal.invariant-loop-a
invariant-loop-a l = gcd l.start (content l.p) ≡ gcd l.d (content (drop l.a-index (take l.n l.p)))
