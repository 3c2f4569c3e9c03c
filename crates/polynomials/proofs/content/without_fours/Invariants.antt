-- `polynomials::content::without_fours` meets its contract. The loop's invariant: the coefficients from n on are zero.
-- Assumes nothing.
use Prim.Native.Nat.{◌≤◌}
use lib.Dec.{T}
use lib.ListN.{length, drop}
use Rattle.algebra.specs.Polynomials.{is_zero_of}
use Rattle.polynomials.proofs.content.without_fours.Given as goal

abbrev pub invariant-loop-n : goal.invariant-loop-n
invariant-loop-n l = (l.n ≤ length l.p) × T (is_zero_of (drop l.n l.p))

abbrev pub decreases-loop-n : goal.decreases-loop-n
decreases-loop-n l = l.n
