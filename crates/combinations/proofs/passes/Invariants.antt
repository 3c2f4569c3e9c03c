-- `combinations::passes` meets its contract. The loop's invariant: the coefficients from power 16 on, below k, are zero.
-- Assumes nothing.
use mathlib.Core.Path.{◌≡◌}
use Prim.Native.Nat.{ℕ, ◌≤◌, ◌<◌}
use lib.IntN.{pos}
use Rattle.algebra.specs.Polynomials.{coeff, add, mul}
use Rattle.rules.specs.Limits.{coefficient_count}
use Rattle.combinations.proofs.passes.Given as goal

abbrev pub invariant-loop-k : goal.invariant-loop-k
invariant-loop-k l =
    (j : ℕ) → j < l.k → coefficient_count ≤ j → coeff (add (mul l.g l.p) (mul l.h l.q)) j ≡ pos 0
