-- `log_steps::combining::divides_sum` meets its contract. The loop's invariant: d divides the coefficients below k.
-- Assumes nothing.
use mathlib.Core.Path.{◌≡◌}
use Prim.Native.Nat.{ℕ, ◌<◌}
use lib.IntN.{pos}
use lib.Signed.{rem_z}
use Rattle.algebra.specs.Polynomials.{coeff}
use Rattle.log_steps.specs.Divisions.{sum_of}
use Rattle.log_steps.proofs.combining.divides_sum.Given as goal

abbrev pub invariant-loop-k : goal.invariant-loop-k
invariant-loop-k l = (j : ℕ) → j < l.k → rem_z (coeff (sum_of l.g l.p l.h l.q) j) l.d ≡ pos 0
