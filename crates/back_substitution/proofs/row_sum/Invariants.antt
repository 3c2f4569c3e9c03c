-- `back_substitution::row_sum` meets its contract. The loop's invariant: sum is the sum of the first i products.
-- Assumes nothing.
use mathlib.Core.Path.{◌≡◌}
use Prim.Native.Nat.{◌≤◌}
use lib.ListN.{length}
use Rattle.algebra.specs.Sums.{sum_below}
use Rattle.back_substitution.specs.BackSubstitution.{product}
use Rattle.back_substitution.proofs.row_sum.Given as goal

abbrev pub invariant-loop-i : goal.invariant-loop-i
invariant-loop-i l = (l.i ≤ length l.row) × (l.sum ≡ sum_below l.i (product l.row l.v))
