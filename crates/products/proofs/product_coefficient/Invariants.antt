-- `products::product_coefficient` meets its contract. The loop's invariant: sum is the sum of the terms below i, and i lies
-- where p still has coefficient k - i. The terms before the first i and from end on are zero.
-- Assumes nothing.
use mathlib.Core.Path.{◌≡◌}
use Prim.Native.Nat.{◌+◌, ◌≤◌, min}
use lib.ListN.{length}
use Rattle.algebra.specs.Sums.{sum_below}
use Rattle.products.specs.Product.{term}
use Rattle.products.proofs.product_coefficient.Given as goal

abbrev pub invariant-loop-i : goal.invariant-loop-i
invariant-loop-i l =
    (l.i ≤ l.k + 1) × (l.k + 1 ≤ l.i + length l.p) × (l.end ≡ min (l.k + 1) (length l.g)) × (l.sum ≡ sum_below l.i (term l.g l.p l.k))
