-- `products::add_product` meets its contract. The loop's invariant: what is left of the product, added behind the first i numbers,
-- makes the sum; and the numbers have grown by C² at most a turn.
-- Assumes nothing.
use mathlib.Core.Path.{◌≡◌}
use mathlib.Core.List.{◌++◌}
use Prim.Native.Nat.{◌+◌, ◌*◌, ◌≤◌}
use lib.ListN.{length, take, drop}
use Rattle.algebra.specs.Polynomials.{add, mul}
use Rattle.rules.specs.Limits.{bound}
use Rattle.polynomials.specs.Content.{Below}
use Rattle.products.proofs.add_product.Given as goal

abbrev pub invariant-loop-i : goal.invariant-loop-i
invariant-loop-i l =
    (l.i ≤ length l.g) × (length l.place ≡ length l.initial.place) × (add l.initial.place (mul l.g l.p) ≡ take l.i l.place ++ add (drop l.i l.place) (mul (drop l.i l.g) l.p))
    × Below ((16 + l.i) * (bound * bound) + 1) l.place
