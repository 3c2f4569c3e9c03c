-- `products::add_scaled` meets its contract. The loop's invariant: the first k numbers are the sums and the others are as they
-- were.
-- Assumes nothing.
use mathlib.Core.Path.{◌≡◌}
use lib.ListN.{length, drop}
use Rattle.algebra.specs.Polynomials.{add, scale}
use Rattle.lists.specs.Taken.{Overwritten}
use Rattle.products.proofs.add_scaled.Given as goal

abbrev pub invariant-loop-k : goal.invariant-loop-k
invariant-loop-k l =
    Overwritten (length l.initial.place) (add l.initial.place (scale l.a l.p)) l.place l.k × (drop l.k l.place ≡ drop l.k l.initial.place)
