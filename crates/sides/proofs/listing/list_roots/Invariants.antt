-- `sides::listing::list_roots` meets its contract. The loop's invariant: the relations of the first k roots are listed.
-- Assumes nothing.
use Prim.Native.Nat.{◌≤◌}
use lib.ListN.{take}
use Rattle.rules.specs.Elimination.{listing}
use Rattle.multiplicities.specs.Counts.{roots_held}
use Rattle.sides.specs.Lent.{side_of}
use Rattle.sides.specs.Relations.{Relisted}
use Rattle.sides.proofs.listing.list_roots.Given as goal

abbrev pub invariant-loop-k : goal.invariant-loop-k
invariant-loop-k l =
    (l.k ≤ l.found.count) × Relisted l.count l.row (take l.k (listing (side_of l.side) (roots_held l.found))) l.initial.relations l.relations
