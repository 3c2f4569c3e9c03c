-- `common_roots::occurring` meets its contract. The invariant: the array holds those of the first numbers that occur.
-- Assumes nothing.
use mathlib.Core.Path.{◌≡◌}
use lib.ListN.{take}
use Rattle.lists.specs.Sifted.{keep}
use Rattle.multiplicities.specs.Counts.{listed_with, pair_of}
use Rattle.common_roots.specs.Kept.{occurs}
use Rattle.std.specs.Prelude.{map}
use Rattle.common_roots.proofs.occurring.Given as goal

abbrev pub invariant-loop-root : goal.invariant-loop-root
invariant-loop-root l = l.kept ≡ listed_with (keep occurs (take l.root-index (map pair_of l.root-items)))
