-- `roots::by_pairs` meets its contract. The invariant: the list holds, ascending, the roots of size below d and those whose cofactor is
-- below d. The measure falls because d is at most a / d, and so at most a.
-- Assumes nothing.
use Prim.Native.Nat.{◌+◌, ◌-◌, ◌<◌}
use Rattle.roots.specs.RootSearch.{Holds, Passed}
use Rattle.roots.proofs.by_pairs.Given as goal

abbrev pub invariant-loop-d : goal.invariant-loop-d
invariant-loop-d l = (0 < l.d) × Holds l.p (Passed l.a l.d) l.found

abbrev pub decreases-loop-d : goal.decreases-loop-d
decreases-loop-d l = l.a + 1 - l.d
