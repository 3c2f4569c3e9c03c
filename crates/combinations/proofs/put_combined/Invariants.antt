-- `combinations::put_combined` meets its contract. The loop's invariant: the first k numbers are those of g·p + h·q.
-- Assumes nothing.
use lib.ListN.{length, take}
use Rattle.algebra.specs.Polynomials.{add, mul}
use Rattle.lists.specs.Taken.{Overwritten}
use Rattle.combinations.specs.Combination.{low_part_of}
use Rattle.combinations.proofs.put_combined.Given as goal

abbrev pub invariant-loop-k : goal.invariant-loop-k
invariant-loop-k l =
    Overwritten (length l.initial.place) (take (length l.initial.place) (low_part_of (add (mul l.g l.p) (mul l.h l.q)))) l.place l.k
