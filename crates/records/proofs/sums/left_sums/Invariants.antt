-- `records::sums::left_sums` meets its contract. The invariant: the sums are those of the first k terms; each adds at most 2^56.
-- Assumes nothing.
use Rattle.records.specs.Successive.{Kept, Known, left_sum}
use Rattle.records.proofs.sums.left_sums.Given as goal

abbrev pub invariant-loop-k : goal.invariant-loop-k
invariant-loop-k l =
    Kept l.at l.tests l.initial.sums l.sums
    × Known (left_sum l.n l.row l.values l.base l.m l.shape l.k) l.tests l.at l.sums l.formed
