-- `records::sums::with_term` meets its contract. The invariant: the products are added at the first j of the n.
-- Assumes nothing.
use Rattle.records.specs.Successive.{Added}
use Rattle.records.proofs.sums.with_term.Given as goal

abbrev pub invariant-loop-j : goal.invariant-loop-j
invariant-loop-j l = Added l.n l.p l.values l.from l.m l.at l.j l.initial.sums l.j l.sums
