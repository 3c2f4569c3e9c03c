-- `records::terms::left_terms` meets its contract. The invariant: the terms of the first b blocks are listed.
-- Assumes nothing.
use Rattle.records.specs.Terms.{BlocksListed}
use Rattle.records.proofs.terms.left_terms.Given as goal

abbrev pub invariant-loop-b : goal.invariant-loop-b
invariant-loop-b l = BlocksListed l.m l.span l.row l.shape l.count l.b
