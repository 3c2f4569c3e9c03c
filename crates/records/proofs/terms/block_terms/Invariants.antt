-- `records::terms::block_terms` meets its contract. The invariant: the terms of the first c columns are listed.
-- Assumes nothing.
use Prim.Native.Nat.{◌+◌}
use Rattle.records.specs.Terms.{Listed, columns_added}
use Rattle.records.proofs.terms.block_terms.Given as goal

abbrev pub invariant-loop-c : goal.invariant-loop-c
invariant-loop-c l =
    Listed l.row l.initial.shape l.before l.shape l.count l.c (l.number + l.c) (columns_added l.row l.at l.number l.c)
