-- `sides::mirror::mirror_relations` meets its contract. The loop's invariant: the relations from `from` on and before k are
-- mirrored.
-- Assumes nothing.
use Prim.Native.Nat.{◌≤◌}
use Rattle.rules.specs.Limits.{relation_length}
use Rattle.sides.specs.MirrorLaws.{Changed, mirror_relation_numbers}
use Rattle.sides.proofs.mirror.mirror_relations.Given as goal

abbrev pub invariant-loop-k : goal.invariant-loop-k
invariant-loop-k l =
    (l.from ≤ l.k) × ((l.k ≤ l.count) × Changed relation_length l.count l.from l.k (mirror_relation_numbers l.span) l.initial.store l.store)
