-- `stores::validity::relations_right` meets its contract. The loop's invariant: the first k relations pass.
-- Assumes nothing.
use mathlib.Core.Path.{◌≡◌}
use mathlib.Core.Bool.{true}
use lib.ListN.{take}
use Rattle.lists.specs.Tests.{every}
use Rattle.rules.specs.Stores.{relations_of}
use Rattle.stores.specs.Validity.{relation_test}
use Rattle.stores.proofs.validity.relations_right.Given as goal

abbrev pub invariant-loop-k : goal.invariant-loop-k
invariant-loop-k l = every (relation_test l.m l.d) (take l.k (relations_of l.count l.store)) ≡ true
