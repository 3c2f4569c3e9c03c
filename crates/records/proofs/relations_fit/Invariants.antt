-- `records::relations_fit` meets its contract. The invariant: the tests from relation i on, after those before, answer as all of them do.
-- Assumes nothing.
use mathlib.Core.Path.{◌≡◌}
use Prim.Native.Nat.{◌+◌, ◌≤◌}
use lib.ListN.{drop}
use Rattle.rules.specs.Stores.{relations_of}
use Rattle.stores.specs.Validity.{the_sizes_of}
use Rattle.records.specs.Records.{relation_tests, answer_to}
use Rattle.records.proofs.relations_fit.Given as goal

abbrev pub invariant-loop-i : goal.invariant-loop-i
invariant-loop-i l =
    (l.tested ≤ l.before + l.i)
    × (answer_to l.tested
    (relation_tests (the_sizes_of l.sizes) l.first l.vectors l.values (l.i + 1) (drop l.i (relations_of l.count l.relations)))
    ≡ answer_to l.before (relation_tests (the_sizes_of l.sizes) l.first l.vectors l.values 1 (relations_of l.count l.relations)))
