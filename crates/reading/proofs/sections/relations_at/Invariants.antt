-- `reading::sections::relations_at` meets its contract. The loop's invariant: the first i relations are in the store, and the others are
-- read from `next`.
-- Assumes nothing.
use Rattle.rules.specs.Limits.{relation_length}
use Rattle.rules.specs.Stores.{relation_of}
use Rattle.rules.specs.Sheets.{read_relation}
use Rattle.reading.specs.Sections.{StoredTo}
use Rattle.stores.specs.Validity.{the_sizes_of}
use Rattle.reading.proofs.sections.relations_at.Given as goal

abbrev pub invariant-loop-i : goal.invariant-loop-i
invariant-loop-i l =
    StoredTo relation_length relation_of (read_relation (the_sizes_of l.z)) l.count l.bytes l.at l.initial.relations l.relations l.i l.next
