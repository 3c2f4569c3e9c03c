-- `writing::writer::most_in_records` meets its contract. The loop's invariant: what the records from i on come to is still to be added.
-- Assumes nothing.
use mathlib.Core.Path.{◌≡◌}
use mathlib.Core.List.{map}
use Prim.Native.Nat.{◌+◌, ◌*◌, ◌≤◌}
use lib.ListN.{drop}
use Rattle.lists.specs.Parts.{parts}
use Rattle.lists.specs.Totals.{total}
use Rattle.rules.specs.Limits.{polynomial_count, row_length}
use Rattle.writing.specs.LineLengths.{long_term, most_in_terms_of, most_in_records_of}
use Rattle.writing.proofs.writer.most_in_records.Given as goal

abbrev pub invariant-loop-i : goal.invariant-loop-i
invariant-loop-i l =
    (l.numbers ≤ l.i * (polynomial_count * long_term))
    × (l.numbers + total (drop l.i (map (λ p. most_in_terms_of (drop l.skip p)) (parts (l.skip + row_length) l.records l.store)))
    ≡ most_in_records_of l.skip l.records l.store)
