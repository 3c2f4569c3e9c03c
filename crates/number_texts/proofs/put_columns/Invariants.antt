-- `number_texts::put_columns` meets its contract. The loop's invariant: the columns from an index on are still to be written.
-- Assumes nothing.
use mathlib.Core.List.{map}
use Prim.Native.Nat.{◌*◌}
use lib.IntN.{pos}
use lib.ListN.{drop}
use Rattle.number_texts.specs.TextBytes.{count_bytes}
use Rattle.number_texts.specs.Runs.{Going}
use Rattle.number_texts.specs.Texts.{spaced}
use Rattle.number_texts.proofs.put_columns.Given as goal

abbrev pub invariant-loop-column : goal.invariant-loop-column
invariant-loop-column l =
    Going l.initial.bytes l.at (spaced (map pos l.columns)) l.bytes l.next (spaced (map pos (drop l.column-index l.columns))) (count_bytes * l.column-index)
