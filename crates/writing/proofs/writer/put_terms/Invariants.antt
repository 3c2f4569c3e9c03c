-- `writing::writer::put_terms` meets its contract. The loop's invariant: the terms from block l - b down are still to be written.
-- Assumes nothing.
use Prim.Native.Nat.{◌*◌}
use lib.IntN.{pos, ◌-ℤ◌}
use lib.ListN.{drop}
use Rattle.rules.specs.Sheets.{terms_from}
use Rattle.rules.specs.Stores.{row_of}
use Rattle.writing.specs.SheetBytes.{block_bytes}
use Rattle.number_texts.specs.Runs.{Going}
use Rattle.writing.specs.Writer.{numbers_of}
use Rattle.number_texts.specs.Texts.{spaced}
use Rattle.writing.proofs.writer.put_terms.Given as goal

abbrev pub invariant-loop-b : goal.invariant-loop-b
invariant-loop-b l =
    Going l.initial.bytes l.at (spaced (numbers_of (terms_from l.shape.l (row_of l.row).blocks))) l.bytes l.next
    (spaced (numbers_of (terms_from (l.shape.l -ℤ pos l.b) (drop l.b (row_of l.row).blocks)))) (block_bytes * l.b)
