-- `writing::writer::put_block` meets its contract. The loop's invariant: the terms from column c + 1 on are still to be written.
-- Assumes nothing.
use Prim.Native.Nat.{◌+◌, ◌*◌}
use lib.ListN.{drop}
use Rattle.rules.specs.Sheets.{block_terms_of}
use Rattle.writing.specs.SheetBytes.{term_bytes}
use Rattle.rules.specs.Layout.{block_of}
use Rattle.number_texts.specs.Runs.{Going}
use Rattle.writing.specs.Writer.{numbers_of}
use Rattle.number_texts.specs.Texts.{spaced}
use Rattle.writing.proofs.writer.put_block.Given as goal

abbrev pub invariant-loop-c : goal.invariant-loop-c
invariant-loop-c l =
    Going l.initial.bytes l.at (spaced (numbers_of (block_terms_of l.block 1 (block_of l.numbers)))) l.bytes l.next
    (spaced (numbers_of (block_terms_of l.block (l.c + 1) (drop l.c (block_of l.numbers))))) (term_bytes * l.c)
