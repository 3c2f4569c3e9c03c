-- `writing::writer::put_records` meets its contract. The loop's invariant: the lines from i on are still to be written.
-- Assumes nothing.
use Rattle.std.proofs.Common.{◌+◌, ◌*◌, map, drop}
use Rattle.lists.specs.Parts.{parts}
use Rattle.rules.specs.Limits.{row_length}
use Rattle.rules.specs.Numbers.{lines}
use Rattle.number_texts.specs.Runs.{Going}
use Rattle.writing.specs.Records.{record_line, record_lines}
use Rattle.writing.specs.SheetBytes.{relation_bytes}
use Rattle.writing.proofs.writer.put_records.Given as goal

abbrev pub invariant-loop-i : goal.invariant-loop-i
invariant-loop-i l =
    Going l.initial.bytes l.at (record_lines l.shape.l l.skip l.records l.store) l.bytes l.next
    (lines (map (record_line l.shape.l l.skip) (drop l.i (parts (l.skip + row_length) l.records l.store)))) (l.i * relation_bytes)
