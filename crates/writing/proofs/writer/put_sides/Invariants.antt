-- `writing::writer::put_sides` meets its contract. The loop's invariant: the lines from i on are still to be written.
-- Assumes nothing.
use mathlib.Core.List.{map}
use Prim.Native.Nat.{◌*◌}
use lib.ListN.{drop}
use Rattle.rules.specs.Numbers.{lines}
use Rattle.rules.specs.Sheets.{side_line}
use Rattle.writing.specs.SheetBytes.{side_bytes}
use Rattle.number_texts.specs.Runs.{Going}
use Rattle.writing.specs.Writer.{sides_in}
use Rattle.writing.proofs.writer.put_sides.Given as goal

abbrev pub invariant-loop-i : goal.invariant-loop-i
invariant-loop-i l =
    Going l.initial.bytes l.at (lines (map side_line (sides_in l.skip l.records l.store))) l.bytes l.next
    (lines (map side_line (drop l.i (sides_in l.skip l.records l.store)))) (l.i * side_bytes)
