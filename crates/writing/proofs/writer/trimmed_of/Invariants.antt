-- `writing::writer::trimmed_of` meets its contract. The loop's invariant: n numbers of the first i are left.
-- Assumes nothing.
use Rattle.std.proofs.Common.{◌≡◌, length, take}
use Rattle.rules.specs.Sheets.{trim}
use Rattle.writing.proofs.writer.trimmed_of.Given as goal

abbrev pub invariant-loop-i : goal.invariant-loop-i
invariant-loop-i l = l.n ≡ length (trim (take l.i l.numbers))
