-- `writing::writer::checks::different_columns` meets its contract. The loop's invariant: the columns from i on tell whether all are right.
-- Assumes nothing.
use mathlib.Core.Path.{◌≡◌}
use lib.ListN.{drop}
use Rattle.rules.specs.SheetCalls.{different_columns_of}
use Rattle.writing.proofs.writer.checks.different_columns.Given as goal

abbrev pub invariant-loop-i : goal.invariant-loop-i
invariant-loop-i l = different_columns_of l.m l.columns ≡ different_columns_of l.m (drop l.i l.columns)
