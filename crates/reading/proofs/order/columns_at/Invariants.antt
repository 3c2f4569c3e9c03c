-- `reading::order::columns_at` meets its contract. The loop's invariant: the array holds the first i columns and zeros after them, and
-- the others are read from `next`.
-- Assumes nothing.
use mathlib.Core.List.{[]}
use Prim.Native.Nat.{◌-◌, ◌≤◌}
use lib.ListN.{drop}
use Rattle.rules.specs.Limits.{column_count}
use Rattle.rules.specs.Sheets.{read_columns}
use Rattle.reading.specs.Terms.{FilledTo}
use Rattle.reading.specs.OrderLine.{taken_of}
use Rattle.reading.proofs.order.columns_at.Given as goal

abbrev pub invariant-loop-i : goal.invariant-loop-i
invariant-loop-i l =
    (l.i ≤ l.count)
    × FilledTo column_count 0 (read_columns l.m l.count [] (drop l.at l.bytes)) l.bytes l.order l.i l.next
    (read_columns l.m (l.count - l.i) (taken_of l.order l.i) (drop l.next l.bytes))
