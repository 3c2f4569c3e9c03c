-- `constant_rows::constant_row` meets its contract. The invariant: the entries of the first j columns are made and stand in their places,
-- behind them there are zeros; column j is that of the index and the unknown that are counted along.
-- Assumes nothing.
use mathlib.Core.Path.{◌≡◌}
use Prim.Native.Nat.{ℕ, ◌+◌, ◌*◌, ◌≤◌, ◌<◌}
use lib.IntN.{pos}
use lib.ListN.{length, take, get_or}
use Rattle.algebra.specs.Sums.{count_from}
use Rattle.rules.specs.Stores.{row_of}
use Rattle.constant_rows.specs.Constants.{fine, each, entry_at, column_polynomial, the_columns_of}
use Rattle.constant_rows.specs.ListLengths.{list_columns}
use Rattle.constant_rows.proofs.constant_row.Given as goal

abbrev pub invariant-loop-j : goal.invariant-loop-j
invariant-loop-j l =
    (length l.place ≡ list_columns) × (l.j ≤ the_columns_of l.sizes.m l.last)
    × (each (λ k. entry_at l.n (column_polynomial l.sizes.m l.sizes.l (row_of l.row) l.n k)) (count_from 0 l.j) ≡ fine (take l.j l.place))
    × (l.j ≡ l.index * l.sizes.m + l.unknown) × (l.unknown < l.sizes.m)
    × ((k : ℕ) → l.j ≤ k → k < the_columns_of l.sizes.m l.last → get_or l.place k (pos 0) ≡ pos 0)
