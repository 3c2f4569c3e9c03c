-- `constant_rows::equation_rows` meets its contract. The invariant: the rows of the first i equations are made and stand in their places.
-- Assumes nothing.
use mathlib.Core.Path.{◌≡◌}
use Prim.Native.Nat.{◌*◌, ◌≤◌}
use lib.ListN.{length, take}
use Rattle.rules.specs.Stores.{rows_of}
use Rattle.stores.specs.Validity.{the_sizes_of}
use Rattle.constant_rows.specs.Constants.{fine, each, the_columns_of}
use Rattle.constant_rows.specs.ListLengths.{list_columns}
use Rattle.constant_rows.specs.Matrices.{matrix_rows}
use Rattle.constant_rows.specs.ConstantStores.{row_at, at_index}
use Rattle.constant_rows.proofs.equation_rows.Given as goal

abbrev pub invariant-loop-i : goal.invariant-loop-i
invariant-loop-i l =
    (length l.part ≡ l.equations * list_columns) × (l.i ≤ l.equations)
    × (each (row_at (the_sizes_of l.sizes) l.last) (take l.i (at_index l.n (rows_of l.equations l.rows))) ≡ fine (matrix_rows (the_columns_of l.sizes.m l.last) l.i l.part))
