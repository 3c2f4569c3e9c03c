-- `constant_rows::relation_rows` meets its contract. The invariant: the rows of the first i relations are made and stand in their places.
-- Assumes nothing.
use mathlib.Core.Path.{◌≡◌}
use Prim.Native.Nat.{◌*◌, ◌≤◌}
use lib.ListN.{length, take}
use Rattle.rules.specs.Stores.{relations_of}
use Rattle.stores.specs.Validity.{the_sizes_of}
use Rattle.constant_rows.specs.Constants.{fine, each, the_columns_of}
use Rattle.constant_rows.specs.ListLengths.{list_columns}
use Rattle.constant_rows.specs.Matrices.{matrix_rows}
use Rattle.constant_rows.specs.ConstantStores.{row_at}
use Rattle.constant_rows.proofs.relation_rows.Given as goal

abbrev pub invariant-loop-i : goal.invariant-loop-i
invariant-loop-i l =
    (length l.part ≡ l.count * list_columns) × (l.i ≤ l.count)
    × (each (row_at (the_sizes_of l.sizes) l.last) (take l.i (relations_of l.count l.relations)) ≡ fine (matrix_rows (the_columns_of l.sizes.m l.last) l.i l.part))
