-- `constant_rows::indexed_rows` meets its contract. The invariant: the rows of the equations at the first k integers are made and stand in
-- their places. Assumes nothing.
use mathlib.Core.Path.{◌≡◌}
use mathlib.Core.List.{flatten}
use Prim.Native.Nat.{◌*◌, ◌≤◌}
use lib.ListN.{length, take}
use Rattle.rules.specs.Stores.{rows_of}
use Rattle.stores.specs.Validity.{the_sizes_of}
use Rattle.constant_rows.specs.Constants.{fine, each, the_columns_of}
use Rattle.constant_rows.specs.Matrices.{matrix_rows}
use Rattle.constant_rows.specs.ConstantStores.{row_at, groups}
use Rattle.constant_rows.proofs.indexed_rows.Given as goal

abbrev pub invariant-loop-k : goal.invariant-loop-k
invariant-loop-k l =
    (length l.part ≡ l.indices * l.width) × (l.k ≤ l.indices)
    × (each (row_at (the_sizes_of l.sizes) l.last) (flatten (take l.k (groups (the_sizes_of l.sizes) l.last (rows_of l.sizes.equations l.rows))))
    ≡ fine (matrix_rows (the_columns_of l.sizes.m l.last) (l.k * l.sizes.equations) l.part))
