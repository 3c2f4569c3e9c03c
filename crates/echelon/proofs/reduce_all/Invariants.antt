-- `echelon::reduce_all` meets its contract. The loop's invariant: the settled rows from row k on make of the row what all
-- of them make of the row that was given.
-- Assumes nothing.
use mathlib.Core.Path.{◌≡◌}
use Prim.Native.Nat.{◌≤◌}
use lib.Dec.{T}
use lib.ListN.{length, drop}
use Rattle.lists.specs.Tests.{every}
use Rattle.rules.specs.Limits.{small}
use Rattle.echelon.specs.Eliminated.{reduce_all_of}
use Rattle.echelon.specs.MatrixTurns.{pivots_in}
use Rattle.echelon.proofs.reduce_all.Given as goal

abbrev pub invariant-loop-k : goal.invariant-loop-k
invariant-loop-k l =
    (l.k ≤ length l.columns) × (length l.row ≡ length l.initial.row) × T (every small l.row)
    × (reduce_all_of (pivots_in (length l.initial.row) l.columns l.matrix) l.initial.row ≡ reduce_all_of (drop l.k (pivots_in (length l.initial.row) l.columns l.matrix)) l.row)
