-- `back_substitution::list_sequences` meets its contract. The loop's invariant: the sequences of the free columns below f stand in the
-- store, and nothing past its needed part has changed.
-- Assumes nothing.
use Prim.Native.Nat.{◌≤◌}
use Rattle.sides.specs.Lent.{Kept}
use Rattle.echelon.specs.MatrixTurns.{pivots_in}
use Rattle.constant_rows.specs.ListLengths.{list_need}
use Rattle.back_substitution.specs.ListRows.{Written}
use Rattle.back_substitution.proofs.list_sequences.Given as goal

abbrev pub invariant-loop-f : goal.invariant-loop-f
invariant-loop-f l =
    (l.f ≤ l.n) × Written l.n (pivots_in l.n l.used l.matrix) l.f l.count l.list × Kept list_need l.initial.list l.list
