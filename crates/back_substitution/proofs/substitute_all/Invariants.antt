-- `back_substitution::substitute_all` meets its contract. The loop's invariant: v is the vector behind the settled rows from i on, and
-- it is within ±C.
-- Assumes nothing.
use mathlib.Core.Path.{◌≡◌}
use Prim.Native.Nat.{◌≤◌}
use lib.Dec.{T}
use lib.ListN.{length}
use Rattle.lists.specs.Tests.{every}
use Rattle.rules.specs.Limits.{small}
use Rattle.echelon.specs.MatrixTurns.{pivots_in}
use Rattle.back_substitution.specs.BackSubstitution.{back}
use Rattle.back_substitution.proofs.substitute_all.Given as goal

abbrev pub invariant-loop-i : goal.invariant-loop-i
invariant-loop-i l =
    (l.i ≤ length l.columns) × (length l.v ≡ length l.initial.v) × (l.v ≡ back l.n (pivots_in l.n l.columns l.matrix) l.f l.i) × T (every small l.v)
