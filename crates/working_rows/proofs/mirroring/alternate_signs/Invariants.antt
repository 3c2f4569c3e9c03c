-- `working_rows::mirroring::alternate_signs` meets its contract. The loop's invariant: i is odd, and before it the numbers at odd places
-- have changed their sign.
-- Assumes nothing.
use Prim.Native.Nat.{◌%◌}
use mathlib.Core.Path.{◌≡◌}
use Rattle.working_rows.specs.Mirroring.{Alternated}
use Rattle.working_rows.proofs.mirroring.alternate_signs.Given as goal

abbrev pub invariant-loop-i : goal.invariant-loop-i
invariant-loop-i l = (l.i % 2 ≡ 1) × Alternated l.i l.initial.numbers l.numbers
