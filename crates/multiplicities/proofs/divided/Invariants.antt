-- `multiplicities::divided` meets its contract. The invariant, `Dividing`: q holds the coefficients of the quotient from i on, and the
-- value is the next, within the limit.
-- Assumes nothing.
use Prim.Native.Nat.{◌-◌, ◌≤◌}
use Rattle.multiplicities.specs.Divisions.{Dividing}
use Rattle.multiplicities.proofs.divided.Given as goal

abbrev pub invariant-loop-i : goal.invariant-loop-i
invariant-loop-i l = (1 ≤ l.i) × Dividing l.limit l.r l.p l.q l.value (l.i - 1)
