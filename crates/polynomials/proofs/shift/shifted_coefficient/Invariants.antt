-- `polynomials::shift::shifted_coefficient` meets its contract: the loop adds up the terms of the expansion of p(n + 1) at n^k; those
-- before j = k are zero.
-- Assumes nothing.
use mathlib.Core.Path.{◌≡◌}
use Prim.Native.Nat.{◌≤◌}
use Rattle.rules.specs.Limits.{coefficient_count}
use Rattle.polynomials.specs.Shift.{expansion}
use Rattle.polynomials.proofs.shift.shifted_coefficient.Given as goal

abbrev pub invariant-loop-j : goal.invariant-loop-j
invariant-loop-j l = (l.j ≤ coefficient_count) × (l.sum ≡ expansion l.p l.k l.j)
