-- `roots::none_between` meets its contract. The invariant is `Ranged`. The measure is i.
-- Assumes nothing.
use Prim.Native.Nat.{◌≤◌, ◌<◌}
use lib.ListN.{length}
use Rattle.roots.specs.Bound.{Ranged}
use Rattle.roots.proofs.none_between.Given as goal

abbrev pub invariant-loop-i : goal.invariant-loop-i
invariant-loop-i l = (l.i < length l.p) × (l.most ≤ 268435456) × Ranged l.p l.n l.m l.i l.least l.most
