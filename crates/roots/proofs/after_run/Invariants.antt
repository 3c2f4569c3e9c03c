-- `roots::after_run` meets its contract. The invariant: the factors from `from` on are those from `next` on after some equal
-- to the first. The measure is the number of factors left.
-- Assumes nothing.
use Prim.Native.Nat.{◌≤◌, ◌<◌}
use lib.ListN.{length, drop}
use Rattle.roots.specs.Factors.{Run}
use Rattle.roots.proofs.after_run.Given as goal

abbrev pub invariant-loop-next : goal.invariant-loop-next
invariant-loop-next l = (l.from < l.next) × (l.next ≤ length l.factors) × Run l.q (drop l.from l.factors) (drop l.next l.factors)
