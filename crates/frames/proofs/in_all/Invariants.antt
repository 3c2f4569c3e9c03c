-- `frames::in_all` meets its contract. The loop's invariant: the sum is that of the counts passed, and at most 1,000.
-- Assumes nothing.
use Prim.Native.Nat.{◌≤◌, ◌-◌}
use mathlib.Core.Path.{◌≡◌}
use lib.ListN.{take}
use Rattle.lists.specs.Totals.{total}
use Rattle.rules.specs.Batch.{client_count}
use Rattle.frames.proofs.in_all.Given as goal

abbrev pub invariant-loop-count : goal.invariant-loop-count
invariant-loop-count l = (l.sum ≤ 1000) × (l.sum ≡ total (take l.count-index l.fn.counts))
