-- `own_logs::put_order` meets its contract. The loop's invariant: the first j columns are written.
-- Assumes nothing.
use mathlib.Core.Path.{◌≡◌}
use mathlib.Core.List.{map}
use lib.IntN.{pos}
use lib.ListN.{length}
use lib.Seq.{paste}
use Rattle.own_logs.proofs.put_order.Given as goal

abbrev pub invariant-loop-j : goal.invariant-loop-j
invariant-loop-j l = (length l.log ≡ length l.initial.log) × (l.log ≡ paste l.initial.log l.at (map pos l.fn.order) l.j)
