-- `sides::report::report` meets its contract. The loop's invariant: the answer is the furthest root of the first j
-- diagonal polynomials with its times, which are at most sixteen for each.
-- Assumes nothing.
use mathlib.Core.Path.{◌≡◌}
use lib.ListN.{length}
use Prim.Native.Nat.{◌*◌, ◌≤◌}
use Rattle.rules.specs.Limits.{coefficient_count}
use Rattle.sides.specs.Lent.{side_of}
use Rattle.sides.specs.FurthestRoots.{times_of}
use Rattle.sides.specs.ReportLaws.{reported}
use Rattle.sides.proofs.report.report.Given as goal

abbrev pub invariant-loop-j : goal.invariant-loop-j
invariant-loop-j l =
    (l.settled ≤ length l.fn.order) × (times_of l.answer ≤ l.j * coefficient_count) × (l.answer ≡ reported (side_of l.side) l.span l.settled l.store l.fn.order l.j)
