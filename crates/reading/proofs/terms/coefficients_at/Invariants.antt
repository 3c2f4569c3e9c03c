-- `reading::terms::coefficients_at` meets its contract. The loop's invariant: `p` holds the first i coefficients and zeros
-- after them, and the others are read from `next`.
-- Assumes nothing.
use Prim.Native.Nat.{◌-◌, ◌≤◌}
use lib.IntN.{pos}
use lib.ListN.{drop}
use Rattle.rules.specs.Limits.{coefficient_count}
use Rattle.rules.specs.Sheets.{read_coefficients}
use Rattle.reading.specs.Terms.{FilledTo}
use Rattle.reading.proofs.terms.coefficients_at.Given as goal

abbrev pub invariant-loop-i : goal.invariant-loop-i
invariant-loop-i l =
    (l.i ≤ l.count)
    × FilledTo coefficient_count (pos 0) (read_coefficients l.last l.count (drop l.at l.bytes)) l.bytes l.p l.i l.next
    (read_coefficients l.last (l.count - l.i) (drop l.next l.bytes))
