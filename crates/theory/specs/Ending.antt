-- Every run ends: the fuel suffices, and a run makes at most D shifts for each row (SCOPE 9.26).
--
-- Main definitions
--   measure s z           falls at each step, z being a number of settled rows that the current row is known not to meet
use Rattle.std.specs.Prelude.{ℕ, suc, ◌+◌, ◌*◌, ◌-◌, length}
use Rattle.rules.specs.Elimination.{State}
use Rattle.theory.specs.Steps.{current}
use Rattle.theory.specs.Cells.{total_width}

-- Rows to settle and blocks to lose, each worth a combination with every settled row; then the settled rows still to be met.
unfoldable pub measure : State → ℕ → ℕ
measure s z = suc (length s.rows) * (length s.rows - current s + total_width s.rows) + (current s - z)
