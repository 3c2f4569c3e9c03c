-- `working_rows::entries::first_met` meets its contract. The loop's invariant: the leading entries at the first j columns of the order are zero.
-- Assumes nothing.
use mathlib.Core.Path.{◌≡◌}
use mathlib.Core.Bool.{true}
use lib.ListN.{take}
use Rattle.algebra.specs.Polynomials.{is_zero_of}
use Rattle.lists.specs.Tests.{every}
use Rattle.rules.specs.Stores.{row_of}
use Rattle.working_rows.specs.Found.{entries_at}
use Rattle.working_rows.proofs.entries.first_met.Given as goal

abbrev pub invariant-loop-j : goal.invariant-loop-j
invariant-loop-j l = every is_zero_of (take l.j (entries_at (row_of l.entries) l.fn.order l.settled)) ≡ true
