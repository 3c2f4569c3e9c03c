-- `stores::validity::rows_right` meets its contract. The loop's invariant: the first i rows pass.
-- Assumes nothing.
use mathlib.Core.Path.{◌≡◌}
use mathlib.Core.Bool.{true}
use lib.ListN.{take}
use Rattle.lists.specs.Tests.{every}
use Rattle.rules.specs.Stores.{rows_of}
use Rattle.stores.specs.Validity.{row_test}
use Rattle.stores.proofs.validity.rows_right.Given as goal

abbrev pub invariant-loop-i : goal.invariant-loop-i
invariant-loop-i l = every (row_test l.m l.d) (take l.i (rows_of l.equations l.store)) ≡ true
