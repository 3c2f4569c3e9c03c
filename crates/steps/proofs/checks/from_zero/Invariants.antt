-- `steps::checks::from_zero` meets its contract.
-- Assumes nothing.
use mathlib.Core.Path.{◌≡◌}
use mathlib.Core.List.{map}
use Prim.Native.Nat.{pred}
use lib.ListN.{length, take}
use Rattle.lists.specs.Padded.{pad_to}
use Rattle.rules.specs.Limits.{column_count}
use Rattle.steps.proofs.checks.from_zero.Given as goal

abbrev pub invariant-loop-j : goal.invariant-loop-j
invariant-loop-j l =
    (length l.fn.order ≡ column_count) × (l.columns ≡ pad_to column_count 0 (map pred (take l.j l.fn.order)))
