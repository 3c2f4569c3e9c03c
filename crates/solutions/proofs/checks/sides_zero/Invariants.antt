-- `solutions::checks::sides_zero` meets its contract. The loop's invariant: the first i parts pass. Assumes nothing.
use mathlib.Core.Path.{◌≡◌}
use mathlib.Core.Bool.{true}
use Prim.Native.Nat.{◌-◌, ◌≤◌}
use lib.ListN.{take}
use Rattle.lists.specs.Parts.{parts}
use Rattle.lists.specs.Tests.{every}
use Rattle.solutions.specs.SolutionChecks.{side_zero}
use Rattle.solutions.proofs.checks.sides_zero.Given as goal

abbrev pub invariant-loop-i : goal.invariant-loop-i
invariant-loop-i l = (l.i ≤ l.count) × (every (side_zero l.at) (take l.i (parts l.width l.count l.store)) ≡ true)
