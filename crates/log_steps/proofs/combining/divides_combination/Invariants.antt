-- `log_steps::combining::divides_combination` meets its contract. The loop's invariant: d divides the first e polynomials.
-- Assumes nothing.
use mathlib.Core.Path.{◌≡◌}
use mathlib.Core.Bool.{true}
use lib.IntN.{nat_abs}
use lib.ListN.{take}
use Rattle.lists.specs.Tests.{every}
use Rattle.stores.specs.Flat.{part_count}
use Rattle.combinations.specs.Combination.{combinations}
use Rattle.log_steps.specs.Logs.{divides_all}
use Rattle.log_steps.proofs.combining.divides_combination.Given as goal

abbrev pub invariant-loop-e : goal.invariant-loop-e
invariant-loop-e l =
    every (divides_all (nat_abs l.d)) (take l.e (combinations part_count l.g l.h l.target l.pivot)) ≡ true
