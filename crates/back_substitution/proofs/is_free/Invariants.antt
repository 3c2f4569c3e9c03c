-- `back_substitution::is_free` meets its contract. The loop's invariant: the first i columns are other ones.
-- Assumes nothing.
use mathlib.Core.Path.{◌≡◌}
use mathlib.Core.Bool.{true, not}
use lib.Dec.{eqb}
use lib.ListN.{take}
use Rattle.lists.specs.Tests.{every}
use Rattle.back_substitution.proofs.is_free.Given as goal

abbrev pub invariant-loop-c : goal.invariant-loop-c
invariant-loop-c l = every (λ c. not (eqb c l.column)) (take l.c-index l.columns) ≡ true
