-- `log_steps::combining::divide_exactly` meets its contract. The loop's invariant: d divides the first k numbers, they are divided by it,
-- and the others are as they were.
-- Assumes nothing.
use mathlib.Core.Path.{◌≡◌}
use Prim.Native.Nat.{ℕ, ◌<◌}
use lib.IntN.{pos, nat_abs}
use lib.ListN.{length, drop}
use lib.Signed.{rem_z}
use Rattle.algebra.specs.Gcd.{divide_by}
use Rattle.algebra.specs.Polynomials.{coeff}
use Rattle.lists.specs.Taken.{Overwritten}
use Rattle.log_steps.proofs.combining.divide_exactly.Given as goal

abbrev pub invariant-loop-number : goal.invariant-loop-number
invariant-loop-number l =
    Overwritten (length l.initial.numbers) (divide_by (nat_abs l.d) l.initial.numbers) l.numbers l.number-index
    × (drop l.number-index l.numbers ≡ drop l.number-index l.initial.numbers)
    × ((j : ℕ) → j < l.number-index → rem_z (coeff l.initial.numbers j) l.d ≡ pos 0)
