-- `combinations::divide_parts` meets its contract. The loop's invariant: the first e polynomials are divided, the others are as they were.
-- Assumes nothing.
use mathlib.Core.Path.{◌≡◌}
use Prim.Native.Nat.{◌*◌}
use lib.IntN.{nat_abs}
use lib.ListN.{length}
use Rattle.rules.specs.Limits.{coefficient_count}
use Rattle.combinations.specs.Primitive.{divided_to}
use Rattle.combinations.proofs.divide_parts.Given as goal

abbrev pub invariant-loop-e : goal.invariant-loop-e
invariant-loop-e l =
    (length l.numbers ≡ length l.initial.numbers) × (l.numbers ≡ divided_to (nat_abs l.d) l.initial.numbers (l.e * coefficient_count))
