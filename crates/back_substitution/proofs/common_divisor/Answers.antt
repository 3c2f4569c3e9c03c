-- `back_substitution::common_divisor` meets its contract. A divisor of the pivot is no larger than the pivot.
-- Assumes nothing.
use mathlib.Core.Path.{◌≡◌, ◌∙◌, ap, ap₂}
use Prim.Native.Nat.{◌<◌, ◌≤◌}
use native.Mathlib.Omega.{arith}
use lib.IntN.{pos, nat_abs}
use mir.Syntax.{w64}
use mir.Val.{SFits}
use mir.Facts.{to_z-of_z}
use Rattle.algebra.specs.Gcd.{gcd}
use Rattle.rules.specs.Limits.{bound}
use Rattle.back_substitution.specs.BackSubstitution.{divisor-size}
use Rattle.back_substitution.proofs.common_divisor.Goals as goal
use Rattle.back_substitution.proofs.common_divisor.Goals.{After-gcd, Start}

module _ (c : After-gcd) where
  abbrev start : Start
  start = (goal.at.After-gcd c).Start

  divisor : c.gcd.result ≡ gcd (nat_abs start.args.d) (nat_abs start.args.s)
  divisor =
      c.gcd.ensures
      ∙ ap₂ gcd (c.magnitude.ensures ∙ ap nat_abs (to_z-of_z {w = w64} start.ranges.d))
      (c.magnitude-2.ensures ∙ ap nat_abs (to_z-of_z {w = w64} start.ranges.s))

  size : (0 < c.gcd.result) × (c.gcd.result ≤ bound)
  size = rw divisor (divisor-size start.args.d start.args.s start.requires.0 start.requires.1)

  fits : SFits w64 (pos c.gcd.result)
  fits = omega (arith, size.1)

pub overflow_cast-result : goal.overflow_cast-result
overflow_cast-result c = fits c

pub returns : goal.returns
returns c =
    let back = to_z-of_z {z = pos c.gcd.result} (fits c) in
    record { value = back ∙ ap pos (divisor c); result_nonzero = rw back (size c).0 }
