-- `log_steps::combining::quotient` meets its contract.
-- Assumes nothing.
use mathlib.Core.Path.{◌≡◌, sym, ◌∙◌, ap, ap₂}
use native.Mathlib.Omega.{arith}
use lib.IntN.{ℤ, pos}
use lib.Signed.{quot_z}
use mir.Facts.{to_z-of_z}
use Rattle.algebra.specs.Integers.{nat_abs-zero}
use Rattle.algebra.specs.Division.{quot_z-le}
use Rattle.polynomials.specs.Content.{read_back, zero_bits}
use mir.Syntax.{w64}
use Rattle.log_steps.proofs.combining.quotient.Goals as goal

of_zero : (d : ℤ) → quot_z (pos 0) d ≡ pos 0
of_zero d = nat_abs-zero (omega (arith, quot_z-le (pos 0) d))

pub returns-then-a-eq0 : goal.returns-then-a-eq0
returns-then-a-eq0 c =
    sym (ap (λ a. quot_z a c.args.d) (zero_bits c.ranges.a c.if-a-eq0.true) ∙ of_zero c.args.d)

pub quotient-requires : goal.quotient-requires
quotient-requires c =
    (rw (to_z-of_z {w = w64} c.ranges.a) c.requires.0, rw (to_z-of_z {w = w64} c.ranges.d) c.requires.1)

pub returns : goal.returns
returns c =
    read_back c.quotient.result c.quotient.type_inv ∙ c.quotient.ensures
    ∙ ap₂ quot_z (to_z-of_z {w = w64} c.ranges.a) (to_z-of_z {w = w64} c.ranges.d)
