-- `log_steps::combining::remainder` meets its contract.
-- Assumes nothing.
use mathlib.Core.Path.{◌≡◌, sym, ◌∙◌, ap, ap₂}
use native.Mathlib.Omega.{arith}
use lib.IntN.{ℤ, pos}
use lib.Signed.{rem_z, mag_rem}
use mir.Facts.{to_z-of_z}
use Rattle.polynomials.specs.Content.{read_back, zero_bits}
use mir.Syntax.{w64}
use Rattle.log_steps.proofs.combining.remainder.Goals as goal

of_zero : (d : ℤ) → rem_z (pos 0) d ≡ pos 0
of_zero d = ap pos (omega (arith, mag_rem (pos 0) d))

pub returns-then-a-eq0 : goal.returns-then-a-eq0
returns-then-a-eq0 c =
    sym (ap (λ a. rem_z a c.args.d) (zero_bits c.ranges.a c.if-a-eq0.true) ∙ of_zero c.args.d)

pub remainder-requires : goal.remainder-requires
remainder-requires c =
    (rw (to_z-of_z {w = w64} c.ranges.a) c.requires.0, rw (to_z-of_z {w = w64} c.ranges.d) c.requires.1)

pub returns : goal.returns
returns c =
    read_back c.remainder.result c.remainder.type_inv ∙ c.remainder.ensures
    ∙ ap₂ rem_z (to_z-of_z {w = w64} c.ranges.a) (to_z-of_z {w = w64} c.ranges.d)
