-- `polynomials::content::with_divisor` meets its contract.
-- Assumes nothing.
use mathlib.Core.Path.{sym, ◌∙◌, ap}
use lib.IntN.{nat_abs}
use mir.Facts.{to_z-of_z}
use Rattle.algebra.specs.Gcd.{gcd, zero-gcd}
use Rattle.polynomials.specs.Content.{zero_bits}
use Rattle.polynomials.proofs.content.with_divisor.Goals as goal

pub returns-then-a-eq0 : goal.returns-then-a-eq0
returns-then-a-eq0 c =
    let start = c.before in
    sym (ap (λ a. gcd (nat_abs a) start.args.d) (zero_bits start.ranges.a c.if-a-eq0.true) ∙ zero-gcd start.args.d)

pub returns : goal.returns
returns c =
    let start = c.before.before.before in
    c.gcd.ensures ∙ ap (λ m. gcd m start.args.d) (c.magnitude.ensures ∙ ap nat_abs (to_z-of_z start.ranges.a))
