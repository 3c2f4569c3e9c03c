-- `integers::gcd` meets its contract: each turn is a step of Euclid's algorithm.
-- Assumes nothing.
use mathlib.Core.Path.{sym, ◌∙◌}
use native.Mathlib.Nat.{pos_of_ne-zero, mod-lt}
use native.Mathlib.Omega.{arith}
use Rattle.algebra.specs.Gcd.{gcd-zero, gcd-step-pos}
use Rattle.integers.proofs.+gcd.Goals as goal

pub nonzero_rem-a : goal.nonzero_rem-a
nonzero_rem-a t c = pos_of_ne-zero c.if-b-eq0.false

pub gcd-requires : goal.gcd-requires
gcd-requires t c = (omega (arith, mod-lt c.args.a (pos_of_ne-zero c.if-b-eq0.false)), tt)

pub returns-then-b-eq0 : goal.returns-then-b-eq0
returns-then-b-eq0 t c = sym (rw c.if-b-eq0.true (gcd-zero c.args.a))

pub returns-else-b-eq0 : goal.returns-else-b-eq0
returns-else-b-eq0 t c = c.gcd.ensures ∙ sym (gcd-step-pos c.args.a c.args.b (pos_of_ne-zero c.if-b-eq0.false))
