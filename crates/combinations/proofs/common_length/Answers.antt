-- `combinations::common_length` meets its contract.
-- Assumes nothing.
use mathlib.Core.Path.{sym, ◌∙◌, ap₂}
use mathlib.Core.Bool.{◌&&◌}
use native.Mathlib.Nat.{le_of_eq}
use native.Mathlib.Omega.{arith}
use lib.ListN.{drop_of_length-le}
use Rattle.algebra.specs.Polynomials.{is_zero_of}
use Rattle.combinations.proofs.common_length.Goals as goal

pub returns-then-both_within : goal.returns-then-both_within
returns-then-both_within c = (omega arith, omega arith, sym c.both_within.ensures ∙ c.if-both_within.true)

pub returns-then-both_within-2 : goal.returns-then-both_within-2
returns-then-both_within-2 c = (omega arith, omega arith, sym c.both_within-2.ensures ∙ c.if-both_within-2.true)

pub returns-then-both_within-3 : goal.returns-then-both_within-3
returns-then-both_within-3 c = (omega arith, omega arith, sym c.both_within-3.ensures ∙ c.if-both_within-3.true)

pub returns : goal.returns
unfolding is_zero_of
returns c = (
  omega arith,
  omega arith,
  ap₂ (λ x y. is_zero_of x && is_zero_of y) (drop_of_length-le c.args.g.now (le_of_eq c.requires.0))
      (drop_of_length-le c.args.h.now (le_of_eq c.requires.1)),
)
