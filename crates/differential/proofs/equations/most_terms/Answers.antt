-- `differential::equations::most_terms` meets its contract. There are at most 36 terms.
-- Assumes nothing.
use mathlib.Core.Path.{ap₂, ◌∙◌}
use Prim.Native.Nat.{◌+◌, ◌*◌, ◌≤◌}
use native.Mathlib.Nat.{mul-le-mul}
use native.Mathlib.Numerals.{add-one}
use native.Mathlib.Omega.{arith}
use lib.IntN.{pos}
use mir.Syntax.{w64}
use mir.Facts.{to_z_pos}
use Rattle.differential.specs.Read.{extent_of}
use Rattle.differential.specs.Rows.{most_count}
use Rattle.differential.proofs.equations.most_terms.Goals as goal
use Rattle.differential.proofs.equations.most_terms.Goals.{Start}

module _ (c : Start) where
  unknowns-few : c.args.x.unknowns ≤ 4
  unfolding extent_of
  unknowns-few = c.requires.unknowns-few

  orders-few : c.args.x.order + 1 ≤ 3
  unfolding extent_of
  orders-few = omega (arith, c.requires.order_small)

  degrees-few : c.args.x.degree + 1 ≤ 3
  unfolding extent_of
  degrees-few = omega (arith, c.requires.degree-small)

  product : c.args.x.unknowns * (c.args.x.order + 1) ≤ 12
  product = mul-le-mul unknowns-few orders-few

  most : c.args.x.unknowns * (c.args.x.order + 1) * (c.args.x.degree + 1) ≤ most_count
  most = mul-le-mul product degrees-few

pub overflow_add-result : goal.overflow_add-result
overflow_add-result c = omega (arith, orders-few (goal.at.overflow_add-result c).Start)

pub overflow_mul-result : goal.overflow_mul-result
overflow_mul-result c = omega (arith, product (goal.at.overflow_mul-result c).Start)

pub overflow_add-result-2 : goal.overflow_add-result-2
overflow_add-result-2 c = omega (arith, degrees-few (goal.at.overflow_add-result-2 c).Start)

pub overflow_mul-result-2 : goal.overflow_mul-result-2
overflow_mul-result-2 c = omega (arith, most (goal.at.overflow_mul-result-2 c).Start)

pub overflow_cast-result : goal.overflow_cast-result
overflow_cast-result c = omega (arith, most (goal.at.overflow_cast-result c).Start)

pub returns : goal.returns
unfolding extent_of
returns c =
    to_z_pos w64 (omega (arith, most (goal.at.returns c).Start))
    ∙ ap₂ (λ k j. pos (c.args.x.unknowns * k * j)) (add-one c.args.x.order) (add-one c.args.x.degree)
