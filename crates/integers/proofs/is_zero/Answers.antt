-- `integers::is_zero` meets its contract. The test is made on the bits, which are 0 exactly for the integer 0.
-- Assumes nothing.
use Rattle.algebra.specs.Polynomials.{is_zero_ℤ}
use Rattle.integers.specs.Ranges.{of_z-zero}
use Rattle.integers.proofs.is_zero.Goals as goal

pub returns : goal.returns
unfolding is_zero_ℤ
returns c = of_z-zero c.args.a c.ranges.a
