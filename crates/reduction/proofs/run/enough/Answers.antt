-- `reduction::run::enough` meets its contract.
-- Assumes nothing.
use native.Mathlib.Omega.{arith}
use Rattle.reduction.specs.RunLaws.{enough-few}
use Rattle.reduction.proofs.run.enough.Goals as goal

pub overflow_mul-result-2 : goal.overflow_mul-result-2
overflow_mul-result-2 c = omega (arith, enough-few c.args.equations c.requires)
