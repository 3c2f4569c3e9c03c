-- `own_logs::lines::one` meets its contract.
-- Assumes nothing.
use mathlib.Core.Path.{refl}
use Rattle.rules.specs.Calls.{zeros}
use Rattle.own_logs.proofs.lines.one.Goals as goal

pub returns : goal.returns
unfolding zeros
returns c = refl
