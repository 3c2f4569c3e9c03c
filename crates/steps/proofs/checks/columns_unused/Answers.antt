-- `steps::checks::columns_unused` meets its contract.
-- Assumes nothing.
use mathlib.Core.Path.{◌∙◌, ap}
use Prim.Native.Nat.{◌-◌}
use lib.Dec.{eqb}
use lib.ListN.{take, drop, length-drop}
use lib.Seq.{take_all}
use borrow.Author.Rules.{rules}
use native.Mathlib.Omega.{arith}
use Rattle.lists.specs.Tests.{every}
use Rattle.rules.specs.Limits.{column_count}
use Rattle.steps.specs.Handed.{zeros-tested}
use Rattle.steps.proofs.checks.columns_unused.Goals as goal

pub returns : goal.returns
returns c =
    let rest = drop c.args.settled c.args.order in
    let n = column_count - c.args.settled in
    zeros-tested c.all.result (take n rest) (search rules) ∙ ap (every (eqb 0)) (take_all n rest (rw length-drop (omega arith)))
