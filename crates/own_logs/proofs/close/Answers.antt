-- `own_logs::close` meets its contract.
-- Assumes nothing.
use mathlib.Core.Path.{◌∙◌, ap}
use mathlib.Core.List.{map}
use Prim.Native.Nat.{◌+◌, ◌*◌, ◌-◌}
use native.Mathlib.Omega.{arith}
use lib.IntN.{pos}
use lib.ListN.{replicate, length-map}
use lib.Seq.{paste}
use Rattle.rules.specs.Limits.{column_count}
use Rattle.log_steps.specs.Logs.{step_length, own_need}
use Rattle.own_logs.specs.LogStores.{closed-pasted}
use Rattle.own_logs.proofs.close.Goals as goal

pub returns : goal.returns
returns c =
    let args = c.args in
    let log = args.log.now in
    let at = args.steps * step_length in
    let rest = own_need - (at + column_count) in
    c.clear.ensures
    ∙ ap (λ l. paste l (at + column_count) (replicate rest (pos 0)) rest) c.put_order.ensures
    ∙ closed-pasted log (map pos args.order) at (omega (arith, c.requires.0)) c.requires.1 (length-map args.order pos ∙ c.requires.3)
