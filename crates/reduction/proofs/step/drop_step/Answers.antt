-- `reduction::step::drop_step` meets its contract.
-- Assumes nothing.
use mathlib.Core.Path.{◌∙◌, ap, refl}
use Prim.Native.Nat.{◌*◌, ◌-◌}
use lib.IntN.{pos}
use lib.ListN.{replicate}
use lib.Seq.{paste}
use Rattle.rules.specs.Limits.{row_length}
use Rattle.reduction.specs.Dropping.{dropped}
use Rattle.reduction.proofs.step.drop_step.Goals as goal

pub returns : goal.returns
unfolding dropped
returns c =
    let p = c.args.p in record {
      rows_after = c.clear.ensures
          ∙ ap (λ l. paste l ((p.rows - 1) * row_length) (replicate row_length (pos 0)) row_length) c.move_up.ensures;
      value = refl;
    }
