-- `reduction::step::put_limited` meets its contract.
-- Assumes nothing.
use mathlib.Core.Path.{refl, sym}
use Rattle.refusals.specs.Refusals.{number-nonzero}
use Rattle.reduction.specs.NewRows.{saved, saved-none}
use Rattle.reduction.proofs.step.put_limited.Goals as goal

pub returns-in-Ok : goal.returns-in-Ok
unfolding saved
returns-in-Ok c = rw c.in-Ok.is record { rows_after = c.save.ensures; value = refl }

pub returns-in-Err : goal.returns-in-Err
returns-in-Err c =
    rw (c.in-Err.is, c.stopped.ensures) record {
      rows_after = sym (saved-none c.args.rows.now c.args.i _ _ (number-nonzero c.in-Err.refusal));
      value = refl;
    }
