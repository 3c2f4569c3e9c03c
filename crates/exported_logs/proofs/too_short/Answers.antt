-- `exported_logs::too_short` meets its contract.
-- Assumes nothing.
use mathlib.Core.Path.{◌∙◌}
use Rattle.stores.specs.Validity.{the_sizes_of}
use Rattle.exported_logs.specs.LogNumbers.{short-steps, short-system}
use Rattle.exported_logs.proofs.too_short.Goals as goal

pub returns-then-steps-gt-MOST_STEPS : goal.returns-then-steps-gt-MOST_STEPS
returns-then-steps-gt-MOST_STEPS c =
    let args = c.args in short-steps (the_sizes_of args.sizes) args.count args.steps c.if-steps-gt-MOST_STEPS.true

pub returns : goal.returns
returns c =
    let args = c.args in
    (c.number_in.ensures ∙ c.check_stores-checked.ensures) ∙ short-system (the_sizes_of args.sizes) args.count args.steps c.if-steps-gt-MOST_STEPS.false
