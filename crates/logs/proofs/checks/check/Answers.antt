-- `logs::checks::check` meets its contract.
-- Assumes nothing.
use mathlib.Core.Path.{◌∙◌}
use Rattle.stores.specs.Validity.{the_sizes_of}
use Rattle.log_steps.specs.Logs.{log_need}
use Rattle.logs.specs.ReplayCalls.{steps-checked, sizes-checked, log-checked, stores-checked}
use mathlib.Core.Path.{sym}
use Rattle.logs.proofs.checks.check.Goals as goal

pub returns-then-steps-gt-STEPS : goal.returns-then-steps-gt-STEPS
returns-then-steps-gt-STEPS c =
    let a = c.args in
    steps-checked (the_sizes_of a.sizes) a.count a.steps a.log.now a.rows.now a.relations.now c.if-steps-gt-STEPS.true

pub returns-then-number-eq2 : goal.returns-then-number-eq2
returns-then-number-eq2 c =
    let a = c.args in
    sizes-checked (the_sizes_of a.sizes) a.count a.steps a.log.now a.rows.now a.relations.now c.if-steps-gt-STEPS.false
    (sym c.check_stores-system.ensures ∙ sym c.refusal_number-number.ensures ∙ c.if-number-eq2.true)

pub returns-then-log-steps : goal.returns-then-log-steps
unfolding log_need
returns-then-log-steps c =
    let a = c.args in
    log-checked (the_sizes_of a.sizes) a.count a.steps a.log.now a.rows.now a.relations.now c.if-steps-gt-STEPS.false
    (λ z. c.if-number-eq2.false (c.refusal_number-number.ensures ∙ c.check_stores-system.ensures ∙ z)) c.if-log-steps.true

pub returns : goal.returns
unfolding log_need
returns c =
    let a = c.args in
    c.check_stores-system.ensures
    ∙ stores-checked (the_sizes_of a.sizes) a.count a.steps a.log.now a.rows.now a.relations.now c.if-steps-gt-STEPS.false
    (λ z. c.if-number-eq2.false (c.refusal_number-number.ensures ∙ c.check_stores-system.ensures ∙ z)) c.if-log-steps.false
