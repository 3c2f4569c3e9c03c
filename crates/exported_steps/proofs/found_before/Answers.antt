-- `exported_steps::found_before` meets its contract.
-- Assumes nothing.
use mathlib.Core.Path.{sym, ◌∙◌, ap}
use mathlib.Core.Bool.{◌||◌}
use lib.Dec.{eqb, eqb→eq}
use Rattle.lists.specs.Tests.{false_of}
use Rattle.exported_steps.specs.StepNumbers.{early}
use Rattle.exported_steps.proofs.found_before.Goals as goal

pub returns-then-refusal-eq1 : goal.returns-then-refusal-eq1
unfolding early
returns-then-refusal-eq1 c = let e = c.if-refusal-eq1.true in ap (λ n. eqb n 1) e ∙ sym (ap (λ n. eqb n 1 || eqb n 11) e)

pub returns-else-refusal-eq1 : goal.returns-else-refusal-eq1
unfolding early
returns-else-refusal-eq1 c =
    let n = c.args.refusal in
    sym (ap (λ b. b || eqb n 11) (false_of (eqb n 1) (λ t. c.if-refusal-eq1.false (eqb→eq n 1 t))))
