-- `exported_steps::counts_right` meets its contract.
-- Assumes nothing.
use mathlib.Core.Path.{sym, ◌∙◌}
use native.Mathlib.Omega.{arith}
use lib.Seq.{length-take-le}
use Rattle.lists.specs.Tests.{and_second, and_first}
use Rattle.exported_steps.specs.StateNumbers.{counts_right_of}
use Rattle.exported_steps.proofs.counts_right.Goals as goal

pub slice_bounds-no_negative-end : goal.slice_bounds-no_negative-end
slice_bounds-no_negative-end c = sym (length-take-le 2 c.args.numbers.now (omega arith))

pub returns-then-no_negative : goal.returns-then-no_negative
unfolding counts_right_of
returns-then-no_negative c =
    c.no_negative-then-no_negative.ensures ∙ and_second _ _ (sym c.no_negative.ensures ∙ c.if-no_negative.true)

pub returns-else-no_negative : goal.returns-else-no_negative
unfolding counts_right_of
returns-else-no_negative c =
    c.no_negative.ensures ∙ and_first _ _ (sym c.no_negative.ensures ∙ c.if-no_negative.false)
