-- `solutions::checks::homogeneous` meets its contract.
-- Assumes nothing.
use mathlib.Core.Path.{sym, ◌∙◌}
use borrow.Author.Rules.{rules}
use Rattle.lists.specs.Tests.{and_first, and_second}
use Rattle.rules.specs.Stores.{row_need}
use Rattle.solutions.specs.SolutionChecks.{homogeneous-parts}
use Rattle.solutions.proofs.checks.homogeneous.Goals as goal

pub sides_zero-requires : goal.sides_zero-requires
unfolding row_need
sides_zero-requires c = search rules

pub returns-then-not-sides_zero : goal.returns-then-not-sides_zero
returns-then-not-sides_zero c =
    let failed = c.if-not-sides_zero.true in
    sym failed ∙ c.sides_zero.ensures ∙ and_first _ _ (sym c.sides_zero.ensures ∙ failed)
    ∙ sym (homogeneous-parts c.args.equations c.args.count c.args.rows.now c.args.relations.now)

pub returns : goal.returns
returns c =
    let passed = sym c.sides_zero.ensures ∙ c.if-not-sides_zero.false in
    c.sides_zero-2.ensures ∙ and_second _ _ passed
    ∙ sym (homogeneous-parts c.args.equations c.args.count c.args.rows.now c.args.relations.now)
