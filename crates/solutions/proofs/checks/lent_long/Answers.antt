-- `solutions::checks::lent_long` meets its contract.
-- Assumes nothing.
use mathlib.Core.Path.{sym, ◌∙◌}
use borrow.Author.Tests.{lt-leb, le-leb}
use Rattle.lists.specs.Tests.{first-failed, second-failed, both-passed}
use Rattle.solutions.proofs.checks.lent_long.Goals as goal

pub returns-then-not-lengths_right : goal.returns-then-not-lengths_right
returns-then-not-lengths_right c = first-failed _ _ _ (sym c.lengths_right.ensures ∙ c.if-not-lengths_right.true)

pub returns-then-matrix : goal.returns-then-matrix
returns-then-matrix c =
    second-failed _ _ _ (sym c.lengths_right.ensures ∙ c.if-not-lengths_right.false) (lt-leb _ _ c.if-matrix.true)

pub returns : goal.returns
returns c =
    both-passed _ _ _ (sym c.lengths_right.ensures ∙ c.if-not-lengths_right.false) (le-leb _ _ c.if-matrix.false)
