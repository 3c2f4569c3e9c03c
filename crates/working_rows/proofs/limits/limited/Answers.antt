-- `working_rows::limits::limited` meets its contract: the row that the numbers hold has these numbers.
-- Assumes nothing.
use mathlib.Core.Path.{◌≡◌, sym, ◌∙◌, ap}
use mathlib.Core.List.{List}
use lib.IntN.{ℤ}
use Rattle.rules.specs.Rows.{Row, coefficients_of}
use Rattle.rules.specs.Stores.{row_of}
use Rattle.rules.specs.Layout.{coefficients_of-row_of-all}
use Rattle.working_rows.specs.Working.{numbers_held, length-held}
use Rattle.working_rows.specs.Worked.{refusal_of, worked_row, worked-held, limit-within, limit-beyond}
use Rattle.working_rows.proofs.limits.limited.Goals as goal
use Rattle.working_rows.proofs.limits.limited.Goals.{Start}

-- the row
module _ (c : Start) where
  abbrev l : List ℤ
  l = numbers_held c.args.row

  abbrev r : Row
  r = row_of l

  held : coefficients_of r ≡ l
  held = coefficients_of-row_of-all l (length-held c.args.row c.requires.0)

pub returns-then-not-within : goal.returns-then-not-within
unfolding refusal_of
returns-then-not-within c =
    let s = (goal.at.returns-then-not-within c).Start in
    let failed = limit-beyond (r s) (l s) (held s) (sym s.requires.2 ∙ c.if-not-within.true) in
    (sym (ap refusal_of failed), tt)

pub returns : goal.returns
unfolding refusal_of
returns c =
    let s = (goal.at.returns c).Start in
    let passed = limit-within (r s) (l s) (held s) (sym s.requires.2 ∙ c.if-not-within.false) in
    (sym (ap refusal_of passed), worked-held s.args.row s.requires.0 s.requires.1 ∙ sym (ap worked_row passed))
