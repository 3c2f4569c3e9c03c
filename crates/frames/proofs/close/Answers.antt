-- `frames::close` meets its contract.
-- Assumes nothing.
use mathlib.Core.Path.{◌∙◌, ap}
use native.Mathlib.Omega.{arith}
use Rattle.frames.specs.Pieces.{text_of}
use Rattle.frames.specs.Lines.{close-left, close-over, close-accepted, close-refused, close-tally}
use Rattle.frames.proofs.close.Goals as goal

pub returns-then-batch-ne0 : goal.returns-then-batch-ne0
returns-then-batch-ne0 c =
    let args = c.args in
    c.refusal_line.ensures ∙ ap text_of (close-left args.batch args.over c.if-batch-ne0.true)

pub returns-then-over-ne0 : goal.returns-then-over-ne0
returns-then-over-ne0 c =
    let args = c.args in
    c.refusal_line-then-over-ne0.ensures ∙ ap text_of (close-over args.batch args.over c.if-over-ne0.true)

pub returns-then-in_all-gt-SHEETS : goal.returns-then-in_all-gt-SHEETS
returns-then-in_all-gt-SHEETS c =
    let args = c.args in
    c.refusal_line-then-in_all-gt-SHEETS.ensures ∙ ap text_of (close-accepted args.batch args.over (omega arith) (omega arith))

pub returns-then-in_all-gt-SHEETS-2 : goal.returns-then-in_all-gt-SHEETS-2
returns-then-in_all-gt-SHEETS-2 c =
    let args = c.args in
    c.refusal_line-then-in_all-gt-SHEETS-2.ensures
    ∙ ap text_of (close-refused args.batch args.over (omega arith) (omega arith) (omega arith))

pub returns : goal.returns
returns c =
    let args = c.args in
    c.tally_text.ensures
    ∙ ap text_of (close-tally args.batch args.over (omega arith) (omega arith) (omega arith) (omega arith))
