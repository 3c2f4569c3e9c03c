-- `batches::endings::end_text` meets its contract: what is written at the end goes by the stage.
-- Assumes nothing.
use mathlib.Core.Path.{sym, ◌∙◌, ap}
use Rattle.lists.specs.Overwritten.{overwrite}
use Rattle.frames.specs.Pieces.{text_of, refusal-broken}
use Rattle.batches.specs.PieceCalls.{end_text_of}
use Rattle.batches.proofs.endings.end_text.Goals as goal

pub returns-in-Count : goal.returns-in-Count
unfolding end_text_of
returns-in-Count c =
    let args = c.args in
    c.refusal_line.ensures ∙ ap text_of refusal-broken
    ∙ ap (λ stage. text_of (end_text_of stage args.batch args.held)) (sym c.in-Count.is)

pub returns-in-Sheets : goal.returns-in-Sheets
unfolding end_text_of
returns-in-Sheets c =
    let args = c.args in
    c.close.ensures ∙ ap (λ stage. text_of (end_text_of stage args.batch args.held)) (sym c.in-Sheets.is)

pub returns-in-Over : goal.returns-in-Over
unfolding end_text_of text_of overwrite
returns-in-Over c =
    let args = c.args in
    ap (λ stage. text_of (end_text_of stage args.batch args.held)) (sym c.in-Over.is)
