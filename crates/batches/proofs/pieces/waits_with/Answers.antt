-- `batches::pieces::waits_with` meets its contract: the test goes by the stage.
-- Assumes nothing.
use mathlib.Core.Path.{sym, ◌∙◌, ap}
use lib.Dec.{eqb}
use Rattle.batches.specs.PieceCalls.{waits_with_of}
use Rattle.batches.proofs.pieces.waits_with.Goals as goal

pub returns-in-Count : goal.returns-in-Count
unfolding waits_with_of
returns-in-Count c =
    let args = c.args in
    ap (λ v. eqb v.refusal 4) c.begin-begun.ensures
    ∙ ap (λ stage. waits_with_of stage args.batch args.bytes.now) (sym c.in-Count.is)

pub returns-in-Sheets : goal.returns-in-Sheets
unfolding waits_with_of
returns-in-Sheets c =
    let args = c.args in
    c.sheet_waits.ensures ∙ ap (λ stage. waits_with_of stage args.batch args.bytes.now) (sym c.in-Sheets.is)

pub returns-in-Over : goal.returns-in-Over
unfolding waits_with_of
returns-in-Over c =
    let args = c.args in
    ap (λ stage. waits_with_of stage args.batch args.bytes.now) (sym c.in-Over.is)
