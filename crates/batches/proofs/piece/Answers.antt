-- `batches::piece` meets its contract: the stream is checked, and the piece worked in stores of its own, which are zero as they are made.
-- Assumes nothing.
use mathlib.Core.Path.{refl, sym, ◌∙◌, ap}
use Rattle.rules.specs.Calls.{zeros}
use Rattle.batches.specs.PieceCalls.{call_of}
use Rattle.batches.specs.PieceSteps.{piece-refused}
use Rattle.batches.proofs.piece.Goals as goal

pub returns-then-refusal-ne0 : goal.returns-then-refusal-ne0
returns-then-refusal-ne0 c =
    let args = c.args in
    let check = c.check-refusal in
    ap (λ r. call_of r args.held.now args.output.now) c.refused.ensures
    ∙ piece-refused args.stream args.held.now args.bytes.now args.output.now check.result
    check.ensures c.if-refusal-ne0.true

pub checked-requires : goal.checked-requires
unfolding zeros
checked-requires c =
    (sym c.check-refusal.ensures ∙ c.if-refusal-ne0.false, refl, refl)
