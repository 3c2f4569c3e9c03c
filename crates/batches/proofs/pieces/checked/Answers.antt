-- `batches::pieces::checked` meets its contract: with bytes held, and with none.
-- Assumes nothing.
use mathlib.Core.Path.{◌∙◌}
use Rattle.batches.specs.PieceLaws.{check-right}
use Rattle.batches.specs.PieceJoins.{unheld-call}
use Rattle.batches.proofs.pieces.checked.Goals as goal

pub unheld_piece-requires : goal.unheld_piece-requires
unheld_piece-requires c =
    let right = check-right c.args.s c.args.held.now c.requires.0 in
    (right.counted, right.long, c.requires.1, c.requires.2)

pub returns-then-s-eq0 : goal.returns-then-s-eq0
returns-then-s-eq0 c =
    c.unheld_piece.ensures
    ∙ unheld-call c.args.s c.args.held.now c.args.input.now c.args.output.now
    c.requires.0 c.if-s-eq0.true
