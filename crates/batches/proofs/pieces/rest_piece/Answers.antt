-- `batches::pieces::rest_piece` meets its contract: what follows is a piece of which no bytes are held.
-- Assumes nothing.
use Prim.Native.Nat.{◌+◌, ◌≤◌}
use native.Mathlib.Omega.{arith}
use lib.ListN.{length}
use Rattle.batches.specs.PieceJoins.{rest-full, rest-bounds, rest_goes}
use Rattle.batches.proofs.pieces.rest_piece.Goals as goal
use Rattle.batches.proofs.pieces.rest_piece.Goals.{After-unheld_piece-rest, Start}

pub returns-then-fed : goal.returns-then-fed
returns-then-fed c =
    let args = c.args in
    rest-full args.fed args.from args.held.now args.input.now args.output.now c.if-fed.true

-- What follows has been worked.
module _ (c : After-unheld_piece-rest) where
  abbrev start : Start
  start = (goal.at.After-unheld_piece-rest c).Start

  bounds : (start.args.from + c.unheld_piece-rest.result.taken ≤ length start.args.input.now)
      × (start.args.fed.written + c.unheld_piece-rest.result.written ≤ length start.args.output.now)
  bounds =
      rest-bounds start.args.fed start.args.from start.args.held.now start.args.input.now start.args.output.now
      start.requires.from_in_bounds.0 start.requires.from_in_bounds.1 start.requires.counted.0
      c.unheld_piece-rest.result c.unheld_piece-rest.new.held
      c.unheld_piece-rest.new.output c.unheld_piece-rest.ensures

pub overflow_add-result : goal.overflow_add-result
overflow_add-result c = omega (arith, (bounds (goal.at.overflow_add-result c).After-unheld_piece-rest).0)

pub overflow_add-result-2 : goal.overflow_add-result-2
overflow_add-result-2 c = omega (arith, (bounds (goal.at.overflow_add-result-2 c).After-unheld_piece-rest).1)

pub returns : goal.returns
returns c =
    let t = (goal.at.returns c).After-unheld_piece-rest in
    rest_goes (start t).args.fed (start t).args.from (start t).args.held.now (start t).args.input.now
    (start t).args.output.now
    (start t).requires.from_in_bounds.0 (start t).requires.from_in_bounds.1 (start t).requires.counted.0
    t.unheld_piece-rest.result t.unheld_piece-rest.new.held
    t.unheld_piece-rest.new.output t.unheld_piece-rest.ensures t.if-fed.false
