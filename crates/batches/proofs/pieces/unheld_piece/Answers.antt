-- `batches::pieces::unheld_piece` meets its contract: what the feed leaves of the piece is held.
-- Assumes nothing.
use Prim.Native.Nat.{◌≤◌}
use native.Mathlib.Omega.{arith}
use lib.ListN.{length}
use Rattle.batches.specs.PieceJoins.{unheld-taken, unheld-left, unheld-full, unheld-rest}
use Rattle.batches.proofs.pieces.unheld_piece.Goals as goal
use Rattle.batches.proofs.pieces.unheld_piece.Goals.{After-feed-fed, Start}

-- The piece has been fed.
module _ (c : After-feed-fed) where
  abbrev start : Start
  start = (goal.at.After-feed-fed c).Start

  inside : c.feed-fed.result.taken ≤ length start.args.input.now
  inside =
      omega (
        arith,
        unheld-taken start.args.stage start.args.batch start.args.held.now
            start.args.input.now start.args.output.now start.requires.0 c.feed-fed.result
            c.feed-fed.new.output c.feed-fed.ensures.output_after,
      )

pub returns-then-fed : goal.returns-then-fed
returns-then-fed c =
    let fed = (goal.at.returns-then-fed c).After-feed-fed in
    let args = (start fed).args in
    unheld-full args.stage args.batch args.held.now args.input.now args.output.now
    (start fed).requires.0 fed.feed-fed.result
    fed.feed-fed.new.output fed.feed-fed.ensures.output_after c.if-fed.true

pub slice_bounds-copy-count : goal.slice_bounds-copy-count
slice_bounds-copy-count c = inside (goal.at.slice_bounds-copy-count c).After-feed-fed

pub slice_bounds-copy-start : goal.slice_bounds-copy-start
slice_bounds-copy-start c = inside (goal.at.slice_bounds-copy-start c).After-feed-fed

pub copy-left-requires : goal.copy-left-requires
copy-left-requires c =
    let fed = (goal.at.copy-left-requires c).After-feed-fed in
    let args = (start fed).args in
    omega (
      arith,
      unheld-left args.stage args.batch args.held.now args.input.now args.output.now
          (start fed).requires.0 fed.feed-fed.result fed.feed-fed.new.output fed.feed-fed.ensures.output_after
          c.if-fed.false,
      (start fed).requires.1,
    )

pub returns : goal.returns
returns c =
    let fed = (goal.at.returns c).After-feed-fed in
    let args = (start fed).args in
    unheld-rest args.stage args.batch args.held.now args.input.now args.output.now
    (start fed).requires.0 fed.feed-fed.result
    fed.feed-fed.new.output fed.feed-fed.ensures.output_after c.if-fed.false
    c.copy-left.new.target c.copy-left.result
    c.copy-left.ensures.target_after c.copy-left.ensures.count
