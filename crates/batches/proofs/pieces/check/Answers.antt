-- `batches::pieces::check` meets its contract.
-- Assumes nothing.
use native.Mathlib.Omega.{arith}
use mathlib.Core.Path.{◌≡◌, sym, ◌∙◌}
use mathlib.Core.Bool.{true}
use borrow.Author.Tests.{le-leb, lt-leb}
use lib.ListN.{length}
use lib.Seq.{length-take-le}
use Rattle.batches.specs.PieceCalls.{held_need, stream_right_of, stream_check}
use Rattle.batches.specs.PieceSteps.{right-few}
use Rattle.batches.proofs.pieces.check.Goals as goal
use Rattle.batches.proofs.pieces.check.Goals.{Else-not-stream_right}

-- The sizes are right.
right : (c : Else-not-stream_right) → stream_right_of c.args.s ≡ true
right c = sym c.stream_right.ensures ∙ c.if-not-stream_right.false

pub returns-then-not-stream_right : goal.returns-then-not-stream_right
unfolding stream_check
returns-then-not-stream_right c = rw (sym c.stream_right.ensures ∙ c.if-not-stream_right.true)

pub returns-then-held-lt-HELD : goal.returns-then-held-lt-HELD
unfolding stream_check
returns-then-held-lt-HELD c =
    let args = c.args in
    rw (right (goal.at.returns-then-held-lt-HELD c).Else-not-stream_right, lt-leb held_need (length args.held.now) c.if-held-lt-HELD.true)

pub slice_bounds-waits_with-end : goal.slice_bounds-waits_with-end
slice_bounds-waits_with-end c =
    let args = c.args in
    sym (length-take-le args.s.held args.held.now
    (omega (arith, right-few args.s (right (goal.at.slice_bounds-waits_with-end c).Else-not-stream_right), c.if-held-lt-HELD.false)))

pub returns-then-waits_with : goal.returns-then-waits_with
unfolding stream_check
returns-then-waits_with c =
    let args = c.args in
    rw (
      right (goal.at.returns-then-waits_with c).Else-not-stream_right,
      le-leb held_need (length args.held.now)
          c.if-held-lt-HELD.false,
      sym c.waits_with.ensures ∙ c.if-waits_with.true,
    )

pub returns : goal.returns
unfolding stream_check
returns c =
    let args = c.args in
    rw (
      right (goal.at.returns c).Else-not-stream_right,
      le-leb held_need (length args.held.now)
          c.if-held-lt-HELD.false,
      sym c.waits_with.ensures ∙ c.if-waits_with.false,
    )
