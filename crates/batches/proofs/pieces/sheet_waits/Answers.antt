-- `batches::pieces::sheet_waits` meets its contract: the tests tell what the bytes begin with.
-- Assumes nothing.
use Prim.Native.Nat.{ℕ, ◌≤◌}
use mathlib.Core.Path.{◌≡◌, sym, ap, subst}
use mathlib.Core.List.{List}
use lib.ListN.{length}
use Rattle.frames.specs.Pieces.{line_of, line-inside}
use Rattle.batches.specs.Moves.{look_is, line-waits, line-breaks}
use Rattle.batches.specs.PieceCalls.{is_waiting}
use Rattle.batches.specs.PieceSteps.{none-waits, size-waits}
use Rattle.batches.proofs.pieces.sheet_waits.Goals as goal
use Rattle.batches.proofs.pieces.sheet_waits.Goals.{After-line-line, Start}

pub returns-then-left-eq0 : goal.returns-then-left-eq0
returns-then-left-eq0 c = none-waits c.args.left c.args.bytes.now c.if-left-eq0.true

-- The line of the sheet has been read.
module _ (c : After-line-line) where
  abbrev start : Start
  start = (goal.at.After-line-line c).Start

  abbrev bytes : List ℕ
  bytes = start.args.bytes.now

  seen : c.line-line.result ≡ line_of bytes
  seen = c.line-line.ensures

  inside : c.line-line.result.taken ≤ length bytes
  inside = subst (λ v. v.taken ≤ length bytes) (sym seen) (line-inside bytes)

pub returns-then-line-eq4 : goal.returns-then-line-eq4
unfolding is_waiting
returns-then-line-eq4 c =
    let line = (goal.at.returns-then-line-eq4 c).After-line-line in
    ap is_waiting (sym (look_is (line-waits line.if-left-eq0.false (rw (← seen line) c.if-line-eq4.true))))

pub returns-then-line-ne0 : goal.returns-then-line-ne0
unfolding is_waiting
returns-then-line-ne0 c =
    let line = (goal.at.returns-then-line-ne0 c).After-line-line in
    ap is_waiting
    (sym (look_is (line-breaks line.if-left-eq0.false (rw (← seen line) c.if-line-eq4.false)
    (rw (← seen line) c.if-line-ne0.true))))

pub overflow_sub-result : goal.overflow_sub-result
overflow_sub-result c = inside (goal.at.overflow_sub-result c).After-line-line

pub returns : goal.returns
returns c =
    let line = (goal.at.returns c).After-line-line in
    size-waits (start line).args.left (bytes line) line.line-line.result (seen line) line.if-left-eq0.false
    c.if-line-ne0.false
