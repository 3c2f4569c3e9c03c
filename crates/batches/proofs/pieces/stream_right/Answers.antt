-- `batches::pieces::stream_right` meets its contract.
-- Assumes nothing.
use Prim.Native.Nat.{◌+◌}
use native.Mathlib.Omega.{arith}
use borrow.Author.Tests.{le-leb, lt-leb}
use Rattle.frames.specs.Pieces.{accepted_in, refused_in}
use Rattle.batches.specs.PieceCalls.{stream_right_of}
use Rattle.batches.proofs.pieces.stream_right.Goals as goal

pub returns-then-left-gt-SHEETS : goal.returns-then-left-gt-SHEETS
unfolding stream_right_of
returns-then-left-gt-SHEETS c =
    let b = c.args.s.batch in
    rw (lt-leb (b.left + accepted_in b + refused_in b) 1000 (omega arith))

pub returns-then-left-in_all-le-SHEETS : goal.returns-then-left-in_all-le-SHEETS
unfolding stream_right_of
returns-then-left-in_all-le-SHEETS c =
    let b = c.args.s.batch in
    rw (le-leb (b.left + accepted_in b + refused_in b) 1000 (omega arith))

pub returns-else-left-in_all-le-SHEETS : goal.returns-else-left-in_all-le-SHEETS
unfolding stream_right_of
returns-else-left-in_all-le-SHEETS c =
    let b = c.args.s.batch in
    rw (
      lt-leb (b.left + c.in_all.result + c.in_all-2.result) 1000 (omega arith),
      lt-leb (b.left + accepted_in b + refused_in b) 1000 (omega arith),
    )
