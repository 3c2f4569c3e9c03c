-- `frames::raised` meets its contract.
-- Assumes nothing.
use native.Mathlib.Omega.{arith}
use Rattle.frames.specs.Lines.{raised-no-client, raised-past, raised-full, raised-more}
use Rattle.frames.proofs.raised.Goals as goal

pub returns-then-client-lt1 : goal.returns-then-client-lt1
returns-then-client-lt1 c = let args = c.args in raised-no-client args.client args.counts c.if-client-lt1.true

pub returns-then-client-gt-CLIENTS : goal.returns-then-client-gt-CLIENTS
returns-then-client-gt-CLIENTS c = let args = c.args in raised-past args.client args.counts (omega arith) c.if-client-gt-CLIENTS.true

pub returns-then-count-ge-SHEETS : goal.returns-then-count-ge-SHEETS
returns-then-count-ge-SHEETS c =
    let args = c.args in
    raised-full args.client args.counts (omega arith) (omega arith) c.if-count-ge-SHEETS.true

pub returns : goal.returns
returns c =
    let args = c.args in
    raised-more args.client args.counts (omega arith) (omega arith) (omega arith)
