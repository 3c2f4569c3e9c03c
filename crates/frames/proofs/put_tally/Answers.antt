-- `frames::put_tally` meets its contract. The loop's invariant: the lines of the clients from i on are still to be written.
-- Assumes nothing.
use mathlib.Core.Path.{refl}
use native.Mathlib.Omega.{arith}
use Rattle.rules.specs.Batch.{Tally, tally_lines}
use Rattle.number_texts.specs.Runs.{going-first, going_next, going-last}
use Rattle.frames.specs.Lines.{lines_next, lines_end}
use Rattle.frames.proofs.put_tally.Goals as goal

pub loop-i-init : goal.loop-i-init
unfolding tally_lines
loop-i-init c = going-first refl

pub loop-i-preserved : goal.loop-i-preserved
loop-i-preserved c =
    let args = c.args in
    let y : Tally = record { accepted = args.accepted; refused = args.refused } in
    going_next c.loop-i.invariant (lines_next y c.loop-i.i (omega arith)) c.put_pair-at.ensures (omega arith)

pub returns : goal.returns
returns c =
    let args = c.args in
    let y : Tally = record { accepted = args.accepted; refused = args.refused } in
    going-last c.loop-i.invariant (lines_end y c.loop-i.i (omega arith)) (omega arith)
