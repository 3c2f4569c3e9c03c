-- The place lies in the piece, and the stream is right; each call takes some bytes.
use Rattle.std.proofs.Common.{length, ◌≡◌, ◌-◌, ◌≤◌}
use Rattle.batches.specs.PieceCalls.{stream_check}
use Rattle.regularise.proofs.pass.Given as goal

abbrev pub invariant-loop-at : goal.invariant-loop-at
invariant-loop-at g l = (l.at ≤ length l.input) × (stream_check l.stream l.held ≡ 0)

abbrev pub decreases-loop-at : goal.decreases-loop-at
decreases-loop-at g l = length l.input - l.at
