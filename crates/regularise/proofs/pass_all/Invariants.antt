-- The stream is right.
use Rattle.std.proofs.Common.{◌≡◌}
use Rattle.batches.specs.PieceCalls.{stream_check}
use Rattle.regularise.proofs.pass_all.Given as goal

abbrev pub invariant-loop : goal.invariant-loop
invariant-loop g l = stream_check l.stream l.held ≡ 0
