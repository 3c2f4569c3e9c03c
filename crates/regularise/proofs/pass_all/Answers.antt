use Rattle.std.proofs.Common.{ap, ◌∙◌}
use Rattle.batches.specs.PieceCalls.{stream_check}
use Rattle.batches.specs.PieceLaws.{start_right, right-check}
use Rattle.regularise.proofs.pass_all.Goals as goal

-- A batch begins with a stream that is right.
pub loop-init : goal.loop-init
loop-init g c =
    ap (λ s. stream_check s c.args.held.now) c.start-stream.ensures ∙ right-check _ _ (start_right _ c.requires.0)
