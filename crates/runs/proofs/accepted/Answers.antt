-- `runs::accepted` meets its contract.
-- Assumes nothing.
use native.Mathlib.Omega.{arith}
use Rattle.sides.specs.Lent.{side_of}
use Rattle.runs.specs.CallLaws.{result_of, accepted-result}
use Rattle.runs.proofs.accepted.Goals as goal

pub returns : goal.returns
unfolding result_of
returns c =
    λ relations.
    accepted-result (side_of c.args.side) c.args.span c.args.rows.now relations c.args.p c.counted.result
    c.report-report.result c.requires.span_bound.3 (omega (arith, c.requires.span_bound.1, c.requires.order_len.0)) c.counted.ensures
    c.report-report.ensures
