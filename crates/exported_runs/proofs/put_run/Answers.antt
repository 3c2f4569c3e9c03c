-- `exported_runs::put_run` meets its contract.
-- Assumes nothing.
use mathlib.Core.Path.{◌≡◌, sym, ◌∙◌, ap}
use Rattle.std.specs.Prelude.{◌&&◌, leb}
use Rattle.refusals.specs.Refusals.{refusal_in}
use Rattle.lists.specs.Overwritten.{overwrite}
use Rattle.runs.specs.CallLaws.{result_of}
use Rattle.exported_runs.specs.Runs.{run_numbers_of}
use Rattle.export_results.specs.Results.{early, kept-early, kept-late}
use Rattle.exported_runs.proofs.put_run.Goals as goal
use Rattle.exported_runs.proofs.put_run.Goals.{After-counted}

-- the test, as `rules` has the numbers of refusals
tested : (c : After-counted) → c.counted.result ≡ early (refusal_in c.args.run)
unfolding early
tested c = c.counted.ensures ∙ ap (λ n. leb 1 n && leb n 5) c.number_in.ensures

pub returns-then-counted : goal.returns-then-counted
returns-then-counted c =
    let args = c.args in
    kept-early (refusal_in args.run) (run_numbers_of (result_of args.run)) args.res.now
    (sym (tested (goal.at.returns-then-counted c).After-counted) ∙ c.if-counted.true)

pub returns : goal.returns
returns c =
    let args = c.args in
    c.put.ensures
    ∙ ap (λ l. overwrite l args.res.now) c.run_numbers-numbers.ensures
    ∙ kept-late (refusal_in args.run) (run_numbers_of (result_of args.run)) args.res.now
    (sym (tested (goal.at.returns c).After-counted) ∙ c.if-counted.false)
