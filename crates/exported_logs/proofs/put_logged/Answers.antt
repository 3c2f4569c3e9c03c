-- `exported_logs::put_logged` meets its contract: the steps stand behind the ten numbers of a run.
-- Assumes nothing.
use mathlib.Core.Path.{◌≡◌, sym, ◌∙◌, ap}
use mathlib.Core.List.{List, [], ◌∷◌, ◌++◌}
use native.Mathlib.Omega.{arith}
use lib.IntN.{ℤ, pos}
use lib.ListN.{length, set, length-append, length-map}
use mir.Syntax.{w64}
use mir.Val.{to_z}
use Rattle.std.specs.Prelude.{◌&&◌, leb}
use Rattle.refusals.specs.Refusals.{refusal_in}
use Rattle.lists.specs.Overwritten.{overwrite}
use Rattle.runs.specs.CallLaws.{result_of}
use Rattle.export_results.specs.Results.{count-value}
use Rattle.exported_runs.specs.Runs.{run_numbers_of}
use Rattle.export_results.specs.Results.{early, kept-early, kept-late}
use Rattle.exported_logs.specs.LogNumbers.{number_behind}
use Rattle.exported_logs.proofs.put_logged.Goals as goal
use Rattle.exported_logs.proofs.put_logged.Goals.{After-counted, Start}

-- the test, as `rules` has the numbers of refusals
tested : (c : After-counted) → c.counted.result ≡ early (refusal_in c.args.run)
unfolding early
tested c = c.counted.ensures ∙ ap (λ n. leb 1 n && leb n 5) c.number_in.ensures

-- the ten numbers of the run, and the eleven of the call
module _ (c : Start) where
  abbrev ten : List ℤ
  ten = run_numbers_of (result_of c.args.run)

  abbrev all : List ℤ
  all = ten ++ (pos c.args.steps ∷ [])

  abbrev result : List ℤ
  result = c.args.res.now

  ten-numbers : length ten ≡ 10
  unfolding run_numbers_of
  ten-numbers = simp (length-append, length-map) (omega (arith, c.requires.1.four))

  behind : set (overwrite ten result) 10 (pos c.args.steps) ≡ overwrite all result
  behind =
      ap (λ n. set (overwrite ten result) n (pos c.args.steps)) (sym ten-numbers)
      ∙ number_behind ten result (pos c.args.steps) (omega (arith, ten-numbers, c.requires.0))

pub returns-then-counted : goal.returns-then-counted
returns-then-counted c =
    let after = (goal.at.returns-then-counted c).After-counted in
    let start = (goal.at.returns-then-counted c).Start in
    kept-early (refusal_in start.args.run) (all start) (result start) (sym (tested after) ∙ c.if-counted.true)

pub returns : goal.returns
returns c =
    let start = (goal.at.returns c).Start in
    ap (λ l. set l 10 (to_z w64 start.args.steps))
    (c.put.ensures ∙ ap (λ l. overwrite l (result start)) c.run_numbers-numbers.ensures)
    ∙ ap (set (overwrite (ten start) (result start)) 10) (count-value start.args.steps start.requires.2)
    ∙ behind start
    ∙ kept-late (refusal_in start.args.run) (all start) (result start) (sym (tested (goal.at.returns c).After-counted) ∙ c.if-counted.false)
