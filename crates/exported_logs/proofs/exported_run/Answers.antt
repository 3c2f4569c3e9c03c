-- `exported_logs::exported_run` meets its contract.
-- Assumes nothing.
use mathlib.Core.Path.{sym, ◌∙◌, ap}
use mathlib.Core.List.{List, [], ◌∷◌, ◌++◌}
use lib.IntN.{pos}
use Rattle.export_results.specs.Results.{kept_or}
use Rattle.exported_runs.specs.Runs.{run_numbers_of, refusal-same}
use Prim.Native.Nat.{ℕ}
use native.Mathlib.Omega.{arith}
use lib.IntN.{ℤ}
use Rattle.rules.specs.Stores.{Sizes}
use Rattle.stores.specs.Validity.{the_sizes_of}
use Rattle.runs.specs.CallLaws.{result_of, call_of}
use Rattle.exported_logs.specs.LogNumbers.{logged_kept, logged_numbers, logged-short, logged-small, logged-done}
use Rattle.exported_logs.proofs.exported_run.Goals as goal
use Rattle.exported_logs.proofs.exported_run.Goals.{Start}

-- the call
module _ (c : Start) where
  abbrev z : Sizes
  z = the_sizes_of c.args.sizes

  abbrev count : ℕ
  count = c.args.count

  abbrev log : List ℤ
  log = c.args.log.now

  abbrev rows : List ℤ
  rows = c.args.rows.now

  abbrev relations : List ℤ
  relations = c.args.relations.now

  abbrev result : List ℤ
  result = c.args.res.now

pub returns-then-res-lt-LOGGED : goal.returns-then-res-lt-LOGGED
unfolding logged_kept
returns-then-res-lt-LOGGED c =
    let s = (goal.at.returns-then-res-lt-LOGGED c).Start in
    logged-short (z s) (count s) (log s) (rows s) (relations s) (result s) c.too_short.ensures c.if-res-lt-LOGGED.true

pub put_logged-requires : goal.put_logged-requires
unfolding call_of
put_logged-requires c =
    let s = (goal.at.put_logged-requires c).Start in
    let small = logged-small (z s) (count s) (log s) (rows s) (relations s) c.run_logged-answer.ensures in
    (omega arith, small.run, small.few-steps)

pub returns : goal.returns
unfolding call_of logged_numbers
returns c =
    let s = (goal.at.returns c).Start in
    let answer = c.run_logged-answer.result in
    let same = refusal-same answer.run in
    (λ i. record {
      refusal = (c.number_in.ensures ∙ sym same) i;
      row_store = c.run_logged-answer.new.rows;
      relation_store = c.run_logged-answer.new.relations;
      log_store = c.run_logged-answer.new.log;
      result_store = c.put_logged.new.res;
    })
    ∙ logged-done (z s) (count s) (log s) (rows s) (relations s) (result s) c.run_logged-answer.ensures
    (c.put_logged.ensures
    ∙ ap (λ n. kept_or n (run_numbers_of (result_of answer.run) ++ (pos answer.steps ∷ [])) (result s)) (sym same)) (omega arith)
