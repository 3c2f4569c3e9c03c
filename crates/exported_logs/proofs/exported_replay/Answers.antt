-- `exported_logs::exported_replay` meets its contract.
-- Assumes nothing.
use mathlib.Core.Path.{sym, ◌∙◌, ap}
use mathlib.Core.List.{List}
use Prim.Native.Nat.{ℕ}
use native.Mathlib.Omega.{arith}
use lib.IntN.{ℤ}
use Rattle.rules.specs.Stores.{Sizes}
use Rattle.stores.specs.Validity.{the_sizes_of}
use Rattle.runs.specs.CallLaws.{result_of, call_of}
use Rattle.export_results.specs.Results.{kept, kept_or}
use Rattle.exported_runs.specs.Runs.{run_numbers_of, refusal-same}
use Rattle.exported_logs.specs.LogNumbers.{replay-short, replay-small, replay-done}
use Rattle.exported_logs.proofs.exported_replay.Goals as goal
use Rattle.exported_logs.proofs.exported_replay.Goals.{Start}

-- the call
module _ (c : Start) where
  abbrev z : Sizes
  z = the_sizes_of c.args.sizes

  abbrev count : ℕ
  count = c.args.count

  abbrev steps : ℕ
  steps = c.args.steps

  abbrev log : List ℤ
  log = c.args.log.now

  abbrev rows : List ℤ
  rows = c.args.rows.now

  abbrev relations : List ℤ
  relations = c.args.relations.now

  abbrev result : List ℤ
  result = c.args.res.now

pub returns-then-res-lt-RUN : goal.returns-then-res-lt-RUN
unfolding kept
returns-then-res-lt-RUN c =
    let s = (goal.at.returns-then-res-lt-RUN c).Start in
    replay-short (z s) (count s) (steps s) (log s) (rows s) (relations s) (result s) c.too_short.ensures c.if-res-lt-RUN.true

pub put_run-requires : goal.put_run-requires
unfolding call_of
put_run-requires c =
    let s = (goal.at.put_run-requires c).Start in
    (omega arith, replay-small (z s) (count s) (steps s) (log s) (rows s) (relations s) c.replay-answer.ensures)

pub returns : goal.returns
unfolding call_of
returns c =
    let s = (goal.at.returns c).Start in
    let same = refusal-same c.replay-answer.result in
    (λ i. record {
      refusal = (c.number_in.ensures ∙ sym same) i;
      row_store = c.replay-answer.new.rows;
      relation_store = c.replay-answer.new.relations;
      result_store = c.put_run.new.res;
    })
    ∙ replay-done (z s) (count s) (steps s) (log s) (rows s) (relations s) (result s) c.replay-answer.ensures
    (c.put_run.ensures ∙ ap (λ n. kept_or n (run_numbers_of (result_of c.replay-answer.result)) (result s)) (sym same)) (omega arith)
