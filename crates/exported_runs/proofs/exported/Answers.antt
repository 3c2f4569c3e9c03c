-- `exported_runs::exported` meets its contract.
-- Assumes nothing.
use mathlib.Core.Path.{sym, ◌∙◌, ap}
use mathlib.Core.List.{List}
use native.Mathlib.Omega.{arith}
use lib.IntN.{ℤ}
use Rattle.rules.specs.Elimination.{Side}
use Rattle.rules.specs.Stores.{Sizes}
use Rattle.sides.specs.Lent.{side_of}
use Rattle.stores.specs.Validity.{the_sizes_of}
use Rattle.runs.specs.CallLaws.{result_of, call_of}
use Rattle.export_results.specs.Results.{kept, kept_or}
use Rattle.exported_runs.specs.Runs.{run_numbers_of, run_short, run_small, run-done, refusal-same}
use Rattle.exported_runs.proofs.exported.Goals as goal
use Rattle.exported_runs.proofs.exported.Goals.{Start}

-- the call
module _ (c : Start) where
  abbrev side : Side
  side = side_of c.args.side

  abbrev z : Sizes
  z = the_sizes_of c.args.sizes

  abbrev rows : List ℤ
  rows = c.args.rows.now

  abbrev relations : List ℤ
  relations = c.args.relations.now

pub returns-then-res-lt10 : goal.returns-then-res-lt10
unfolding kept
returns-then-res-lt10 c =
    let start = (goal.at.returns-then-res-lt10 c).Start in
    ap (λ n. kept n (rows start) (relations start) start.args.res.now) (c.number_in.ensures ∙ c.check_stores-checked.ensures)
    ∙ run_short (side start) (z start) start.args.count (rows start) (relations start) start.args.res.now
    c.if-res-lt10.true

pub put_run-requires : goal.put_run-requires
unfolding call_of
put_run-requires c =
    let start = (goal.at.put_run-requires c).Start in
    (omega arith, run_small (side start) (z start) start.args.count (rows start) (relations start) c.run-answer.ensures)

pub returns : goal.returns
unfolding call_of
returns c =
    let start = (goal.at.returns c).Start in
    let same = refusal-same c.run-answer.result in
    (λ i. record {
      refusal = (c.number_in-2.ensures ∙ sym same) i;
      row_store = c.run-answer.new.rows;
      relation_store = c.run-answer.new.relations;
      result_store = c.put_run.new.res;
    })
    ∙ run-done (side start) (z start) start.args.count (rows start) (relations start) start.args.res.now c.run-answer.ensures
    (c.put_run.ensures ∙ ap (λ n. kept_or n (run_numbers_of (result_of c.run-answer.result)) start.args.res.now) (sym same)) (omega arith)
