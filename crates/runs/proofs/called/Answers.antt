-- `runs::called` meets its contract.
-- Assumes nothing.
use mathlib.Core.Path.{◌≡◌, sym, ◌∙◌, ap}
use Rattle.rules.specs.Stores.{Sizes, span, check_stores_of}
use Rattle.stores.specs.Validity.{the_sizes_of}
use Rattle.sides.specs.Lent.{side_of}
use Rattle.std.proofs.lemmas.Result.{err_from_is_err_and}
use Rattle.reduction.specs.Progress.{start_progress, final_answer, outcome-run}
use Rattle.runs.specs.CallLaws.{result_after_of, Checked, checked, final-run, final-in, call-run, call-refused}
use Rattle.runs.proofs.called.Goals as goal
use Rattle.runs.proofs.called.Goals.{In_ok-check_stores}

pub returns-in_err-check_stores : goal.returns-in_err-check_stores
returns-in_err-check_stores c =
    let exit = err_from_is_err_and c.from_residual.result c.from_residual.ensures.1 in
    rw (exit.1, exit.2)
    (call-refused (side_of c.args.side) (the_sizes_of c.args.sizes) c.args.count c.args.rows.now c.args.relations.now c.in_err-check_stores.field-0.0
    c.in_err-check_stores.ensures)

-- the stores have passed the checks
module _ (c : In_ok-check_stores) where
  abbrev z : Sizes
  z = the_sizes_of c.args.sizes

  passes : check_stores_of z c.args.count c.args.rows.now c.args.relations.now ≡ 0
  passes = sym c.in_ok-check_stores.ensures

  stores : Checked z c.args.count c.args.rows.now c.args.relations.now
  stores = checked z c.args.count c.args.rows.now c.args.relations.now passes

pub checked_run-run-requires : goal.checked_run-run-requires
checked_run-run-requires c = passes (goal.at.checked_run-run-requires c).In_ok-check_stores

pub ended-requires : goal.ended-requires
ended-requires c =
    let s = stores (goal.at.ended-requires c).In_ok-check_stores in
    let equations = c.args.sizes.equations in
    let run = c.checked_run-run.result in (
      s.sizes,
      final-in (start_progress equations 0) run
          (final-run (side_of c.args.side) (the_sizes_of c.args.sizes) c.args.count c.args.rows.now c.args.relations.now _ _ (final_answer equations run) s
          c.checked_run-run.ensures),
    )

pub returns : goal.returns
returns c =
    let side = side_of c.args.side in
    let sizes = the_sizes_of c.args.sizes in
    let equations = c.args.sizes.equations in
    let run = c.checked_run-run.result in
    call-run side sizes c.args.count c.args.rows.now c.args.relations.now _ _ (final_answer equations run) c.ended.result
    (passes (goal.at.returns c).In_ok-check_stores) c.checked_run-run.ensures
    (c.ended.ensures c.checked_run-run.new.relations
    ∙ ap (result_after_of side (span sizes)) (outcome-run c.checked_run-run.new.rows c.checked_run-run.new.relations run (start_progress equations 0)))
