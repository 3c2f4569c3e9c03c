-- `log_steps::changing::lower_row` meets its contract.
-- Assumes nothing.
use mathlib.Core.Path.{refl, sym, ◌∙◌, ap, subst}
use lib.Dec.{T}
use Rattle.std.proofs.lemmas.Result.{err_from_is_err_and}
use Rattle.lists.specs.Tests.{every}
use Rattle.rules.specs.Limits.{small}
use Rattle.rules.specs.Stores.{row_of}
use Rattle.rules.specs.Elimination.{Limited, limit_coefficients}
use Rattle.theory.specs.ShiftDown.{shift_down}
use Rattle.refusals.specs.Refusals.{number_of}
use Rattle.working_rows.specs.Worked.{Shown}
use Rattle.reduction.specs.Progress.{answer_of}
use Rattle.reduction.specs.NewRows.{full-limited, saved-limited}
use Rattle.reduction.specs.StoreExchange.{numbers_at, length-numbers_at, small-numbers_at}
use Rattle.log_steps.specs.Logs.{lowering}
use Rattle.log_steps.specs.StoreChanges.{Losing, begun-room, stepped_same, lowered-storable}
use Rattle.log_steps.proofs.StoreChanges.{step-refused, lower-unlost, lower-allowed, lower-stepped}
use Rattle.log_steps.proofs.changing.lower_row.Goals as goal
use Rattle.log_steps.proofs.changing.lower_row.Goals.{After-lowered}

pub returns-in_err-row : goal.returns-in_err-row
returns-in_err-row c =
    let exit = err_from_is_err_and c.from_residual.result c.from_residual.ensures.1 in
    let wrong = c.in_err-row.ensures in
    rw (exit.1, exit.2) (λ relations ready. stepped_same refl (ap (λ s. answer_of (number_of s.refusal) s.progress) wrong.0) refl
    (step-refused c.args.span ready c.requires.0.unsettled (lowering c.args.i)
    (lower-unlost c.args.span ready c.requires.0.unsettled c.args.i wrong.1)))

pub lowered-requires : goal.lowered-requires
lowered-requires c =
    let losing : Losing c.args.rows.now c.args.p c.args.i c.args.span c.in_ok-row.row = c.in_ok-row.ensures in (
      losing.loaded.full,
      subst (λ l. T (every small l)) (sym losing.loaded.numbers)
          (small-numbers_at c.args.p.rows c.args.rows.now c.requires.0.rows-within c.args.i losing.inside),
    )

-- the row is shifted
module _ (c : After-lowered) where
  losing : Losing c.args.rows.now c.args.p c.args.i c.args.span c.in_ok-row.row
  losing = c.in_ok-row.ensures

  abbrev new : Limited
  new = limit_coefficients (shift_down (row_of (numbers_at c.args.rows.now c.args.i)))

  shown : Shown c.lowered.result new
  shown = subst (λ l. Shown c.lowered.result (limit_coefficients (shift_down (row_of l)))) losing.loaded.numbers c.lowered.ensures

pub put_limited-requires : goal.put_limited-requires
put_limited-requires c = (
  begun-room c.requires.0 c.args.i (losing c).inside,
  full-limited (new c) (lowered-storable (numbers_at c.args.rows.now c.args.i)
      (length-numbers_at c.args.p.rows c.args.rows.now c.requires.0.rows-within c.args.i (losing c).inside)) c.lowered.result (shown c),
)

pub returns : goal.returns
returns c =
    let d = (goal.at.returns c).After-lowered in
    let rows = c.args.rows.now in
    let i = c.args.i in
    let span = c.args.span in
    let first = c.requires.0.unsettled in
    λ relations ready.
    stepped_same (c.put_limited.ensures.rows_after ∙ saved-limited rows i (new d) d.lowered.result (shown d))
    (c.put_limited.ensures.value ∙ ap (λ n. answer_of n c.args.p) (shown d).0) refl
    (lower-stepped span ready first i (losing d).inside (lower-allowed span ready first i (losing d).inside ∙ (losing d).lost))
