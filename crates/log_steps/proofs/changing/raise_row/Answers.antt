-- `log_steps::changing::raise_row` meets its contract.
-- Assumes nothing.
use mathlib.Core.Path.{refl, sym, ◌∙◌, ap, subst}
use lib.Dec.{T}
use Rattle.std.proofs.lemmas.Result.{err_from_is_err_and}
use Rattle.lists.specs.Tests.{every}
use Rattle.rules.specs.Limits.{small}
use Rattle.rules.specs.Elimination.{Limited}
use Rattle.refusals.specs.Refusals.{number_of}
use Rattle.working_rows.specs.Worked.{Shown}
use Rattle.reduction.specs.Progress.{answer_of, shifted_progress}
use Rattle.reduction.specs.NewRows.{shifted-storable, full-limited, saved-limited}
use Rattle.reduction.specs.StoreExchange.{numbers_at, length-numbers_at, small-numbers_at}
use Rattle.reduction.specs.StepLaws.{shifted_row_of}
use Rattle.log_steps.specs.Logs.{raising}
use Rattle.log_steps.specs.StoreChanges.{Losing, begun-room, stepped_same}
use Rattle.log_steps.proofs.StoreChanges.{step-refused, raise-unlost, raise-allowed, raise-stepped}
use Rattle.log_steps.proofs.changing.raise_row.Goals as goal
use Rattle.log_steps.proofs.changing.raise_row.Goals.{After-shifted}

pub returns-in_err-row : goal.returns-in_err-row
returns-in_err-row c =
    let exit = err_from_is_err_and c.from_residual.result c.from_residual.ensures.1 in
    let wrong = c.in_err-row.ensures in
    rw (exit.1, exit.2) (λ D relations ready. stepped_same refl (ap (λ s. answer_of (number_of s.refusal) s.progress) wrong.0) refl
    (step-refused D ready c.requires.0.unsettled (raising c.args.i) (raise-unlost D ready c.requires.0.unsettled c.args.i wrong.1)))

pub shifted-requires : goal.shifted-requires
shifted-requires c =
    let losing : Losing c.args.rows.now c.args.p c.args.i 0 c.in_ok-row.row = c.in_ok-row.ensures in (
      losing.loaded.full,
      subst (λ l. T (every small l)) (sym losing.loaded.numbers)
          (small-numbers_at c.args.p.rows c.args.rows.now c.requires.0.rows-within c.args.i losing.inside),
      losing.wide,
    )

-- the row is shifted
module _ (c : After-shifted) where
  losing : Losing c.args.rows.now c.args.p c.args.i 0 c.in_ok-row.row
  losing = c.in_ok-row.ensures

  abbrev new : Limited
  new = shifted_row_of (numbers_at c.args.rows.now c.args.i)

  shown : Shown c.shifted.result new
  shown = subst (λ l. Shown c.shifted.result (shifted_row_of l)) losing.loaded.numbers c.shifted.ensures

pub put_limited-requires : goal.put_limited-requires
put_limited-requires c = (
  begun-room c.requires.0 c.args.i (losing c).inside,
  full-limited (new c) (shifted-storable (numbers_at c.args.rows.now c.args.i)
      (length-numbers_at c.args.p.rows c.args.rows.now c.requires.0.rows-within c.args.i (losing c).inside)) c.shifted.result (shown c),
)

pub returns : goal.returns
returns c =
    let d = (goal.at.returns c).After-shifted in
    let rows = c.args.rows.now in
    let i = c.args.i in
    let next = shifted_progress c.args.p in
    let first = c.requires.0.unsettled in
    λ D relations ready.
    stepped_same (c.put_limited.ensures.rows_after ∙ saved-limited rows i (new d) d.shifted.result (shown d))
    (c.put_limited.ensures.value ∙ ap (λ n. answer_of n next) (shown d).0) refl
    (raise-stepped D ready first i (losing d).inside (raise-allowed D ready first i (losing d).inside ∙ (losing d).lost))
