-- `log_steps::lowering::lowered` meets its contract.
-- Assumes nothing.
use native.Mathlib.Nat.{le_refl}
use mathlib.Core.Path.{◌≡◌, refl, sym, ◌∙◌, ap, subst}
use native.Mathlib.Omega.{arith}
use lib.Dec.{T}
use Rattle.std.proofs.lemmas.Result.{err_from_is_err_and}
use Rattle.lists.specs.Tests.{every}
use Rattle.refusals.specs.Refusals.{number-nonzero}
use Rattle.rules.specs.Limits.{small, most_span}
use Rattle.rules.specs.Rows.{shift_up, width}
use Rattle.rules.specs.Stores.{row_of}
use Rattle.rules.specs.Elimination.{limit_coefficients}
use Rattle.working_rows.specs.Working.{numbers_held, Full}
use Rattle.working_rows.specs.Worked.{refusal_of, worked_row}
use Rattle.working_rows.specs.Mirroring.{mirrored_of, full-mirrored, small-mirrored}
use Rattle.log_steps.specs.LoweredRows.{raised, lowered-refused, raised-full, raised-small, lowered-passed, lowered-worked}
use Rattle.log_steps.proofs.lowering.lowered.Goals as goal

pub mirrored-mirror-requires : goal.mirrored-mirror-requires
mirrored-mirror-requires c = (omega arith, c.requires.0, c.requires.1)

pub shifted-requires : goal.shifted-requires
shifted-requires c =
    let w = c.args.row in
    subst (λ v. Full v × T (every small (numbers_held v)) × (v.width ≡ width (row_of v.entries))) (sym c.mirrored-mirror.ensures) (
      full-mirrored most_span w (le_refl most_span) c.requires.0,
      small-mirrored most_span w (le_refl most_span) c.requires.0 c.requires.1,
      refl,
    )

pub returns-in_err-up : goal.returns-in_err-up
returns-in_err-up c =
    let exit = err_from_is_err_and c.from_residual.result c.from_residual.ensures.1 in
    let row = c.args.row in
    let full = c.requires.0 in
    let limit = ap (λ v. refusal_of (limit_coefficients (shift_up (row_of (numbers_held v))))) c.mirrored-mirror.ensures in
    let same = c.in_err-up.ensures.0 ∙ limit in
    rw (exit.1, exit.2) (same ∙ ap refusal_of (lowered-refused row full (λ e. number-nonzero c.in_err-up.field-0.0 (same ∙ e))), tt)

pub mirrored-requires : goal.mirrored-requires
mirrored-requires c =
    let row = c.args.row in
    let full = c.requires.0 in
    let limit = ap (λ v. limit_coefficients (shift_up (row_of (numbers_held v)))) c.mirrored-mirror.ensures in
    let passed : refusal_of (raised row full) ≡ 0 = sym (c.in_ok-up.ensures.0 ∙ ap refusal_of limit) in
    let up = sym (c.in_ok-up.ensures.1 ∙ ap worked_row limit) in (
      omega arith,
      subst Full up (raised-full row full passed),
      subst (λ v. T (every small (numbers_held v))) up (raised-small row full passed),
    )

pub returns : goal.returns
returns c =
    let row = c.args.row in
    let full = c.requires.0 in
    let limit = ap (λ v. limit_coefficients (shift_up (row_of (numbers_held v)))) c.mirrored-mirror.ensures in
    let passed : refusal_of (raised row full) ≡ 0 = sym (c.in_ok-up.ensures.0 ∙ ap refusal_of limit) in (
      lowered-passed row full passed,
      c.mirrored.ensures ∙ ap (mirrored_of most_span) (c.in_ok-up.ensures.1 ∙ ap worked_row limit) ∙ lowered-worked row full passed,
    )
