-- `reduction::step::shift_step` meets its contract.
-- Assumes nothing.
use mathlib.Core.Path.{◌≡◌, sym, ◌∙◌, ap, subst}
use Prim.Native.Nat.{ℕ, ◌*◌}
use mathlib.Core.List.{List}
use lib.Dec.{T}
use lib.IntN.{ℤ}
use Rattle.lists.specs.Tests.{every}
use Rattle.rules.specs.Elimination.{Limited}
use Rattle.rules.specs.Limits.{row_length, small}
use Rattle.working_rows.specs.declared.WorkingRow.{WorkingRow}
use Rattle.working_rows.specs.Working.{numbers_held, Full, full-loaded, numbers-loaded, length-held, width-of}
use Rattle.working_rows.specs.Worked.{refusal_of, numbers_of}
use Rattle.reduction.specs.NewRows.{saved, shifted-storable, full-limited, saved-limited}
use Rattle.reduction.specs.StepLaws.{shifted_row_of}
use Rattle.reduction.specs.Progress.{answer_of, shifted_progress}
use Rattle.reduction.specs.StoreExchange.{numbers_at}
use Rattle.reduction.proofs.step.shift_step.Goals as goal
use Rattle.reduction.proofs.step.shift_step.Goals.{After-load-row}

-- the row that is loaded
module _ (c : After-load-row) where
  abbrev rows : List ℤ
  rows = c.args.rows.now

  abbrev at : ℕ
  at = c.args.p.settled * row_length

  abbrev row : WorkingRow
  row = c.load-row.result

  held : numbers_held row ≡ numbers_at rows c.args.p.settled
  held = ap numbers_held c.load-row.ensures ∙ numbers-loaded rows at

  full : Full row
  full = subst Full (sym c.load-row.ensures) (full-loaded rows at c.requires.0)

  abbrev new : Limited
  new = shifted_row_of (numbers_held row)

pub shifted-requires : goal.shifted-requires
shifted-requires c =
    let l = (goal.at.shifted-requires c).After-load-row in
    (full l, subst (λ l. T (every small l)) (sym (held l)) c.requires.1, width-of c.load-row.result _ _ c.load-row.ensures)

pub put_limited-requires : goal.put_limited-requires
put_limited-requires c =
    let l = (goal.at.put_limited-requires c).After-load-row in
    (c.requires.0, full-limited (new l) (shifted-storable (numbers_held (row l)) (length-held (row l) (full l))) c.shifted.result c.shifted.ensures)

pub returns : goal.returns
returns c =
    let l = (goal.at.returns c).After-load-row in
    let new-is : new l ≡ shifted_row_of (numbers_at c.args.rows.now c.args.p.settled) = ap shifted_row_of (held l) in
    record {
      rows_after = c.put_limited.ensures.rows_after ∙ saved-limited c.args.rows.now c.args.p.settled (new l) c.shifted.result c.shifted.ensures
          ∙ ap (λ x. saved c.args.rows.now c.args.p.settled (refusal_of x) (numbers_of x)) new-is;
      value = c.put_limited.ensures.value ∙ ap (λ n. answer_of n (shifted_progress c.args.p)) (c.shifted.ensures.0 ∙ ap refusal_of new-is);
    }
