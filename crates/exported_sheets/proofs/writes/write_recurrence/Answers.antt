-- `exported_sheets::writes::write_recurrence` meets its contract: the length of a sheet, 0 on a refusal, is at most that of the byte store.
-- Assumes nothing.
use Prim.Native.Nat.{ℕ, ◌^◌, ◌≤◌, ◌<◌}
use native.Mathlib.Nat.{lt_of_le_of_lt}
use native.Mathlib.Omega.{arith}
use mathlib.Core.Path.{refl, sym, ◌∙◌, ap}
use mathlib.Core.List.{List, [], ◌∷◌}
use lib.IntN.{ℤ, pos}
use lib.ListN.{length, set}
use mir.Syntax.{w64}
use mir.Facts.{to_z_pos}
use Rattle.integers.specs.Ranges.{sfits-size}
use Rattle.refusals.specs.Refusals.{number_of, number-nonzero}
use Rattle.lists.specs.Overwritten.{set-overwrite}
use Rattle.lists.specs.Taken.{none_before}
use Rattle.export_results.specs.Results.{on_acceptance-none, on_acceptance-some}
use Rattle.exported_sheets.specs.Writes.{not_written, write-same}
use Rattle.differential.specs.SheetCalls.{recurrence-length}
use Rattle.exported_sheets.specs.Differentials.{recurrence-short, recurrence-done}
use Rattle.exported_sheets.proofs.writes.write_recurrence.Goals as goal
use Rattle.exported_sheets.proofs.writes.write_recurrence.Goals.{In-Ok, Start}

-- the stores
module _ (c : Start) where
  abbrev sheet : List ℕ
  sheet = c.args.sheet.now

  abbrev bytes : List ℕ
  bytes = c.args.bytes.now

  abbrev result : List ℤ
  result = c.args.res.now

pub returns-then-res-lt1 : goal.returns-then-res-lt1
unfolding not_written
returns-then-res-lt1 c =
    let call = c.write_recurrence-judged in
    let s = (goal.at.returns-then-res-lt1 c).Start in
    (λ i. record {
      refusal = (c.number_in.ensures ∙ sym (write-same call.result call.new.bytes) ∙ ap (λ x. x.refusal) call.ensures) i;
      byte_store = none_before call.new.bytes (bytes s) call.auto.bytes i;
      result_store = result s;
    })
    ∙ recurrence-short (sheet s) (bytes s) (result s) c.if-res-lt1.true

-- The sheet has been written.
module _ (c : In-Ok) where
  size : c.in-Ok.length ≤ length (bytes (goal.at.In-Ok c).Start)
  size = recurrence-length (sheet (goal.at.In-Ok c).Start) (bytes (goal.at.In-Ok c).Start) c.in-Ok.ensures

  small : length (bytes (goal.at.In-Ok c).Start) < 2 ^ 63
  small = omega arith

pub overflow_cast-res : goal.overflow_cast-res
overflow_cast-res c =
    let w = (goal.at.overflow_cast-res c).In-Ok in
    sfits-size (pos c.in-Ok.length) (size w) (small w)

pub returns-in-Ok : goal.returns-in-Ok
returns-in-Ok c =
    let w = (goal.at.returns-in-Ok c).In-Ok in
    let s = (goal.at.returns-in-Ok c).Start in
    let number = to_z_pos w64 (lt_of_le_of_lt (size w) (small w)) in
    (λ i. record { refusal = 0; byte_store = c.write_recurrence.new.bytes; result_store = set (result s) 0 (number i) })
    ∙ recurrence-done (sheet s) (bytes s) (result s) c.in-Ok.ensures
    (set-overwrite (result s) (pos c.in-Ok.length) c.if-res-lt1.false
    ∙ on_acceptance-some 0 (pos c.in-Ok.length ∷ []) (result s) refl) c.if-res-lt1.false

pub returns-in-Err : goal.returns-in-Err
returns-in-Err c =
    let s = (goal.at.returns-in-Err c).Start in
    (λ i. record { refusal = c.number.ensures i; byte_store = c.write_recurrence.new.bytes; result_store = result s })
    ∙ recurrence-done (sheet s) (bytes s) (result s) c.in-Err.ensures
    (on_acceptance-none (number_of c.in-Err.refusal) (pos 0 ∷ []) (result s) (number-nonzero c.in-Err.refusal)) c.if-res-lt1.false
