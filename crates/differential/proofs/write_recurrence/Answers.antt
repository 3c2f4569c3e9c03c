-- `differential::write_recurrence` meets its contract: the sheet is refused, or its recurrence passes the checks of the writer, and the
-- writer writes it.
-- Assumes nothing.
use Rattle.std.proofs.Common.{refl, sym, ap, ◌∙◌, List, ℤ}
use Rattle.std.proofs.lemmas.Result.{err_from_is_err_and}
use Rattle.rules.specs.Calls.{zeros}
use Rattle.rules.specs.SheetCalls.{unwritten, check_write_of, write_call}
use Rattle.rules.specs.Stores.{relation_need}
use Rattle.differential.specs.Read.{extent_of}
use Rattle.differential.specs.WholeSheet.{RecurrenceIn}
use Rattle.differential.specs.SheetCalls.{no_order, write-faults, write-checks, write-is}
use Rattle.differential.proofs.write_recurrence.Goals as goal
use Rattle.differential.proofs.write_recurrence.Goals.{In_ok-x}

pub sheet_at-requires : goal.sheet_at-requires
unfolding zeros
sheet_at-requires c = refl

pub returns-in_err-x : goal.returns-in_err-x
unfolding unwritten
returns-in_err-x c =
    let p = err_from_is_err_and c.from_residual.result c.from_residual.ensures.1 in
    rw (p.1, p.2) (sym (write-faults _ _ c.in_err-x.ensures))

-- The sheet, as it was read.
module _ (c : In_ok-x) where
  abbrev numbers : List ℤ
  numbers = c.sheet_at.new.rows

  sheet : RecurrenceIn c.args.sheet.now (extent_of c.in_ok-x.x) numbers
  sheet = c.in_ok-x.ensures

pub sizes_for-sizes-requires : goal.sizes_for-sizes-requires
sizes_for-sizes-requires c = (sheet (goal.at.sizes_for-sizes-requires c).In_ok-x).small.0

pub write_checked-requires : goal.write_checked-requires
unfolding zeros
write_checked-requires c =
    let d = (goal.at.write_checked-requires c).In_ok-x in
    ap (λ z. check_write_of z 0 no_order (numbers d) (zeros relation_need)) c.sizes_for-sizes.ensures ∙ write-checks _ _ _ (sheet d).read

pub returns : goal.returns
unfolding zeros
returns c =
    let d = (goal.at.returns c).In_ok-x in
    c.write_checked.ensures
    ∙ ap (λ z. write_call z 0 no_order (numbers d) (zeros relation_need) c.args.bytes.now) c.sizes_for-sizes.ensures
    ∙ write-is _ _ _ (sheet d).read _
