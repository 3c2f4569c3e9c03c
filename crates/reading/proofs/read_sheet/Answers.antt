-- `reading::read_sheet` meets its contract: the sheet is refused at its head, or its rest decides.
-- Assumes nothing.
use mathlib.Core.Path.{refl, sym, ap, ◌∙◌}
use Prim.Native.Nat.{ℕ, ◌*◌, ◌≤◌}
use native.Mathlib.Omega.{arith}
use lib.ListN.{length}
use Rattle.rules.specs.Limits.{relation_length}
use Rattle.rules.specs.Stores.{relation_need}
use Rattle.rules.specs.Calls.{zeros}
use Rattle.reading.specs.Zeros.{length-zeros, take-zeros}
use Rattle.reading.specs.WholeSheet.{result_of, sheet-is}
use Rattle.tokens.specs.Fields.{read-err, read-ok, read-within, handed-on, then-fault}
use Rattle.reading.specs.ReadCalls.{call-unread, call-faults}
use Rattle.reading.proofs.read_sheet.Goals as goal
use Rattle.reading.proofs.read_sheet.Goals.{In_ok-h}

pub returns-in_err-z : goal.returns-in_err-z
unfolding result_of
returns-in_err-z c =
    call-unread _ _ _ _ (ap result_of (handed-on _ c.from_residual.ensures.1))
    ∙ sym (call-faults _ _ _ _ (sheet-is _ ∙ then-fault _ (read-err c.in_err-z.ensures)))

pub head_at-requires : goal.head_at-requires
unfolding zeros
head_at-requires c = record {
  sizes_read = (read-within c.in_ok-z.ensures, read-ok c.in_ok-z.ensures);
  rows_value = refl;
}

pub returns-in_err-h : goal.returns-in_err-h
unfolding result_of
returns-in_err-h c =
    call-unread _ _ _ _ (ap result_of (handed-on _ c.from_residual-in_err-h.ensures.1))
    ∙ sym (call-faults _ _ _ _ c.in_err-h.ensures.head_read)

-- As many numbers as the relations need.
abbrev used : In_ok-h → ℕ
used c = c.in_ok-h.h.relations * relation_length

few : (c : In_ok-h) → c.in_ok-h.h.relations ≤ 16
few c = c.in_ok-h.ensures.head_read.0.few

pub overflow_mul-used : goal.overflow_mul-used
overflow_mul-used c = omega (arith, few (goal.at.overflow_mul-used c).In_ok-h)

pub fill-requires : goal.fill-requires
unfolding zeros
fill-requires c =
    let e = (goal.at.fill-requires c).In_ok-h in
    record {
      head_to = c.in_ok-h.ensures.head_read.0;
      largest_rows_in_bounds = (omega (arith, c.head_at.auto.rows), take-zeros (used e) 1 (omega arith));
    }

pub slice_bounds-relation_numbers-end : goal.slice_bounds-relation_numbers-end
slice_bounds-relation_numbers-end c = omega (arith, few (goal.at.slice_bounds-relation_numbers-end c).In_ok-h)

pub slice_bounds-fill-end-3 : goal.slice_bounds-fill-end-3
unfolding zeros
slice_bounds-fill-end-3 c =
    let e = (goal.at.slice_bounds-fill-end-3 c).In_ok-h in
    sym (ap length (take-zeros (used e) relation_need (omega (arith, few e))) ∙ length-zeros (used e))

pub fill-requires-2 : goal.fill-requires-2
unfolding zeros
fill-requires-2 c =
    let e = (goal.at.fill-requires-2 c).In_ok-h in
    record {
      head_to = c.in_ok-h.ensures.head_read.0;
      largest_rows_in_bounds = (omega (arith, c.head_at.auto.rows), take-zeros (used e) relation_need (omega (arith, few e)));
    }
