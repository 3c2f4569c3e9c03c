-- `reading::sheet::rest_at` meets its contract: the relations, the column order, and what stands behind it.
-- Assumes nothing.
use mathlib.Core.Path.{◌≡◌, refl, sym, ap, ◌∙◌}
use Prim.Native.Nat.{ℕ, ◌≤◌}
use native.Mathlib.Nat.{le_of_eq}
use lib.ListN.{length, drop}
use lib.IntN.{ℤ}
use mathlib.Core.List.{List}
use Rattle.std.specs.Prelude.{Result, IsErrAnd}
use Rattle.std.proofs.lemmas.Result.{IfOk-from_err}
use Rattle.refusals.specs.Refusals.{number_of as refusal_number, number-nonzero}
use Rattle.refusals.specs.declared.Refusal.{Refusal}
use Rattle.reading.specs.declared.own.OwnRead.{OwnRead}
use Rattle.reading.specs.WholeSheet.{result_of, sheet, pad_sheet, relations-fault, order-fault, order-got, sheet-refuses, SheetRead, sheet_in}
use Rattle.reading.specs.WholeSheet.{sheet-gives, end-fault, end-got}
use Rattle.reading.specs.RelationLines.{rest-lefts}
use Rattle.reading.specs.Zeros.{length-zeros}
use Rattle.rules.specs.Layout.{size-bounds, length-rows_of, length-relations_of}
use Rattle.rules.specs.Limits.{most_equations}
use Rattle.rules.specs.Numbers.{then_read, fault}
use Rattle.rules.specs.Sheets.{read_rest, read_sheet_of}
use Rattle.rules.specs.Stores.{equations, rows_of, relations_of}
use Rattle.stores.specs.Validity.{the_sizes_of}
use Rattle.tokens.specs.Fields.{read-err, read-ok, read-within, handed-on}
use Rattle.reading.proofs.sheet.rest_at.Goals as goal
use Rattle.reading.proofs.sheet.rest_at.Goals.{After-end_at, Start}

few-rows : (c : Start) → c.args.h.sizes.equations ≤ most_equations
unfolding equations the_sizes_of
few-rows c = (size-bounds _ c.requires.head_to.right).few-equations

-- A part that is refused.
refused : {bytes : List ℕ} {rows relations : List ℤ} (result : Result OwnRead Refusal) (r : Refusal) → IsErrAnd result (λ e. e ≡ r)
    → then_read (read_sheet_of bytes) pad_sheet ≡ fault (refusal_number r)
    → SheetRead bytes (result_of (sheet_in result)) rows relations
unfolding result_of
refused result r same f =
    sheet-refuses _ _ _ _ (refusal_number r) (ap (λ q. result_of (sheet_in q)) (handed-on result same)) (number-nonzero r) f

pub returns-in_err-s : goal.returns-in_err-s
returns-in_err-s c = record {
  sheet_read = refused _ c.in_err-s.field-0.0 c.from_residual.ensures.1 (relations-fault c.requires.head_to (read-err c.in_err-s.ensures));
  sizes_value = IfOk-from_err _ _ c.from_residual.ensures.0;
}

pub order_at-requires : goal.order_at-requires
unfolding the_sizes_of
order_at-requires c = (read-within c.in_ok-s.ensures, (size-bounds _ c.requires.head_to.right).few)

pub returns-in_err-o : goal.returns-in_err-o
unfolding the_sizes_of
returns-in_err-o c = record {
  sheet_read = refused _ c.in_err-o.field-0.0 c.from_residual-in_err-o.ensures.1
      (order-fault c.requires.head_to _ _ (read-ok c.in_ok-s.ensures) (read-err c.in_err-o.ensures));
  sizes_value = IfOk-from_err _ _ c.from_residual-in_err-o.ensures.0;
}

pub end_at-requires : goal.end_at-requires
unfolding equations the_sizes_of
end_at-requires c =
    let s = (goal.at.end_at-requires c).Start in record {
      at_in_bounds = (read-within c.in_ok-o.ensures, few-rows s, s.requires.head_to.few);
      row_length_in_bounds = (s.requires.row_length_in_bounds.0, le_of_eq (sym (c.relations_at.auto.relations ∙ ap length s.requires.row_length_in_bounds.1 ∙ length-zeros _)));
    }

-- The sheet up to its order.
module _ (c : After-end_at) where
  to_end : then_read (read_sheet_of c.args.bytes.now) pad_sheet
      ≡ read_rest
      (sheet (the_sizes_of c.args.h.sizes) (rows_of c.args.h.sizes.equations c.args.rows.now)
      (relations_of c.args.h.relations c.relations_at.new.relations) c.in_ok-o.o.order)
      (drop c.in_ok-o.o.at c.args.bytes.now)
  unfolding equations the_sizes_of
  to_end = order-got c.requires.head_to _ _ (read-ok c.in_ok-s.ensures) _ _ (read-ok c.in_ok-o.ensures)

pub returns-in_err-end_at : goal.returns-in_err-end_at
unfolding equations the_sizes_of
returns-in_err-end_at c = record {
  sheet_read = refused _ c.in_err-end_at.field-0.0 c.from_residual-in_err-end_at.ensures.1
      (to_end (goal.at.returns-in_err-end_at c).After-end_at
      ∙ end-fault _ _ _ _ _ _ (length-rows_of _ _) (length-relations_of _ _) _ (read-err c.in_err-end_at.ensures));
  sizes_value = IfOk-from_err _ _ c.from_residual-in_err-end_at.ensures.0;
}

pub returns : goal.returns
unfolding equations result_of the_sizes_of
returns c =
    let s = (goal.at.returns c).Start in record {
      sheet_read = sheet-gives _ _ _ _ refl
          (to_end (goal.at.returns c).After-end_at
          ∙ end-got _ _ _ _ _ _ (length-rows_of _ _) (length-relations_of _ _) _ (read-ok c.in_ok-end_at.ensures))
          (few-rows s) s.requires.head_to.few;
      sizes_value = (
        refl,
        refl,
        record {
          begins = s.requires.head_to.within;
          ends = read-within c.in_ok-s.ensures;
          given = relations_of s.args.h.relations c.relations_at.new.relations;
          read = read-ok c.in_ok-s.ensures;
          same = sym (rest-lefts _ _ _ _ (length-relations_of _ _) _ (read-ok c.in_ok-end_at.ensures));
        },
      );
    }
