-- `reading::sheet::fill` meets its contract: the sheet is refused, or a lent store is too short, or both are filled.
-- Assumes nothing.
use mathlib.Core.Path.{refl, sym, ap, ap₂, ◌∙◌}
use Prim.Native.Nat.{◌*◌, ◌≤◌}
use native.Mathlib.Nat.{le_of_eq}
use native.Mathlib.Omega.{arith}
use lib.ListN.{length}
use Rattle.lists.specs.Tests.{true-T}
use Rattle.reading.specs.ReadCalls.{call_of, call-unread, call-refuses, call-short, call-fills}
use Rattle.reading.specs.WholeSheet.{result_of, SheetRead}
use Rattle.reading.specs.Zeros.{length-zeros}
use Rattle.rules.specs.Layout.{lengths_right-iff, size-bounds}
use Rattle.rules.specs.Limits.{relation_length, most_equations}
use Rattle.rules.specs.SheetCalls.{read_refusal}
use Rattle.std.proofs.Common.{Ok}
use Rattle.refusals.specs.Refusals.{number-nonzero}
use Rattle.tokens.specs.Fields.{handed-on}
use Rattle.rules.specs.Stores.{row_need, equations}
use Rattle.stores.specs.Validity.{the_sizes_of}
use Rattle.reading.proofs.sheet.fill.Goals as goal
use Rattle.reading.proofs.sheet.fill.Goals.{In_ok-rest}

pub rest_at-requires : goal.rest_at-requires
unfolding equations the_sizes_of
rest_at-requires c =
    record {
      head_to = c.requires.head_to;
      row_length_in_bounds = (omega (arith, c.requires.largest_rows_in_bounds.0, (size-bounds _ c.requires.head_to.right).few-equations), c.requires.largest_rows_in_bounds.1);
    }

pub returns-in_err-rest : goal.returns-in_err-rest
unfolding result_of read_refusal
returns-in_err-rest c =
    call-unread _ _ _ _ (ap result_of (handed-on _ c.from_residual.ensures.1))
    ∙ sym (call-refuses _ _ _ _ c.in_err-rest.ensures.sheet_read _ _ (number-nonzero c.in_err-rest.field-0.0))

-- The sheet, as it was read.
module _ (c : In_ok-rest) where
  read : SheetRead c.args.bytes.now (result_of (Ok c.in_ok-rest.rest.sheet)) c.rest_at.new.rows c.rest_at.new.relations
  read = c.in_ok-rest.ensures.sheet_read

  few : c.in_ok-rest.rest.sheet.sizes.equations ≤ most_equations
  unfolding equations result_of the_sizes_of
  few = read.few-rows refl

pub lengths_right-requires : goal.lengths_right-requires
lengths_right-requires c = few (goal.at.lengths_right-requires c).In_ok-rest

pub returns-then-not-lengths_right : goal.returns-then-not-lengths_right
unfolding equations result_of the_sizes_of
returns-then-not-lengths_right c =
    let r = (goal.at.returns-then-not-lengths_right c).In_ok-rest in
    call-unread _ _ _ _ refl ∙ sym (call-short _ _ _ _ (read r) _ _ refl (sym c.lengths_right.ensures ∙ c.if-not-lengths_right.true))

pub fill_rows-requires : goal.fill_rows-requires
unfolding row_need equations result_of the_sizes_of
fill_rows-requires c =
    let r = (goal.at.fill_rows-requires c).In_ok-rest in
    let long = (lengths_right-iff _ _ _).0 (true-T _ (sym c.lengths_right.ensures ∙ c.if-not-lengths_right.false)) in
    (few r, long.0, omega (arith, few r, c.requires.largest_rows_in_bounds.0, c.rest_at.auto.rows))

pub fill_relations-requires : goal.fill_relations-requires
unfolding equations result_of the_sizes_of
fill_relations-requires c =
    let r = (goal.at.fill_relations-requires c).In_ok-rest in
    let long = (lengths_right-iff _ _ _).0 (true-T _ (sym c.lengths_right.ensures ∙ c.if-not-lengths_right.false)) in (
      (read r).few refl,
      long.1,
      le_of_eq (ap (λ k. k * relation_length) c.in_ok-rest.ensures.sizes_value.1
          ∙ sym (c.rest_at.auto.relations ∙ ap length c.requires.largest_rows_in_bounds.1 ∙ length-zeros _)),
    )

pub returns : goal.returns
unfolding call_of equations result_of the_sizes_of
returns c =
    let r = (goal.at.returns c).In_ok-rest in
    ap₂ (λ rows relations. call_of (Ok c.in_ok-rest.rest.sheet) rows relations) c.fill_rows.ensures c.fill_relations.ensures
    ∙ sym (call-fills _ _ _ _ (read r) _ _ refl (sym c.lengths_right.ensures ∙ c.if-not-lengths_right.false))
