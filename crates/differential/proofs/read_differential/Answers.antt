-- `differential::read_differential` meets its contract: the sheet is refused, or a lent store is too short, or both are filled.
-- Assumes nothing.
use Rattle.std.proofs.Common.{◌≡◌, refl, sym, ap, ◌∙◌, ◌≤◌, zero-le, List, ℤ, length, arith}
use Rattle.lists.specs.Tests.{true-T}
use Rattle.rules.specs.Calls.{zeros}
use Rattle.rules.specs.Layout.{lengths_right-iff}
use Rattle.rules.specs.Limits.{most_equations}
use Rattle.rules.specs.Stores.{row_need, relations_of, largest_rows}
use Rattle.tokens.specs.Fields.{handed-on}
use Rattle.reading.specs.ReadCalls.{call_of, call-unread}
use Rattle.reading.specs.WholeSheet.{result_of}
use Rattle.differential.specs.Grammar.{Extent}
use Rattle.differential.specs.Read.{extent_of}
use Rattle.differential.specs.WholeSheet.{RecurrenceIn}
use Rattle.differential.specs.SheetCalls.{no_order, read-faults, read_short, read-fills}
use Rattle.differential.proofs.read_differential.Goals as goal
use Rattle.differential.proofs.read_differential.Goals.{In_ok-x}

pub sheet_at-requires : goal.sheet_at-requires
unfolding zeros
sheet_at-requires c = refl

pub returns-in_err-x : goal.returns-in_err-x
unfolding result_of
returns-in_err-x c =
    call-unread _ _ _ _ (ap result_of (handed-on _ c.from_residual.ensures.1)) ∙ sym (read-faults _ _ _ c.in_err-x.ensures)

-- The sheet, as it was read.
module _ (c : In_ok-x) where
  abbrev numbers : List ℤ
  numbers = c.sheet_at.new.rows

  abbrev extent : Extent
  extent = extent_of c.in_ok-x.x

  sheet : RecurrenceIn c.args.bytes.now extent numbers
  sheet = c.in_ok-x.ensures

  long : length numbers ≡ largest_rows
  long = c.sheet_at.auto.rows

  few : c.in_ok-x.x.equations ≤ most_equations
  unfolding extent_of
  few = sheet.small.0.equations-few

pub lengths_right-requires : goal.lengths_right-requires
lengths_right-requires c = few (goal.at.lengths_right-requires c).In_ok-x

pub returns-then-not-lengths_right : goal.returns-then-not-lengths_right
unfolding extent_of result_of
returns-then-not-lengths_right c =
    let d = (goal.at.returns-then-not-lengths_right c).In_ok-x in
    call-unread _ _ _ _ refl
    ∙ sym (read_short _ (extent d) (numbers d) (sheet d).read _ _ (sym c.lengths_right.ensures ∙ c.if-not-lengths_right.true))

pub fill_rows-requires : goal.fill_rows-requires
unfolding row_need
fill_rows-requires c =
    let d = (goal.at.fill_rows-requires c).In_ok-x in
    let enough = (lengths_right-iff _ _ _).0 (true-T _ (sym c.lengths_right.ensures ∙ c.if-not-lengths_right.false)) in
    (few d, enough.0, omega (arith, few d, long d))

pub fill_relations-requires : goal.fill_relations-requires
fill_relations-requires c =
    let enough = (lengths_right-iff _ _ _).0 (true-T _ (sym c.lengths_right.ensures ∙ c.if-not-lengths_right.false)) in
    (zero-le, enough.1, zero-le)

pub sizes_for-sizes-requires : goal.sizes_for-sizes-requires
sizes_for-sizes-requires c = (sheet (goal.at.sizes_for-sizes-requires c).In_ok-x).small.0

pub returns : goal.returns
unfolding call_of result_of extent_of relations_of
returns c =
    let d = (goal.at.returns c).In_ok-x in
    (λ i. record {
      result = record { refusal = 0; sizes = c.sizes_for-sizes.ensures i; relations = 0; order = no_order };
      row_store = c.fill_rows.ensures i;
      relation_store = c.fill_relations.ensures i;
    })
    ∙ sym (read-fills _ (extent d) (numbers d) (sheet d).read _ _ (sym c.lengths_right.ensures ∙ c.if-not-lengths_right.false))
