-- `exported_sheets::writes::write_sheet` meets its contract.
-- Assumes nothing.
use mathlib.Core.Path.{◌≡◌, refl, sym, ◌∙◌, ap}
use mathlib.Core.Bool.{true}
use mathlib.Core.List.{List, [], ◌∷◌}
use Prim.Native.Nat.{ℕ, ◌^◌, ◌≤◌, ◌<◌}
use native.Mathlib.Nat.{lt_of_le_of_lt}
use native.Mathlib.Omega.{arith}
use lib.IntN.{ℤ, pos}
use lib.ListN.{length, set}
use lib.Seq.{length-take-le}
use mir.Syntax.{w64}
use mir.Facts.{to_z_pos}
use Rattle.integers.specs.Ranges.{sfits-size}
use Rattle.rules.specs.Stores.{Sizes}
use Rattle.rules.specs.SheetCalls.{WriteCall, write_call}
use Rattle.stores.specs.Validity.{the_sizes_of}
use Rattle.refusals.specs.Refusals.{number_of, number-nonzero}
use Rattle.export_results.specs.Results.{on_acceptance-none, on_acceptance-some}
use Rattle.lists.specs.Overwritten.{set-overwrite}
use Rattle.lists.specs.Taken.{none_before}
use Rattle.exported_sheets.specs.Writes.{order_of, no_negative_of, not_written, written-length}
use Rattle.exported_sheets.specs.Writes.{write-same, write-unordered, write-negative, write-short, write_done}
use Rattle.exported_sheets.proofs.writes.write_sheet.Goals as goal
use Rattle.exported_sheets.proofs.writes.write_sheet.Goals.{After-columns-columns, After-no_negative, After-write_sheet, In-Ok, Else-not-no_negative, Start}

-- the call
module _ (c : Start) where
  abbrev z : Sizes
  z = the_sizes_of c.args.sizes

  abbrev count : ℕ
  count = c.args.count

  abbrev order : List ℤ
  order = c.args.order.now

  abbrev rows : List ℤ
  rows = c.args.rows.now

  abbrev relations : List ℤ
  relations = c.args.relations.now

  abbrev bytes : List ℕ
  bytes = c.args.bytes.now

  abbrev result : List ℤ
  result = c.args.res.now

-- the test of the order
tested : (c : After-no_negative) → c.no_negative.result ≡ no_negative_of (order (goal.at.After-no_negative c).Start)
unfolding no_negative_of
tested c = c.no_negative.ensures

module _ (c : Else-not-no_negative) where
  abbrev start : Start
  start = (goal.at.Else-not-no_negative c).Start

  four : 4 ≤ length (order start)
  four = c.if-order-lt4.false

  passed : no_negative_of (order start) ≡ true
  passed = sym (tested (goal.at.Else-not-no_negative c).After-no_negative) ∙ c.if-not-no_negative.false

-- the columns, as the definition has them
given : (c : After-columns-columns) → c.columns-columns.result ≡ order_of (order (start (goal.at.After-columns-columns c).Else-not-no_negative))
unfolding order_of
given c = c.columns-columns.ensures

-- the sheet that was written, or the refusal
module _ (c : After-write_sheet) where
  abbrev ordered : Else-not-no_negative
  ordered = (goal.at.After-write_sheet c).Else-not-no_negative

  abbrev place : Start
  place = start ordered

  made : {x : WriteCall} → x ≡ write_call (z place) (count place) c.columns-columns.result (rows place) (relations place) (bytes place)
      → x ≡ write_call (z place) (count place) (order_of (order place)) (rows place) (relations place) (bytes place)
  made e =
      e ∙ ap (λ o. write_call (z place) (count place) o (rows place) (relations place) (bytes place)) (given (goal.at.After-write_sheet c).After-columns-columns)

  small : length (bytes place) < 2 ^ 63
  small = omega arith

pub returns-then-order-lt4 : goal.returns-then-order-lt4
unfolding not_written
returns-then-order-lt4 c =
    let s = (goal.at.returns-then-order-lt4 c).Start in
    ap (λ n. not_written n (bytes s) (result s)) (c.number_in.ensures ∙ c.check_stores-checked.ensures)
    ∙ write-unordered (z s) (count s) (order s) (rows s) (relations s) (bytes s) (result s) c.if-order-lt4.true

pub slice_bounds-no_negative-end : goal.slice_bounds-no_negative-end
slice_bounds-no_negative-end c = sym (length-take-le 4 (order (goal.at.slice_bounds-no_negative-end c).Start) c.if-order-lt4.false)

pub returns-then-not-no_negative : goal.returns-then-not-no_negative
unfolding not_written
returns-then-not-no_negative c =
    let s = (goal.at.returns-then-not-no_negative c).Start in
    write-negative (z s) (count s) (order s) (rows s) (relations s) (bytes s) (result s) c.if-order-lt4.false
    (sym (tested (goal.at.returns-then-not-no_negative c).After-no_negative) ∙ c.if-not-no_negative.true)

pub returns-then-res-lt1 : goal.returns-then-res-lt1
unfolding not_written
returns-then-res-lt1 c =
    let call = c.write_sheet-none in
    let columns = (goal.at.returns-then-res-lt1 c).After-columns-columns in
    let e = (goal.at.After-columns-columns columns).Else-not-no_negative in
    let s = start e in
    (λ i. record {
      refusal = (c.number_in-then-res-lt1.ensures ∙ sym (write-same call.result call.new.bytes) ∙ ap (λ x. x.refusal) call.ensures ∙ ap (λ o. (write_call (z s) (count s) o [] [] []).refusal) (given columns)) i;
      byte_store = none_before call.new.bytes (bytes s) call.auto.bytes i;
      result_store = result s;
    })
    ∙ write-short (z s) (count s) (order s) (rows s) (relations s) (bytes s) (result s) (four e) (passed e)
    c.if-res-lt1.true

-- its length
module _ (c : In-Ok) where
  abbrev whole : After-write_sheet
  whole = (goal.at.In-Ok c).After-write_sheet

  abbrev here : Start
  here = place whole

  size : c.in-Ok.length ≤ length (bytes here)
  size =
      written-length (z here) (count here) (order_of (order here)) (rows here) (relations here) (bytes here) (made whole c.in-Ok.ensures)

pub overflow_cast-res : goal.overflow_cast-res
overflow_cast-res c =
    let w = (goal.at.overflow_cast-res c).In-Ok in
    sfits-size (pos c.in-Ok.length) (size w) (small (whole w))

pub returns-in-Ok : goal.returns-in-Ok
returns-in-Ok c =
    let w = (goal.at.returns-in-Ok c).In-Ok in
    let s = here w in
    let e = ordered (whole w) in
    let number = to_z_pos w64 (lt_of_le_of_lt (size w) (small (whole w))) in
    (λ i. record { refusal = 0; byte_store = c.write_sheet.new.bytes; result_store = set (result s) 0 (number i) })
    ∙ write_done (z s) (count s) (order s) (rows s) (relations s) (bytes s) (result s) (four e) (passed e) (made (whole w) c.in-Ok.ensures)
    (set-overwrite (result s) (pos c.in-Ok.length) (omega arith)
    ∙ on_acceptance-some 0 (pos c.in-Ok.length ∷ []) (result s) refl) (omega arith)

pub returns-in-Err : goal.returns-in-Err
returns-in-Err c =
    let w = (goal.at.returns-in-Err c).After-write_sheet in
    let s = place w in
    let e = ordered w in
    (λ i. record { refusal = c.number.ensures i; byte_store = c.write_sheet.new.bytes; result_store = result s })
    ∙ write_done (z s) (count s) (order s) (rows s) (relations s) (bytes s) (result s) (four e) (passed e) (made w c.in-Err.ensures)
    (on_acceptance-none (number_of c.in-Err.refusal) (pos 0 ∷ []) (result s) (number-nonzero c.in-Err.refusal)) (omega arith)
