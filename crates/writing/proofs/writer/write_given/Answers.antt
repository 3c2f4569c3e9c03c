-- `writing::writer::write_given` meets its contract. Where it is not plain that the sheet fits, a first call of `put_given_sheet` only
-- counts. The call that stores has room for all bytes.
-- Assumes nothing.
use mathlib.Core.Path.{◌≡◌, refl, sym, ap}
use mathlib.Core.List.{List, ◌++◌}
use Prim.Native.Nat.{ℕ, ◌≤◌}
use native.Mathlib.Omega.{arith}
use lib.IntN.{ℤ}
use lib.ListN.{length, take}
use lib.Seq.{length-take-le}
use Rattle.lists.specs.Tests.{true-T}
use Rattle.rules.specs.Limits.{column_count, most_equations}
use Rattle.rules.specs.SheetCalls.{order_given, unwritten}
use Rattle.rules.specs.Sheets.{write_sheet_of}
use Rattle.rules.specs.Stores.{Sizes, equations}
use Rattle.stores.specs.Validity.{the_sizes_of}
use Rattle.writing.specs.Writer.{sheet_given}
use Rattle.writing.specs.WriterChecks.{Checked, checked, given-few, put_whole, put-short, put-counted}
use Rattle.writing.proofs.writer.write_given.Goals as goal
use Rattle.writing.proofs.writer.write_given.Goals.{After-order_length-n, After-put_given_sheet-needed, Start}

-- what is written, and into what
module _ (c : After-order_length-n) where
  abbrev start : Start
  start = (goal.at.After-order_length-n c).Start

  abbrev z : Sizes
  z = the_sizes_of start.args.sizes

  abbrev order : List ℕ
  order = start.args.order

  abbrev rows : List ℤ
  rows = start.args.rows.now

  abbrev relations : List ℤ
  relations = start.args.relations.now

  abbrev store : List ℕ
  store = start.args.bytes.now

  abbrev n : ℕ
  n = c.order_length-n.result

  facts : Checked z start.args.count rows relations
  facts = checked z start.args.count order rows relations start.requires.relations_value

  given : n ≡ length (order_given order)
  unfolding the_sizes_of
  given = c.order_length-n.ensures

  few : n ≤ column_count
  few = omega (arith, given, given-few order)

  size : length (take n order) ≡ n
  size = length-take-le n order (omega (arith, few))

  few-rows : start.args.sizes.equations ≤ most_equations
  unfolding equations the_sizes_of
  few-rows = facts.few-rows

-- what the call that counts tells
module _ (c : After-put_given_sheet-needed) where
  abbrev here : After-order_length-n
  here = (goal.at.After-put_given_sheet-needed c).After-order_length-n

  abbrev sheet : List ℕ
  sheet = write_sheet_of (sheet_given (z here) (start here).args.count (take (n here) (order here)) (rows here) (relations here))

  counted : c.put_given_sheet-needed.result ≡ length sheet
  counted = (put-counted c.put_given_sheet-needed.ensures refl).1

  kept : (c.put_given_sheet-needed.new.bytes ++ store here) ≡ store here
  kept = ap (λ l. l ++ store here) (put-counted c.put_given_sheet-needed.ensures refl).0

pub slice_bounds-columns-end : goal.slice_bounds-columns-end
slice_bounds-columns-end c = sym (size (goal.at.slice_bounds-columns-end c).After-order_length-n)

pub given_fits-requires : goal.given_fits-requires
unfolding equations the_sizes_of
given_fits-requires c =
    let o = (goal.at.given_fits-requires c).After-order_length-n in
    let right = facts o in
    record {
      equations_le_most_equations = (right.few-rows, right.rows, right.row-numbers);
      count_le_most_relations = (right.few, right.relations, right.relation-numbers, (start o).requires.first_le_count.0);
    }

pub put_given_sheet-length-requires : goal.put_given_sheet-length-requires
put_given_sheet-length-requires c =
    let o = (goal.at.put_given_sheet-length-requires c).After-order_length-n in
    record {
      checked = (facts o, omega (arith, size o, few o));
      first_le_count = (start o).requires.first_le_count;
    }

pub returns-then-given_fits : goal.returns-then-given_fits
unfolding equations the_sizes_of
returns-then-given_fits c =
    let o = (goal.at.returns-then-given_fits c).After-order_length-n in
    let room = c.given_fits.ensures (true-T _ c.if-given_fits.true) (z o).l (facts o).blocks (start o).requires.first_le_count.1 in
    put_whole (z o) (start o).args.count (order o) (rows o) (relations o) (n o) (given o) (store o) (start o).requires.relations_value
    c.put_given_sheet-length.ensures refl
    (omega (arith, c.put_given_sheet-length.ensures.few, room))

pub put_given_sheet-needed-requires : goal.put_given_sheet-needed-requires
put_given_sheet-needed-requires c =
    let o = (goal.at.put_given_sheet-needed-requires c).After-order_length-n in
    record {
      checked = (facts o, omega (arith, size o, few o));
      first_le_count = (start o).requires.first_le_count;
    }

pub returns-then-bytes-needed : goal.returns-then-bytes-needed
unfolding unwritten
returns-then-bytes-needed c =
    let p = (goal.at.returns-then-bytes-needed c).After-put_given_sheet-needed in
    let o = here p in
    put-short (z o) (start o).args.count (order o) (rows o) (relations o) (n o) (given o) (store o) (start o).requires.relations_value
    (kept p)
    (omega (arith, counted p, ap length (kept p), c.if-bytes-needed.true))

pub put_given_sheet-length-requires-2 : goal.put_given_sheet-length-requires-2
put_given_sheet-length-requires-2 c =
    let o = here (goal.at.put_given_sheet-length-requires-2 c).After-put_given_sheet-needed in
    record { checked = (facts o, omega (arith, size o, few o)); first_le_count = (start o).requires.first_le_count }

pub returns : goal.returns
returns c =
    let p = (goal.at.returns c).After-put_given_sheet-needed in
    let o = here p in
    put_whole (z o) (start o).args.count (order o) (rows o) (relations o) (n o) (given o) (store o) (start o).requires.relations_value
    c.put_given_sheet-length-2.ensures (kept p)
    (omega (arith, counted p, ap length (kept p), c.if-bytes-needed.false))
