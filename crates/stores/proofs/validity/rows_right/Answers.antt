-- `stores::validity::rows_right` meets its contract. The loop's invariant: the first i rows pass.
-- Assumes nothing.
use mathlib.Core.Path.{◌≡◌, sym, ◌∙◌, ap}
use mathlib.Core.Bool.{Bool}
use mathlib.Core.List.{List}
use Prim.Native.Nat.{◌<◌}
use borrow.Author.Rules.{rules}
use lib.ListN.{length, take, get_or}
use lib.Seq.{take_all}
use Rattle.rules.specs.Rows.{Row, no_row}
use Rattle.lists.specs.Tests.{every, every-longer, every-false}
use Rattle.rules.specs.Stores.{row_of, rows_of, row_need, row_right_of}
use Rattle.rules.specs.Layout.{row-at, length-rows_of}
use Rattle.stores.specs.Validity.{the_sizes_of, row_test, row_right-test}
use Rattle.stores.proofs.validity.rows_right.Goals as goal
use Rattle.stores.proofs.validity.rows_right.Goals.{After-row_right, After-span-d, At-loop-i}

-- the check of a row, by m and D
right : (c : After-span-d)
    → row_right_of (the_sizes_of c.args.sizes) ≡ row_test c.args.sizes.m c.span-d.result
unfolding the_sizes_of
right c =
    let sizes = c.args.sizes in
    row_right-test (the_sizes_of sizes) ∙ ap (row_test sizes.m) (sym c.span-d.ensures)

-- the test of row i
module _ (c : After-row_right) where
  abbrev at : At-loop-i
  at = c.before.before.before

  abbrev test : Row → Bool
  test = row_test at.args.sizes.m at.span-d.result

  abbrev rows : List Row
  rows = rows_of at.args.equations at.args.store.now

  inside : at.loop-i.i < length rows
  inside = rw length-rows_of c.loop-i-test.true

  tested : c.row_right.result ≡ test (get_or rows at.loop-i.i no_row)
  unfolding row_test
  tested =
      let args = at.args in
      c.row_right.ensures ∙ ap (λ l. test (row_of l)) c.row_at.ensures.result_value
      ∙ ap test (sym (row-at args.equations args.store.now at.loop-i.i c.loop-i-test.true))

pub loop-i-init : goal.loop-i-init
unfolding every
loop-i-init c = search rules

pub overflow_mul-i : goal.overflow_mul-i
unfolding row_need
overflow_mul-i c = search rules

pub row_at-requires : goal.row_at-requires
unfolding row_need
row_at-requires c = search rules

pub row_right-requires : goal.row_right-requires
row_right-requires c = c.row_at.ensures.result_len

pub returns-then-not-row_right : goal.returns-then-not-row_right
returns-then-not-row_right c =
    let failed = sym (tested c.before) ∙ c.if-not-row_right.true in
    sym (ap (λ t. every t (rows c.before)) (right (at c.before).before) ∙ every-false _ _ _ no_row (inside c.before) failed)

pub loop-i-preserved : goal.loop-i-preserved
loop-i-preserved c =
    let here = sym (tested c.before) ∙ c.if-not-row_right.false in
    every-longer _ _ _ no_row (inside c.before) (at c.before).loop-i.invariant here

pub returns : goal.returns
returns c =
    let args = c.args in
    let rows = rows_of args.equations args.store.now in
    let all : take c.loop-i.i rows ≡ rows = take_all c.loop-i.i rows (rw length-rows_of c.loop-i-test.false) in
    sym (ap (λ t. every t rows) (right c.before.before) ∙ ap (every _) (sym all) ∙ c.loop-i.invariant)
