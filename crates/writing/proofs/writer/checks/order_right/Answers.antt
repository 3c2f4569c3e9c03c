-- `writing::writer::checks::order_right` meets its contract: the columns before the first 0, and zeros past them.
-- Assumes nothing.
use mathlib.Core.Path.{◌≡◌, sym, ◌∙◌, ap}
use Prim.Native.Nat.{ℕ, ◌-◌, ◌≤◌}
use native.Mathlib.Nat.{le_refl}
use native.Mathlib.Omega.{arith}
use mathlib.Core.List.{List}
use lib.Dec.{eqb}
use lib.ListN.{length, take, drop, length-drop}
use lib.Seq.{take_all, length-take-le}
use Rattle.lists.specs.Tests.{every}
use Rattle.rules.specs.SheetCalls.{different_columns_of, order_given, order_right_of}
use Rattle.writing.specs.WriterChecks.{given-first, given-few}
use borrow.Author.Rules.{rules}
use Rattle.writing.proofs.writer.checks.order_right.Goals as goal
use Rattle.writing.proofs.writer.checks.order_right.Goals.{After-order_length-n}

-- the columns that are given, and how many
module _ (c : After-order_length-n) where
  abbrev order : List ℕ
  order = c.args.order

  abbrev n : ℕ
  n = c.order_length-n.result

  few : n ≤ length order
  few = omega (arith, c.order_length-n.ensures, given-few order)

  columns : order_given order ≡ take n order
  columns = sym (given-first order) ∙ ap (λ k. take k order) (sym c.order_length-n.ensures)

pub slice_bounds-different_columns-end : goal.slice_bounds-different_columns-end
slice_bounds-different_columns-end c =
    let given = (goal.at.slice_bounds-different_columns-end c).After-order_length-n in
    sym (length-take-le (n given) (order given) (few given))

pub offset_bounds-all-n : goal.offset_bounds-all-n
offset_bounds-all-n c =
    let small = few (goal.at.offset_bounds-all-n c).After-order_length-n in
    search (small, rules)

pub slice_bounds-all_zero-count : goal.slice_bounds-all_zero-count
slice_bounds-all_zero-count c = few (goal.at.slice_bounds-all_zero-count c).After-order_length-n

pub slice_bounds-all_zero-start : goal.slice_bounds-all_zero-start
slice_bounds-all_zero-start c = omega (arith, few (goal.at.slice_bounds-all_zero-start c).After-order_length-n)

pub returns-then-different_columns : goal.returns-then-different_columns
unfolding order_right_of
returns-then-different_columns c =
    let given = (goal.at.returns-then-different_columns c).After-order_length-n in
    let different = ap (different_columns_of _) (columns given) ∙ sym c.different_columns.ensures ∙ c.if-different_columns.true in
    let rest = take_all (length (order given) - n given) (drop (n given) (order given)) (rw length-drop (le_refl _)) in
    rw (different, sym given.order_length-n.ensures) (c.all_zero.ensures ∙ ap (every (eqb 0)) rest)

pub returns-else-different_columns : goal.returns-else-different_columns
unfolding order_right_of
returns-else-different_columns c =
    let given = (goal.at.returns-else-different_columns c).After-order_length-n in
    rw (ap (different_columns_of _) (columns given) ∙ sym c.different_columns.ensures ∙ c.if-different_columns.false)
    c.if-different_columns.false
