-- `replays::ending::order_holds` meets its contract.
-- Assumes nothing.
use mathlib.Core.Path.{◌≡◌, sym, ◌∙◌, ap}
use mathlib.Core.List.{List, map}
use Prim.Native.Nat.{ℕ, ◌-◌, ◌≤◌}
use native.Mathlib.Nat.{le_refl}
use native.Mathlib.Omega.{arith}
use lib.IntN.{ℤ, nat_abs}
use lib.ListN.{length, take, drop, length-drop, length-map}
use lib.Seq.{take_all, length-take-le}
use Rattle.algebra.specs.Polynomials.{is_zero_of}
use Rattle.rules.specs.Limits.{column_count}
use Rattle.rules.specs.SheetCalls.{different_columns_of}
use Rattle.replays.specs.Endings.{order-few, order_signed, order-different, order-last}
use Rattle.replays.proofs.ending.order_holds.Goals as goal
use Rattle.replays.proofs.ending.order_holds.Goals.{After-different_columns, Else-m-w, Start}

-- the arguments
module _ (c : Start) where
  abbrev m : ℕ
  m = c.args.m

  abbrev w : ℕ
  w = c.args.w

  abbrev numbers : List ℤ
  numbers = c.args.numbers.now

  abbrev named : List ℕ
  named = c.args.named

  named-is : named ≡ map nat_abs numbers
  named-is = c.requires.2

  named-long : length named ≡ column_count
  named-long = ap length named-is ∙ length-map numbers nat_abs ∙ c.requires.1

-- no more rows than unknowns
module _ (c : Else-m-w) where
  abbrev start : Start
  start = (goal.at.Else-m-w c).Start

  few : w start ≤ m start
  few = c.if-m-w.false

-- the columns
tested : (c : After-different_columns) → let e = (goal.at.After-different_columns c).Else-m-w in
    different_columns_of (m (start e)) (take (w (start e)) (map nat_abs (numbers (start e)))) ≡ c.different_columns.result
tested c =
    let e = (goal.at.After-different_columns c).Else-m-w in
    sym (c.different_columns.ensures ∙ ap (λ l. different_columns_of (m (start e)) (take (w (start e)) l)) (named-is (start e)))

pub returns-then-m-w : goal.returns-then-m-w
returns-then-m-w c =
    let s = (goal.at.returns-then-m-w c).Start in sym (order-few (m s) (w s) (numbers s) c.if-m-w.true)

pub returns-then-not-none_negative : goal.returns-then-not-none_negative
returns-then-not-none_negative c =
    let e = (goal.at.returns-then-not-none_negative c).Else-m-w in
    let s = start e in
    sym (order_signed (m s) (w s) (numbers s) (few e) (sym c.none_negative.ensures ∙ c.if-not-none_negative.true))

pub slice_bounds-different_columns-end : goal.slice_bounds-different_columns-end
slice_bounds-different_columns-end c =
    let e = (goal.at.slice_bounds-different_columns-end c).Else-m-w in
    let s = start e in
    sym (length-take-le (w s) (named s) (omega (arith, few e, s.requires.0, named-long s)))

pub returns-then-not-different_columns : goal.returns-then-not-different_columns
returns-then-not-different_columns c =
    let e = (goal.at.returns-then-not-different_columns c).Else-m-w in
    let s = start e in
    sym (order-different (m s) (w s) (numbers s) (few e) (sym c.none_negative.ensures ∙ c.if-not-none_negative.false)
    (tested (goal.at.returns-then-not-different_columns c).After-different_columns ∙ c.if-not-different_columns.true))

pub slice_bounds-is_zero-count : goal.slice_bounds-is_zero-count
slice_bounds-is_zero-count c =
    let e = (goal.at.slice_bounds-is_zero-count c).Else-m-w in
    omega (arith, few e, (start e).requires.0, (start e).requires.1)

pub slice_bounds-is_zero-start : goal.slice_bounds-is_zero-start
slice_bounds-is_zero-start c =
    let e = (goal.at.slice_bounds-is_zero-start c).Else-m-w in
    omega (arith, few e, (start e).requires.0, (start e).requires.1)

pub returns : goal.returns
returns c =
    let e = (goal.at.returns c).Else-m-w in
    let s = start e in
    c.is_zero.ensures
    ∙ ap is_zero_of (take_all (length (numbers s) - w s) (drop (w s) (numbers s)) (rw length-drop (le_refl _)))
    ∙ sym (order-last (m s) (w s) (numbers s) (few e) (sym c.none_negative.ensures ∙ c.if-not-none_negative.false)
    (tested (goal.at.returns c).After-different_columns ∙ c.if-not-different_columns.false))
