-- `reading::order::columns_at` meets its contract. The loop's invariant: the array holds the first i columns and zeros after them, and
-- the others are read from `next`.
-- Assumes nothing.
use mathlib.Core.Path.{◌≡◌, refl, sym, subst}
use mathlib.Core.List.{[]}
use Prim.Native.Nat.{◌+◌, ◌-◌, zero-le}
use native.Mathlib.Nat.{sub-zero}
use native.Mathlib.Omega.{arith}
use borrow.Author.Rules.{rules}
use lib.IntN.{ℤ, nat_abs}
use lib.ListN.{drop, set}
use mir.Syntax.{w64}
use mir.Val.{SFits}
use mir.Facts.{to_z-of_z, Fits-nat_abs}
use Rattle.lists.specs.Padded.{pad_to}
use Rattle.rules.specs.Limits.{column_count}
use Rattle.rules.specs.Numbers.{Read, got, field}
use Rattle.rules.specs.Sheets.{always, parting, judge_order_of, read_columns}
use Rattle.tokens.specs.Fields.{read-err, read-ok, read-within, fails-on, reads, field-judged}
use Rattle.reading.specs.Terms.{FilledTo, filled-begins, filled-ends, filled-refused, filled-goes-on}
use Rattle.reading.specs.OrderLine.{taken_of, columns_then, columns-next, columns-none, columns-left, order-zero}
use Rattle.reading.proofs.order.columns_at.Goals as goal
use Rattle.reading.proofs.order.columns_at.Goals.{After-order_column_at, After-struct_told-1}

pub loop-i-init : goal.loop-i-init
unfolding pad_to taken_of
loop-i-init c = (zero-le, rw (sub-zero c.args.count) (filled-begins column_count 0 _ _ _ _ c.requires.0 refl refl))

pub overflow_add-i : goal.overflow_add-i
overflow_add-i c = omega arith

pub overflow_sub-count : goal.overflow_sub-count
overflow_sub-count c = omega arith

pub parting-separator-requires : goal.parting-separator-requires
parting-separator-requires c = tt

pub slice_bounds-order_column_at-end : goal.slice_bounds-order_column_at-end
slice_bounds-order_column_at-end c = sym c.loop-i.invariant.1.long

pub order_column_at-requires : goal.order_column_at-requires
order_column_at-requires c = (
  c.loop-i.invariant.1.within,
  (c.requires.1.0, omega (arith, c.loop-i.invariant.1.long)),
)

-- The column of a turn, as it was read.
module _ (c : After-order_column_at) where
  abbrev column-field : Read ℤ
  column-field =
      let a = c.args in
      let l = c.loop-i in
      field (judge_order_of a.m (taken_of l.order l.i)) (always (parting 10 (a.count - (l.i + 1)))) (drop l.next a.bytes.now)

pub returns-in_err-c : goal.returns-in_err-c
returns-in_err-c c =
    let a = c.args in
    let l = c.loop-i in
    fails-on _ c.in_err-c.field-0.0 c.from_residual.ensures.1
    (filled-refused _ _ _ _ _ _ _ _ l.invariant.1 _ nat_abs (columns_then a.m (a.count - (l.i + 1)) (taken_of l.order l.i))
    (columns-next a.m a.count l.i (taken_of l.order l.i) (drop l.next a.bytes.now)
    c.loop-i-test.true) _
    (read-err (rw c.parting-separator.ensures at c.in_err-c.ensures)))

module _ (c : After-struct_told-1) where
  column_fits : SFits w64 c.in_ok-c.c.value
  column_fits = search rules

  column-read : column-field (goal.at.After-struct_told-1 c).After-order_column_at
      ≡ got c.in_ok-c.c.value
      (drop c.in_ok-c.c.at
      c.args.bytes.now)
  column-read = read-ok (rw c.parting-separator.ensures at c.in_ok-c.ensures)

pub overflow_cast-order : goal.overflow_cast-order
overflow_cast-order c =
    rw (to_z-of_z {w = w64} (column_fits c)) ((order-zero _ _ _ (field-judged _ (always _) _ (column-read c))).0, Fits-nat_abs tt (column_fits c))

pub offset_bounds-order-i : goal.offset_bounds-order-i
offset_bounds-order-i c = omega arith

pub bounds-order-i : goal.bounds-order-i
bounds-order-i c = omega arith

pub loop-i-preserved : goal.loop-i-preserved
loop-i-preserved c =
    let a = c.args in
    let l = c.loop-i in
    let at = c.in_ok-c.c.at in (
      omega arith,
      rw (to_z-of_z {w = w64} (column_fits (goal.at.loop-i-preserved c).After-struct_told-1))
          (subst (FilledTo column_count 0 (read_columns a.m a.count [] (drop a.at a.bytes.now)) a.bytes.now
          (set l.order l.i (nat_abs c.in_ok-c.c.value)) (l.i + 1) at)
          (columns-left a.m (a.count - (l.i + 1)) l.order l.i c.in_ok-c.c.value
          (drop at a.bytes.now) (omega (arith, l.invariant.1.long)))
          (filled-goes-on _ _ _ _ _ _ _ _ l.invariant.1 _ nat_abs (columns_then a.m (a.count - (l.i + 1)) (taken_of l.order l.i))
          (columns-next a.m a.count l.i (taken_of l.order l.i) (drop l.next a.bytes.now)
          c.loop-i-test.true) _ _ (omega arith)
          (column-read (goal.at.loop-i-preserved c).After-struct_told-1) (read-within c.in_ok-c.ensures))),
    )

pub returns : goal.returns
returns c =
    let a = c.args in
    let l = c.loop-i in
    reads refl
    (filled-ends _ _ _ _ _ _ _ _ l.invariant.1
    (columns-none a.m a.count l.i (taken_of l.order l.i) (drop l.next a.bytes.now) (omega arith)))
    l.invariant.1.within
