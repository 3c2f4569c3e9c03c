-- `reading::sides::sides_at` meets its contract. The loop's invariant: the first i sides are in the store, and the others are read from
-- `next`.
-- Assumes nothing.
use mathlib.Core.Path.{refl}
use Prim.Native.Nat.{ℕ, suc, ◌+◌, ◌*◌, ◌≤◌}
use native.Mathlib.Nat.{le-add_right, le_trans, mul-le-mul_right, mul-le-mul_left, suc-mul}
use native.Mathlib.Omega.{arith}
use lib.ListN.{length}
use Rattle.rules.specs.Limits.{coefficient_count, most_relations, relation_length}
use Rattle.tokens.specs.Fields.{read-err, read-ok, read-within, fails-on, reads}
use Rattle.stores.specs.LentParts.{lent-long}
use Rattle.reading.specs.Sides.{sides-begin, sides-end, sides-refused, sides-go-on}
use Rattle.reading.proofs.sides.sides_at.Goals as goal
use Rattle.reading.proofs.sides.sides_at.Goals.{In-loop-i, Start}

pub loop-i-init : goal.loop-i-init
loop-i-init c = sides-begin _ _ _ _ _ _ _ _ c.requires.at_in_bounds.0

-- There is room for the side of a turn.
module _ (c : In-loop-i) where
  abbrev start : Start
  start = (goal.at.In-loop-i c).Start

  abbrev place : ℕ
  place = c.loop-i.i * start.args.width + start.args.from

  room : place + coefficient_count ≤ length start.args.store.now
  room =
      omega (
        arith,
        start.requires.coefficient_count_bound,
        mul-le-mul_right {m = suc c.loop-i.i} {n = start.args.count} start.args.width c.loop-i-test.true,
        suc-mul c.loop-i.i start.args.width,
      )

  small : c.loop-i.i * start.args.width ≤ most_relations * relation_length
  small =
      le_trans (mul-le-mul_right {m = c.loop-i.i} {n = most_relations} start.args.width
      (omega (arith, start.requires.at_in_bounds, c.loop-i-test.true))) (mul-le-mul_left most_relations start.requires.coefficient_count_bound.1)

pub overflow_add-i : goal.overflow_add-i
overflow_add-i c = omega (arith, (start c).requires.at_in_bounds, c.loop-i-test.true)

pub overflow_sub-count : goal.overflow_sub-count
overflow_sub-count c = omega (arith, c.loop-i-test.true)

pub overflow_add-count : goal.overflow_add-count
overflow_add-count c = omega (arith, (start c).requires.at_in_bounds, c.loop-i-test.true)

pub is_needed-needed-requires : goal.is_needed-needed-requires
is_needed-needed-requires c = tt

pub overflow_mul-start : goal.overflow_mul-start
overflow_mul-start c = omega (arith, small (goal.at.overflow_mul-start c).In-loop-i)

pub overflow_add-start : goal.overflow_add-start
overflow_add-start c = omega (arith, small (goal.at.overflow_add-start c).In-loop-i, (start (goal.at.overflow_add-start c).In-loop-i).requires.coefficient_count_bound)

pub overflow_add-end : goal.overflow_add-end
overflow_add-end c = omega (arith, small (goal.at.overflow_add-end c).In-loop-i, (start (goal.at.overflow_add-end c).In-loop-i).requires.coefficient_count_bound)

pub offset_bounds-store-start : goal.offset_bounds-store-start
offset_bounds-store-start c = omega (arith, small (goal.at.offset_bounds-store-start c).In-loop-i, (start (goal.at.offset_bounds-store-start c).In-loop-i).requires.coefficient_count_bound)

pub slice_bounds-side_at-count : goal.slice_bounds-side_at-count
slice_bounds-side_at-count c = omega arith

pub slice_bounds-side_at-start : goal.slice_bounds-side_at-start
slice_bounds-side_at-start c = le-add_right _ coefficient_count

pub slice_bounds-side_at-end : goal.slice_bounds-side_at-end
slice_bounds-side_at-end c = rw c.loop-i.invariant.long (room (goal.at.slice_bounds-side_at-end c).In-loop-i)

pub side_at-requires : goal.side_at-requires
side_at-requires c =
    let l = c.loop-i in
    (l.invariant.within, lent-long l.store (place (goal.at.side_at-requires c).In-loop-i) coefficient_count (rw l.invariant.long (room (goal.at.side_at-requires c).In-loop-i)))

pub loop-i-preserved : goal.loop-i-preserved
loop-i-preserved c =
    let t = (goal.at.loop-i-preserved c).In-loop-i in
    sides-go-on _ _ _ _ _ _ _ _ _ _ _ _ c.loop-i.invariant c.loop-i-test.true c.side_at.new.p
    c.in_ok-s.s.none _ (place t) (read-ok (rw c.is_needed-needed.ensures at c.in_ok-s.ensures)) (read-within c.in_ok-s.ensures) refl (room t)

pub returns-in_err-s : goal.returns-in_err-s
returns-in_err-s c =
    fails-on _ c.in_err-s.field-0.0 c.from_residual.ensures.1
    (sides-refused _ _ _ _ _ _ _ _ _ _ _ _ c.loop-i.invariant c.loop-i-test.true
    (read-err (rw c.is_needed-needed.ensures at c.in_err-s.ensures)))

pub shape_of-store : goal.shape_of-store
shape_of-store c = c.loop-i.invariant.long

pub returns : goal.returns
returns c =
    let inv = c.loop-i.invariant in
    reads refl (sides-end _ _ _ _ _ _ _ _ _ _ _ _ inv (omega (arith, inv.counted, c.loop-i-test.false))) inv.within
