-- `differential::equations::equations_at` meets its contract. The loop's invariant: the first i equations are in the store, and the others
-- are read from `next`.
-- Assumes nothing.
use mathlib.Core.Path.{◌≡◌, ap, ◌∙◌}
use Prim.Native.Nat.{◌+◌, ◌*◌, ◌-◌, ◌≤◌}
use native.Mathlib.Nat.{le-add_right}
use native.Mathlib.Omega.{arith}
use borrow.Rule.Slice.PartMut.{mid_of}
use lib.ListN.{length}
use Rattle.rules.specs.Limits.{row_length}
use Rattle.rules.specs.Calls.{zeros}
use Rattle.tokens.specs.Fields.{read-err, read-ok, read-within, fails-on, reads}
use Rattle.reading.specs.Zeros.{length-zeros}
use Rattle.reading.specs.Sections.{stored-begins, stored-ends, stored_refused, stored-part, stored-goes-on, rows_of-parts}
use Rattle.differential.proofs.equations.equations_at.Goals as goal
use Rattle.differential.proofs.equations.equations_at.Goals.{In-loop-i}

pub loop-i-init : goal.loop-i-init
loop-i-init c = stored-begins _ _ _ _ _ _ _ c.requires.equations_le_most_equations.1 c.requires.at_in_bounds.0

-- There is room for the equation of a turn.
module _ (c : In-loop-i) where
  room : c.loop-i.i * row_length + row_length ≤ length c.args.rows.now
  room = rw (c.requires.equations_le_most_equations.1, length-zeros) (omega (arith, c.loop-i-test.true))

  part :
      let from = c.loop-i.i * row_length in
      mid_of from (from + row_length - from) c.loop-i.rows ≡ zeros row_length
  part = stored-part _ _ _ _ _ _ _ _ _ _ c.loop-i.invariant c.loop-i-test.true

pub overflow_mul-from : goal.overflow_mul-from
overflow_mul-from c = omega (arith, c.requires.equations_le_most_equations.0, c.loop-i-test.true)

pub overflow_add-to : goal.overflow_add-to
overflow_add-to c = omega (arith, c.requires.equations_le_most_equations.0, c.loop-i-test.true)

pub offset_bounds-rows-from : goal.offset_bounds-rows-from
offset_bounds-rows-from c = omega (arith, c.requires.equations_le_most_equations.0, c.loop-i-test.true)

pub slice_bounds-equation_at-count : goal.slice_bounds-equation_at-count
slice_bounds-equation_at-count c = omega arith

pub slice_bounds-equation_at-start : goal.slice_bounds-equation_at-start
slice_bounds-equation_at-start c = le-add_right _ row_length

pub slice_bounds-equation_at-end : goal.slice_bounds-equation_at-end
slice_bounds-equation_at-end c = rw c.loop-i.invariant.long (room c)

pub equation_at-requires : goal.equation_at-requires
equation_at-requires c = record {
  at_in_bounds = (c.loop-i.invariant.within, c.requires.at_in_bounds.1);
  row_value = part (goal.at.equation_at-requires c).In-loop-i;
}

pub returns-in_err-next : goal.returns-in_err-next
returns-in_err-next c =
    fails-on _ c.in_err-next.field-0.0 c.from_residual.ensures.1
    (stored_refused _ _ _ _ _ _ _ _ _ _ c.loop-i.invariant c.loop-i-test.true _ (read-err c.in_err-next.ensures))

pub loop-i-preserved : goal.loop-i-preserved
loop-i-preserved c =
    stored-goes-on _ _ _ _ _ _ _ _ _ _ c.loop-i.invariant c.loop-i-test.true _ _
    (c.equation_at.auto.row ∙ ap length (part (goal.at.loop-i-preserved c).In-loop-i) ∙ length-zeros row_length)
    (room (goal.at.loop-i-preserved c).In-loop-i) (read-ok c.in_ok-next.ensures) (read-within c.in_ok-next.ensures)

pub shape_of-rows : goal.shape_of-rows
shape_of-rows c = c.loop-i.invariant.long

pub returns : goal.returns
returns c =
    let inv = c.loop-i.invariant in
    reads (rows_of-parts _ _) (stored-ends _ _ _ _ _ _ _ _ _ _ inv (omega (arith, inv.counted, c.loop-i-test.false))) inv.within
