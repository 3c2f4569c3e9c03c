-- `batches::feeding::sheets` meets its contract. The loop's invariant: what was written so far, followed by the work on what is
-- left, is the whole work, and the work stores are zero. The measure is the number of sheets to come.
-- Assumes nothing.
use Prim.Native.Nat.{◌+◌, ◌-◌, ◌≤◌}
use native.Mathlib.Omega.{arith}
use Prim.Native.Nat.{ℕ}
use mathlib.Core.Path.{◌≡◌, sym, ◌∙◌, ap}
use mathlib.Core.List.{List}
use borrow.Rule.Slice.PartMut.{same_len_mid}
use lib.ListN.{length}
use Rattle.rules.specs.Stores.{largest_rows, relation_need}
use Rattle.rules.specs.Calls.{zeros}
use Rattle.batches.specs.Turns.{Sofar, sofar-none, sofar-length, sofar-bounds, sofar-stops, sofar-goes}
use Rattle.batches.proofs.feeding.sheets.Goals as goal
use Rattle.batches.proofs.feeding.sheets.Goals.{After-next_turn-t, At-loop-stage, Start}

-- A turn has been taken.
module _ (c : After-next_turn-t) where
  abbrev place : At-loop-stage
  place = (goal.at.After-next_turn-t c).At-loop-stage

  abbrev start : Start
  start = (goal.at.At-loop-stage place).Start

  abbrev sofar : Sofar start.args.batch start.args.bytes.now start.args.output.now place.loop-stage.b
      place.loop-stage.at place.loop-stage.out place.loop-stage.output
  sofar = place.loop-stage.invariant.0

  abbrev after : List ℕ
  after = c.next_turn-t.new.output

  bounds : (place.loop-stage.at + c.next_turn-t.result.fed.taken ≤ length start.args.bytes.now)
      × (place.loop-stage.out + c.next_turn-t.result.fed.written ≤ length start.args.output.now)
  bounds = sofar-bounds sofar c.next_turn-t.result after c.next_turn-t.ensures.output_after

  rows-zero : c.next_turn-t.new.rows ≡ zeros largest_rows
  rows-zero = c.next_turn-t.ensures.rows_unchanged.0 ∙ place.loop-stage.invariant.1

  relations-zero : c.next_turn-t.new.relations ≡ zeros relation_need
  relations-zero = c.next_turn-t.ensures.rows_unchanged.1 ∙ place.loop-stage.invariant.2

pub loop-stage-init : goal.loop-stage-init
loop-stage-init c = (sofar-none _ _ _ c.requires.0, c.requires.1, c.requires.2)

pub slice_bounds-next_turn-count : goal.slice_bounds-next_turn-count
slice_bounds-next_turn-count c = omega (arith, c.loop-stage.invariant.0.inside)

pub slice_bounds-next_turn-start : goal.slice_bounds-next_turn-start
slice_bounds-next_turn-start c = omega (arith, c.loop-stage.invariant.0.inside)

pub slice_bounds-next_turn-end : goal.slice_bounds-next_turn-end
slice_bounds-next_turn-end c = omega (arith, c.loop-stage.invariant.0.inside)

pub slice_bounds-next_turn-count-in-loop-stage : goal.slice_bounds-next_turn-count-in-loop-stage
slice_bounds-next_turn-count-in-loop-stage c = omega (arith, sofar-length c.loop-stage.invariant.0, c.loop-stage.invariant.0.fits)

pub slice_bounds-next_turn-start-in-loop-stage : goal.slice_bounds-next_turn-start-in-loop-stage
slice_bounds-next_turn-start-in-loop-stage c = omega (arith, sofar-length c.loop-stage.invariant.0, c.loop-stage.invariant.0.fits)

pub slice_bounds-next_turn-end-in-loop-stage : goal.slice_bounds-next_turn-end-in-loop-stage
slice_bounds-next_turn-end-in-loop-stage c = omega (arith, sofar-length c.loop-stage.invariant.0, c.loop-stage.invariant.0.fits)

pub next_turn-t-requires : goal.next_turn-t-requires
next_turn-t-requires c = (c.loop-stage.invariant.1, c.loop-stage.invariant.2)

pub overflow_add-at : goal.overflow_add-at
overflow_add-at c = omega (arith, (bounds (goal.at.overflow_add-at c).After-next_turn-t).0)

pub overflow_add-out : goal.overflow_add-out
overflow_add-out c = omega (arith, (bounds (goal.at.overflow_add-out c).After-next_turn-t).1)

pub shape_of-output-then-not-t : goal.shape_of-output-then-not-t
shape_of-output-then-not-t c =
    let t = (goal.at.shape_of-output-then-not-t c).After-next_turn-t in
    same_len_mid (place t).loop-stage.out (length (place t).loop-stage.output - (place t).loop-stage.out) (place t).loop-stage.output
    (after t) t.next_turn-t.auto.output
    ∙ sofar-length (sofar t)

pub shape_of-rows-then-not-t : goal.shape_of-rows-then-not-t
shape_of-rows-then-not-t c = let t = (goal.at.shape_of-rows-then-not-t c).After-next_turn-t in ap length
    (rows-zero t ∙ sym (start t).requires.1)

pub shape_of-relations-then-not-t : goal.shape_of-relations-then-not-t
shape_of-relations-then-not-t c = let t = (goal.at.shape_of-relations-then-not-t c).After-next_turn-t in ap length
    (relations-zero t ∙ sym (start t).requires.2)

pub returns-then-not-t : goal.returns-then-not-t
returns-then-not-t c =
    let t = (goal.at.returns-then-not-t c).After-next_turn-t in record {
      output_after = sofar-stops (sofar t) t.next_turn-t.result (after t) t.next_turn-t.ensures.output_after c.if-not-t.true;
      rows_unchanged = (rows-zero t ∙ sym (start t).requires.1, relations-zero t ∙ sym (start t).requires.2);
    }

pub loop-stage-smaller : goal.loop-stage-smaller
loop-stage-smaller c =
    let t = (goal.at.loop-stage-smaller c).After-next_turn-t in
    (sofar-goes (sofar t) t.next_turn-t.result (after t) t.next_turn-t.ensures.output_after c.if-not-t.false).1

pub loop-stage-preserved : goal.loop-stage-preserved
loop-stage-preserved c =
    let t = (goal.at.loop-stage-preserved c).After-next_turn-t in
    let goes = sofar-goes (sofar t) t.next_turn-t.result (after t) t.next_turn-t.ensures.output_after c.if-not-t.false in
    (goes.0, rows-zero t, relations-zero t)
