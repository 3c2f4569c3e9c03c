-- `writing::writer::sides_zero` meets its contract. The loop's invariant: the first i right sides are zero.
-- Assumes nothing.
use mathlib.Core.Path.{◌≡◌, refl, sym, ◌∙◌, ap}
use mathlib.Core.List.{List, []}
use Prim.Native.Nat.{ℕ, ◌+◌, ◌*◌, ◌≤◌, ◌<◌}
use native.Mathlib.Omega.{arith}
use lib.IntN.{ℤ}
use lib.ListN.{length, get_or}
use lib.Seq.{take_all}
use Rattle.algebra.specs.Polynomials.{Polynomial, is_zero_of}
use Rattle.lists.specs.Tests.{every, every-longer, every-false}
use Rattle.rules.specs.Limits.{coefficient_count, row_length, most_relations}
use Rattle.writing.specs.Writer.{sides_in, length-sides_in, record-place, record-early, side-at, side-get}
use Rattle.writing.proofs.writer.sides_zero.Goals as goal
use Rattle.writing.proofs.writer.sides_zero.Goals.{After-is_zero, In-loop-i, Start}

-- where right side i stands
module _ (c : In-loop-i) where
  abbrev start : Start
  start = (goal.at.In-loop-i c).Start

  abbrev store : List ℤ
  store = start.args.store.now

  abbrev skip : ℕ
  skip = start.args.skip

  abbrev records : ℕ
  records = start.args.records

  abbrev i : ℕ
  i = c.loop-i.i

  early : i * (skip + coefficient_count) ≤ most_relations * (row_length + row_length)
  early = record-early skip coefficient_count records i c.loop-i-test.true start.requires.1 start.requires.0 (omega arith)

  place : i * (skip + coefficient_count) + skip + coefficient_count ≤ length store
  place = record-place skip coefficient_count records store i c.loop-i-test.true start.requires.2

  abbrev sides : List Polynomial
  sides = sides_in skip records store

  inside : i < length sides
  inside = rw (length-sides_in skip records store) c.loop-i-test.true

-- the test of right side i
module _ (c : After-is_zero) where
  abbrev turn : In-loop-i
  turn = (goal.at.After-is_zero c).In-loop-i

  tested : c.is_zero.result ≡ is_zero_of (get_or (sides turn) (i turn) [])
  tested =
      c.is_zero.ensures
      ∙ ap is_zero_of
      (side-at (skip turn) (store turn) (i turn)
      ∙ sym (side-get (skip turn) (records turn) (store turn) (i turn) turn.loop-i-test.true))

pub loop-i-init : goal.loop-i-init
unfolding every
loop-i-init c = refl

pub overflow_mul-from : goal.overflow_mul-from
overflow_mul-from c = omega (arith, early c)

pub overflow_add-from-in-loop-i : goal.overflow_add-from-in-loop-i
overflow_add-from-in-loop-i c = omega (arith, early c)

pub overflow_add-to : goal.overflow_add-to
overflow_add-to c = omega (arith, early c)

pub offset_bounds-store-from : goal.offset_bounds-store-from
offset_bounds-store-from c = omega (arith, early c)

pub slice_bounds-is_zero-count : goal.slice_bounds-is_zero-count
slice_bounds-is_zero-count c = omega (arith, early c)

pub slice_bounds-is_zero-start : goal.slice_bounds-is_zero-start
slice_bounds-is_zero-start c = omega (arith, place c)

pub slice_bounds-is_zero-end : goal.slice_bounds-is_zero-end
slice_bounds-is_zero-end c = omega (arith, place c)

pub returns-then-not-is_zero : goal.returns-then-not-is_zero
returns-then-not-is_zero c =
    let e = (goal.at.returns-then-not-is_zero c).After-is_zero in
    sym (every-false is_zero_of (sides (turn e)) (i (turn e)) [] (inside (turn e)) (sym (tested e) ∙ c.if-not-is_zero.true))

pub loop-i-preserved : goal.loop-i-preserved
loop-i-preserved c =
    let e = (goal.at.loop-i-preserved c).After-is_zero in
    every-longer is_zero_of (sides (turn e)) (i (turn e)) [] (inside (turn e)) (turn e).loop-i.invariant
    (sym (tested e) ∙ c.if-not-is_zero.false)

pub returns : goal.returns
returns c =
    let args = c.args in
    let all = sides_in args.skip args.records args.store.now in
    sym
    (ap (every is_zero_of) (sym (take_all c.loop-i.i all (rw length-sides_in c.loop-i-test.false)))
    ∙ c.loop-i.invariant)
