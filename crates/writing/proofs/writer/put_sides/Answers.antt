-- `writing::writer::put_sides` meets its contract. The loop's invariant: the lines from i on are still to be written.
-- Assumes nothing.
use mathlib.Core.Path.{◌≡◌, refl, ap}
use mathlib.Core.List.{List}
use Prim.Native.Nat.{ℕ, ◌+◌, ◌*◌, ◌-◌, ◌≤◌}
use native.Mathlib.Omega.{arith}
use borrow.Author.Rules.{rules}
use lib.Dec.{T}
use lib.IntN.{ℤ}
use lib.ListN.{length, take, drop}
use Rattle.lists.specs.Tests.{every, every-part}
use Rattle.rules.specs.Limits.{coefficient_count, row_length, most_relations, small}
use Rattle.rules.specs.Numbers.{line}
use Rattle.rules.specs.Sheets.{side_line}
use Rattle.writing.specs.Writer.{lines_next, lines-last}
use Rattle.number_texts.specs.Runs.{going-first, put_same}
use Rattle.writing.specs.Writer.{side_in, sides_in, record-place, record-early, side-at}
use Rattle.writing.proofs.writer.put_sides.Goals as goal
use Rattle.writing.proofs.writer.put_sides.Goals.{In-loop-i, Start}

-- where right side i stands
module _ (c : In-loop-i) where
  abbrev start : Start
  start = (goal.at.In-loop-i c).Start

  abbrev store : List ℤ
  store = start.args.store.now

  abbrev skip : ℕ
  skip = start.args.skip

  abbrev records : ℕ
  records = start.args.records

  abbrev i : ℕ
  i = c.loop-i.i

  early : i * (skip + coefficient_count) ≤ most_relations * (row_length + row_length)
  early = record-early skip coefficient_count records i c.loop-i-test.true start.requires.1 start.requires.0 (omega arith)

  place : i * (skip + coefficient_count) + skip + coefficient_count ≤ length store
  place = record-place skip coefficient_count records store i c.loop-i-test.true start.requires.2

  part : T (every small (side_in skip (take (skip + coefficient_count) (drop (i * (skip + coefficient_count)) store))))
  part =
      every-part small skip coefficient_count (take (skip + coefficient_count) (drop (i * (skip + coefficient_count)) store))
      (start.requires.4 i c.loop-i-test.true)

pub loop-i-init : goal.loop-i-init
loop-i-init c = going-first refl

pub overflow_mul-from : goal.overflow_mul-from
overflow_mul-from c = omega (arith, early c)

pub overflow_add-from-in-loop-i : goal.overflow_add-from-in-loop-i
overflow_add-from-in-loop-i c = omega (arith, early c)

pub overflow_add-to : goal.overflow_add-to
overflow_add-to c = omega (arith, early c)

pub offset_bounds-store-from : goal.offset_bounds-store-from
offset_bounds-store-from c = omega (arith, early (goal.at.offset_bounds-store-from c).In-loop-i)

pub slice_bounds-put_side-count : goal.slice_bounds-put_side-count
slice_bounds-put_side-count c = omega (arith, early (goal.at.slice_bounds-put_side-count c).In-loop-i)

pub slice_bounds-put_side-start : goal.slice_bounds-put_side-start
slice_bounds-put_side-start c = omega (arith, place (goal.at.slice_bounds-put_side-start c).In-loop-i)

pub slice_bounds-put_side-end : goal.slice_bounds-put_side-end
slice_bounds-put_side-end c = omega (arith, place (goal.at.slice_bounds-put_side-end c).In-loop-i)

pub put_side-next-requires : goal.put_side-next-requires
put_side-next-requires c =
    let turn = (goal.at.put_side-next-requires c).In-loop-i in
    (omega (arith, place turn), search rules, rw (side-at (skip turn) (store turn) (i turn)) (part turn))

pub loop-i-preserved : goal.loop-i-preserved
unfolding sides_in
loop-i-preserved c =
    let turn = (goal.at.loop-i-preserved c).In-loop-i in
    let w = skip turn + coefficient_count in
    let width : w ≡ i turn * w + w - i turn * w = omega arith in
    lines_next side_line (side_in (skip turn)) w (records turn) (store turn) (i turn) turn.loop-i.invariant
    turn.loop-i-test.true
    (put_same (put_same c.put_side-next.ensures
    (ap (λ p. line (side_line p)) (side-at (skip turn) (store turn) (i turn))))
    (ap (λ n. line (side_line (side_in (skip turn) (take n (drop (i turn * w) (store turn)))))) width))

pub returns : goal.returns
unfolding sides_in
returns c =
    let args = c.args in
    lines-last side_line (side_in args.skip) (args.skip + coefficient_count) args.records args.store.now c.loop-i.i
    c.loop-i.invariant c.loop-i-test.false (omega arith)
