-- `writing::writer::most_in_records` meets its contract. The loop's invariant: what the records from i on come to is still to be added.
-- Assumes nothing.
use mathlib.Core.Path.{◌≡◌, ◌∙◌, ap}
use mathlib.Core.List.{List}
use Prim.Native.Nat.{ℕ, ◌+◌, ◌*◌, ◌≤◌}
use native.Mathlib.Omega.{arith}
use lib.IntN.{ℤ}
use lib.ListN.{length, take, drop}
use Rattle.rules.specs.Limits.{polynomial_count, row_length, most_relations}
use Rattle.writing.specs.Writer.{record-place, record-early}
use Rattle.writing.specs.LineLengths.{long_term, most_in_terms_of, most_in_records_of, most-in-terms, record-row, total-parts-next}
use Rattle.writing.specs.LineLengths.{total-parts-end}
use Rattle.writing.proofs.writer.most_in_records.Goals as goal
use Rattle.writing.proofs.writer.most_in_records.Goals.{After-most_in_terms-numbers, In-loop-i, Start}

-- where record i stands
module _ (c : In-loop-i) where
  abbrev start : Start
  start = (goal.at.In-loop-i c).Start

  abbrev store : List ℤ
  store = start.args.store.now

  abbrev skip : ℕ
  skip = start.args.skip

  abbrev records : ℕ
  records = start.args.records

  abbrev i : ℕ
  i = c.loop-i.i

  early : i * (skip + row_length) ≤ most_relations * (row_length + row_length)
  early = record-early skip row_length records i c.loop-i-test.true start.requires.1 (omega arith) (omega arith)

  place : i * (skip + row_length) + skip + row_length ≤ length store
  place = record-place skip row_length records store i c.loop-i-test.true start.requires.2

pub loop-i-init : goal.loop-i-init
unfolding most_in_records_of
loop-i-init c = (omega arith, omega arith)

pub overflow_mul-from : goal.overflow_mul-from
overflow_mul-from c = omega (arith, early c)

pub overflow_add-from-in-loop-i : goal.overflow_add-from-in-loop-i
overflow_add-from-in-loop-i c = omega (arith, early c)

pub overflow_add-to : goal.overflow_add-to
overflow_add-to c = omega (arith, early c)

pub offset_bounds-store-from : goal.offset_bounds-store-from
offset_bounds-store-from c = omega (arith, early c)

pub slice_bounds-most_in_terms-count : goal.slice_bounds-most_in_terms-count
slice_bounds-most_in_terms-count c = omega (arith, early c)

pub slice_bounds-most_in_terms-start : goal.slice_bounds-most_in_terms-start
slice_bounds-most_in_terms-start c = omega (arith, place c)

pub slice_bounds-most_in_terms-end : goal.slice_bounds-most_in_terms-end
slice_bounds-most_in_terms-end c = omega (arith, place c)

pub most_in_terms-numbers-requires : goal.most_in_terms-numbers-requires
most_in_terms-numbers-requires c = omega (arith, place (goal.at.most_in_terms-numbers-requires c).In-loop-i)

-- what record i comes to
module _ (c : After-most_in_terms-numbers) where
  abbrev turn : In-loop-i
  turn = (goal.at.After-most_in_terms-numbers c).In-loop-i

  abbrev row : List ℤ
  row = drop (skip turn) (take (skip turn + row_length) (drop (i turn * (skip turn + row_length)) (store turn)))

  found : c.most_in_terms-numbers.result ≡ most_in_terms_of row
  found = c.most_in_terms-numbers.ensures ∙ ap most_in_terms_of (record-row (skip turn) (store turn) (i turn))

  few : c.most_in_terms-numbers.result ≤ polynomial_count * long_term
  few = omega (arith, found, most-in-terms row)

pub overflow_add-numbers : goal.overflow_add-numbers
overflow_add-numbers c = omega (arith, few c)

pub loop-i-preserved : goal.loop-i-preserved
loop-i-preserved c =
    let t = turn c in
    let next =
    total-parts-next (λ p. most_in_terms_of (drop (skip t) p)) (skip t + row_length) (records t) (store t) (i t) t.loop-i-test.true in
    (omega (arith, few c), omega (arith, found c, next))

pub returns : goal.returns
returns c =
    let args = c.args in
    let skipped = args.skip in
    omega (
      arith,
      total-parts-end (λ p. most_in_terms_of (drop skipped p)) (skipped + row_length) args.records args.store.now c.loop-i.i
          c.loop-i-test.false,
    )
