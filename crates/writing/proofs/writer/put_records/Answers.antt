-- `writing::writer::put_records` meets its contract. The loop's invariant: the lines from i on are still to be written.
-- Assumes nothing.
use Rattle.std.proofs.Common.{rules, ◌≡◌, refl, ℕ, ◌+◌, ◌*◌, ◌-◌, ◌≤◌, length, arith}
use Rattle.rules.specs.Limits.{row_length, most_relations}
use Rattle.number_texts.specs.Runs.{going-first}
use Rattle.writing.specs.Writer.{record-place, record-early}
use Rattle.writing.specs.Records.{record_lines, records-next, records-last}
use Rattle.writing.proofs.writer.put_records.Goals as goal
use Rattle.writing.proofs.writer.put_records.Goals.{In-loop-i, Start}

-- where record i stands
module _ (c : In-loop-i) where
  abbrev start : Start
  start = (goal.at.In-loop-i c).Start

  abbrev i : ℕ
  i = c.loop-i.i

  early : i * (start.args.skip + row_length) ≤ most_relations * (row_length + row_length)
  early = record-early start.args.skip row_length start.args.records i c.loop-i-test.true start.requires.1 (omega arith) (omega arith)

  place : i * (start.args.skip + row_length) + start.args.skip + row_length ≤ length start.args.store.now
  place = record-place start.args.skip row_length start.args.records start.args.store.now i c.loop-i-test.true start.requires.2

pub loop-i-init : goal.loop-i-init
unfolding record_lines
loop-i-init c = going-first refl

pub put_record-next-requires : goal.put_record-next-requires
put_record-next-requires c =
    let turn = (goal.at.put_record-next-requires c).In-loop-i in
    let w = c.args.skip + row_length in
    let width : i turn * w + w - i turn * w ≡ w = omega arith in
    let part = c.requires.4 (i turn) c.loop-i-test.true in
    let unused = c.requires.5 (i turn) c.loop-i-test.true in
    (c.requires.0, omega (arith, place turn), search rules, rw width part, rw width unused)

pub loop-i-preserved : goal.loop-i-preserved
loop-i-preserved c =
    let args = c.args in
    records-next args.shape.l args.skip args.records args.store.now c.loop-i.i c.loop-i.invariant c.loop-i-test.true
    c.put_record-next.ensures

pub returns : goal.returns
returns c =
    let args = c.args in
    records-last args.shape.l args.skip args.records args.store.now c.loop-i.i c.loop-i.invariant c.loop-i-test.false (omega arith)
