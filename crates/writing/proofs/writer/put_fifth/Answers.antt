-- `writing::writer::put_fifth` meets its contract: nothing, or the number of the right sides, those of the equations, and those of the
-- relations.
-- Assumes nothing.
use mathlib.Core.Path.{sym, ◌∙◌}
use Rattle.writing.specs.Writer.{sides_given, sides-none, sides-some}
use Rattle.number_texts.specs.Runs.{put-none, put_same, put_then}
use Rattle.writing.proofs.writer.put_fifth.Goals as goal

pub returns-then-no_sides : goal.returns-then-no_sides
returns-then-no_sides c =
    let args = c.args in
    let all = sides_given args.equations args.count args.rows.now args.relations.now in
    put-none (sides-none all (sym c.no_sides.ensures ∙ c.if-no_sides.true))

pub returns : goal.returns
returns c =
    let args = c.args in
    put_same
    (put_then c.put_count-after_count.ensures (put_then c.put_sides-after_rows.ensures c.put_sides.ensures))
    (sides-some args.equations args.count args.rows.now args.relations.now
    (sym c.no_sides.ensures ∙ c.if-no_sides.false))
