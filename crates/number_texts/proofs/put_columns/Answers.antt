-- `number_texts::put_columns` meets its contract. The loop's invariant: the columns from an index on are still to be written.
-- Assumes nothing.
use Rattle.std.proofs.Common.{ap, map, pos, arith, drop_of_length-le}
use Rattle.number_texts.specs.Runs.{going_next, going-last}
use Rattle.number_texts.specs.Texts.{spaced, columns-next}
use Rattle.number_texts.proofs.put_columns.Goals as goal

pub loop-column-preserved : goal.loop-column-preserved
loop-column-preserved c =
    going_next c.loop-column.invariant (columns-next c.args.columns.now c.loop-column.column-index c.loop-column-test.true)
    c.put_next_count-next.ensures (omega arith)

pub returns : goal.returns
unfolding spaced
returns c =
    going-last c.loop-column.invariant (ap (λ l. spaced (map pos l)) (drop_of_length-le c.args.columns.now c.loop-column-test.false))
    (omega arith)
