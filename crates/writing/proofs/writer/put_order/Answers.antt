-- `writing::writer::put_order` meets its contract: the number of columns, the columns, and the end of the line.
-- Assumes nothing.
use native.Mathlib.Omega.{arith}
use Rattle.writing.specs.Writer.{order-line}
use Rattle.number_texts.specs.Runs.{put_same, put_then, put-wide}
use Rattle.writing.proofs.writer.put_order.Goals as goal

pub returns : goal.returns
returns c =
    let order = c.args.order.now in
    put-wide
    (put_same (put_then (put_then c.put_digits-counted.ensures c.put_columns-written.ensures) c.put_byte.ensures)
    (order-line order))
    (omega arith)
