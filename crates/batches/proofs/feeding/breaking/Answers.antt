-- `batches::feeding::breaking` meets its contract: the `3` is written where it fits.
-- Assumes nothing.
use mathlib.Core.Path.{◌≡◌, ◌∙◌, ap}
use lib.ListN.{length}
use Rattle.frames.specs.PieceSizes.{text-fits}
use Rattle.frames.specs.Pieces.{text_room, refusal_line_of}
use Rattle.batches.specs.Turns.{fed_of, breaks-full, breaks-over}
use borrow.Author.Rules.{rules}
use Rattle.batches.proofs.feeding.breaking.Goals as goal

pub returns-then-output-written : goal.returns-then-output-written
returns-then-output-written c =
    let args = c.args in
    let line = c.refusal_line-line in
    ap (λ r. fed_of r args.output.now) c.nothing.ensures
    ∙ breaks-full args.stage args.batch args.bytes.now args.output.now line.result line.ensures
    c.if-output-written.true

pub put_text-requires : goal.put_text-requires
put_text-requires c =
    let line = c.refusal_line-line in
    let bytes : length line.result.bytes ≡ text_room = search rules in
    (text-fits line.result (refusal_line_of 3) line.ensures bytes, c.if-output-written.false)

pub returns : goal.returns
returns c =
    let args = c.args in
    let line = c.refusal_line-line in
    breaks-over args.stage args.batch args.bytes.now args.output.now line.result line.ensures
    c.if-output-written.false c.put_text.new.output c.put_text.ensures
