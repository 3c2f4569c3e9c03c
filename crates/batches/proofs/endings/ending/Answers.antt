-- `batches::endings::ending` meets its contract: the last lines are written where it fits.
-- Assumes nothing.
use mathlib.Core.Path.{◌≡◌}
use lib.ListN.{length}
use Rattle.frames.specs.Pieces.{text_room}
use Rattle.frames.specs.PieceSizes.{text-fits as text-small}
use Rattle.batches.specs.PieceCalls.{end_text_of}
use Rattle.batches.specs.Endings.{text-short, text-fits}
use borrow.Author.Rules.{rules}
use Rattle.batches.proofs.endings.ending.Goals as goal

pub returns-then-output-length : goal.returns-then-output-length
returns-then-output-length c =
    let args = c.args in
    let text = c.end_text-text in
    text-short (end_text_of args.stage args.batch args.held) args.output.now text.result text.ensures c.if-output-length.true

pub put_text-requires : goal.put_text-requires
put_text-requires c =
    let args = c.args in
    let text = c.end_text-text in
    let bytes : length text.result.bytes ≡ text_room = search rules in
    (text-small text.result (end_text_of args.stage args.batch args.held) text.ensures bytes, c.if-output-length.false)

pub returns : goal.returns
returns c =
    let args = c.args in
    let text = c.end_text-text in
    text-fits (end_text_of args.stage args.batch args.held) args.output.now text.result text.ensures
    c.if-output-length.false c.put_text.new.output c.put_text.ensures
