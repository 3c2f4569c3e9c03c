-- `batches::feeding::sheet_turn` meets its contract: the sheet is answered and counted where its answer fits.
-- Assumes nothing.
use mathlib.Core.Path.{◌∙◌, ap}
use mathlib.Core.Bool.{true, false}
use Rattle.batches.specs.declared.Stage.TheVariants.{Sheets}
use Rattle.batches.specs.Turns.{turn_of, stopped_of, sheet_in, put_full, put-done}
use borrow.Author.Rules.{rules}
use Rattle.batches.proofs.feeding.sheet_turn.Goals as goal

pub returns-then-not-put : goal.returns-then-not-put
returns-then-not-put c =
    let args = c.args in
    let bytes = args.bytes.now in record {
      output_after = ap (λ r. turn_of r c.put_answer-put.new.output) (c.stopped.ensures ∙ ap stopped_of c.nothing.ensures)
          ∙ put_full (sheet_in bytes args.from args.to) args.client args.batch bytes args.output.now args.to
          c.put_answer-put.result c.put_answer-put.new.output
          c.put_answer-put.ensures.output_after c.if-not-put.true;
      rows_unchanged = c.put_answer-put.ensures.rows_unchanged;
    }

pub returns : goal.returns
returns c =
    let args = c.args in
    let bytes = args.bytes.now in record {
      output_after = ap
          (λ b. record {
            going = true;
            call = record {
              stage = Sheets;
              batch = b;
              taken = args.to;
              written = c.put_answer-put.result.written;
              full = false;
              output =
                  c.put_answer-put.new.output;
            };
          })
          c.counted.ensures
          ∙ put-done (sheet_in bytes args.from args.to) args.client args.batch bytes args.output.now args.to
          c.put_answer-put.result c.put_answer-put.new.output
          c.put_answer-put.ensures.output_after c.if-not-put.false (search rules);
      rows_unchanged = c.put_answer-put.ensures.rows_unchanged;
    }
