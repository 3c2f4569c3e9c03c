-- `batches::feeding::feed` meets its contract: what is done goes by the stage.
-- Assumes nothing.
use mathlib.Core.Path.{refl, sym, ◌∙◌, ap}
use native.Mathlib.Nat.{sub-zero}
use mathlib.Core.Bool.{false}
use lib.ListN.{length}
use Rattle.lists.specs.Overwritten.{overwrite}
use Rattle.batches.specs.declared.Stage.TheVariants.{Over}
use Rattle.batches.specs.Feeds.{feed, feed_call, fed_by}
use Rattle.batches.proofs.feeding.feed.Goals as goal

pub returns-in-Count : goal.returns-in-Count
unfolding feed_call feed
returns-in-Count c =
    let args = c.args in record {
      output_after = c.counting.ensures.output_after ∙ ap
          (λ stage. feed_call stage args.batch args.bytes.now args.output.now)
          (sym c.in-Count.is);
      rows_unchanged = c.counting.ensures.rows_unchanged;
    }

pub returns-in-Sheets : goal.returns-in-Sheets
unfolding feed_call feed
returns-in-Sheets c =
    let args = c.args in record {
      output_after = c.sheets.ensures.output_after ∙ ap
          (λ stage. feed_call stage args.batch args.bytes.now args.output.now)
          (sym c.in-Sheets.is);
      rows_unchanged = c.sheets.ensures.rows_unchanged;
    }

pub returns-in-Over : goal.returns-in-Over
unfolding feed_call feed fed_by overwrite
returns-in-Over c =
    let args = c.args in record {
      output_after = ap (λ n. record {
        stage = Over;
        batch = args.batch;
        taken = n;
        written = 0;
        full = false;
        output = args.output.now;
      }) (sym (sub-zero (length args.bytes.now)))
          ∙ ap (λ stage. feed_call stage args.batch args.bytes.now args.output.now) (sym c.in-Over.is);
      rows_unchanged = (refl, refl);
    }
