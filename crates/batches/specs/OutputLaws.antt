-- A whole batch, by the feed of all its bytes.
--
-- Main statements
--   whole_long    where an answer does not fit, the whole output does not
--   whole-feed    where all fit, the output is what the feed has written, with what the end of the input adds
use Rattle.std.specs.Prelude.{ℕ, ◌<◌, ◌≡◌, true, false, length}
use Rattle.std.proofs.Common.{arith, sym, ◌∙◌, length-append}
use Rattle.std.proofs.Math.Path.{ap}
use mathlib.Core.List.{List, [], ◌++◌, append-nil}
use Rattle.rules.specs.Batch.{batch_output}
use Rattle.frames.specs.declared.Batch.{Batch}
use Rattle.batches.specs.declared.Stage.TheVariants.{Count}
use Rattle.batches.specs.Feeds.{Feed, feed}
use Rattle.batches.specs.PieceCalls.{end_text_of}
use Rattle.batches.specs.Moves.{meaning, move-means, end-meaning}
use Rattle.batches.specs.FeedLaws.{TooLong, feed-meaning, feed-counted, feed-waits, feed-next}

module _ (b : Batch) (input : List ℕ) (room : ℕ) where
  abbrev f : Feed
  f = feed Count b input room

  whole : batch_output input ≡ f.text ++ meaning f.stage f.batch f.rest
  unfolding meaning
  whole =
      ap batch_output (sym (append-nil input)) ∙ feed-meaning Count b input room tt []
      ∙ ap (λ l. f.text ++ meaning f.stage f.batch l) (append-nil f.rest)

  pub whole_long : f.full ≡ true → room < length (batch_output input)
  whole_long full =
      let t : TooLong f room = feed-next Count b input room tt full in
      let next = move-means (feed-counted Count b input room tt) t.move in
      omega (arith, t.long, simp length-append at (ap length whole), simp length-append at (ap length next))

  pub whole-feed : f.full ≡ false → batch_output input ≡ f.text ++ end_text_of f.stage f.batch (length f.rest)
  whole-feed fits =
      whole
      ∙ ap (λ l. f.text ++ l)
      (end-meaning f.stage f.batch f.rest (feed-counted Count b input room tt)
      (feed-waits Count b input room tt fits))
