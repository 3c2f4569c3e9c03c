-- The end of a batch, and a whole batch, by what the functions give.
--
-- Main statements
--   text-short, text-fits    a text that does not fit, and one that stands at the front of the output
--   fed-places               the feed of a whole input takes no more than there is, and writes no more than fits
--   whole-short, whole-less  the output is too short for the answers, or for what the end of the input adds
--   whole-fits, whole-all    both fit
use Prim.Native.Nat.{ℕ, ◌+◌, ◌-◌, ◌≤◌, ◌<◌}
use Rattle.std.proofs.Common.{suc-ne-zero, arith, ◌∙◌, length-append, length-drop, take_at, drop_at}
use Rattle.std.specs.Prelude.{◌≡◌, ◌≢◌, Bool, replicate}
use Rattle.std.proofs.Math.Path.{refl, sym, ap, ap₂}
use Rattle.std.proofs.Math.Bool.{true, false, cond}
use mathlib.Core.List.{List, [], ◌++◌, append-nil}
use borrow.Author.Tests.{le-leb, lt-leb, leb-true, leb-false}
use borrow.Rule.Slice.PartMut.{put_mid}
use Rattle.std.proofs.Math.Dec.{leb}
use Rattle.std.proofs.Math.ListN.{length, take, drop}
use Rattle.lists.specs.Overwritten.{overwrite, put-behind, length-overwrite}
use Rattle.rules.specs.Batch.{batch_output}
use Rattle.frames.specs.declared.Batch.{Batch}
use Rattle.frames.specs.declared.Text.{Text}
use Rattle.frames.specs.Pieces.{text_of, shown, shown-text}
use Rattle.batches.specs.declared.Stage.TheVariants.{Count}
use Rattle.batches.specs.declared.OutputResult.{OutputResult}
use Rattle.batches.specs.declared.feeding.Fed.{Fed}
use Rattle.batches.specs.Feeds.{Feed, feed, fed_by, feed_call}
use Rattle.batches.specs.PieceCalls.{OutputCall, output_of, end_text_of, put_text_of, output_call}
use Rattle.batches.specs.FeedLaws.{feed-room, feed-rest}
use Rattle.batches.specs.OutputLaws.{whole_long, whole-feed}
use Rattle.lists.specs.Taken.{whole_part}
use Rattle.batches.specs.Turns.{fed_of}

-- ---- a text put at the front of the output

abbrev refused : List ℕ → OutputCall
refused output = record { refusal = 1; length = 0; output = output }

abbrev put : List ℕ → List ℕ → OutputCall
put text output = record { refusal = 0; length = length text; output = overwrite text output }

module _ (text output short : List ℕ) where
  put-short : length output < length text → refused short ≡ put_text_of text output short
  unfolding put_text_of
  put-short h = sym (ap (λ t. cond t (put text output) (refused short)) (lt-leb (length text) (length output) h))

  put-fits : length text ≤ length output → put text output ≡ put_text_of text output short
  unfolding put_text_of
  put-fits h = sym (ap (λ t. cond t (put text output) (refused short)) (le-leb (length text) (length output) h))

  -- The refusal tells which of the two it was.
  put-told : (r : OutputResult) (after : List ℕ) → output_of r after ≡ put_text_of text output short
      → (r.refusal ≢ 0 → length output < length text)
      × (r.refusal ≡ 0 → (length text ≤ length output) × (r.length ≡ length text) × (after ≡ overwrite text output))
  unfolding put_text_of output_of
  put-told r after e = go (leb (length text) (length output)) refl
    where
      go : (t : Bool) → leb (length text) (length output) ≡ t
          → (r.refusal ≢ 0 → length output < length text)
          × (r.refusal ≡ 0 → (length text ≤ length output) × (r.length ≡ length text) × (after ≡ overwrite text output))
      go true h =
          let e' : output_of r after ≡ put text output = e ∙ ap (λ t. cond t (put text output) (refused short)) h in (
            λ some. absurd (some (ap (λ c. c.refusal) e')),
            λ none. (leb-true (length text) (length output) h, ap (λ c. c.length) e', ap (λ c. c.output) e'),
          )
      go false h =
          let e' : output_of r after ≡ refused short = e ∙ ap (λ t. cond t (put text output) (refused short)) h in (
            λ some. leb-false (length text) (length output) h,
            λ none. absurd (suc-ne-zero 0 (sym (ap (λ c. c.refusal) e') ∙ none)),
          )

module _ (text output : List ℕ) (line : Text) (e : line ≡ text_of text) where
  counted : line.length ≡ length text
  unfolding text_of
  counted = ap (λ t. t.length) e

  pub text-short : length output < line.length → output_of (record { refusal = 1; length = 0 }) output ≡ put_text_of text output output
  unfolding output_of
  text-short h = put-short text output output (omega (arith, counted))

  pub text-fits : line.length ≤ length output → (after : List ℕ) → after ≡ overwrite (shown line) output
      → output_of (record { refusal = 0; length = line.length }) after ≡ put_text_of text output output
  unfolding output_of
  text-fits h after same =
      (λ i. record { refusal = 0; length = counted i; output = (same ∙ ap (λ l. overwrite l output) (ap shown e ∙ shown-text text)) i })
      ∙ put-fits text output output (omega (arith, counted))

-- ---- a whole batch

module _ (b : Batch) (input output : List ℕ) (r : Fed) (after : List ℕ) (e : fed_of r after ≡ feed_call Count b input output) where
  abbrev f : Feed
  f = feed Count b input (length output)

  stored : after ≡ overwrite f.text output
  unfolding feed_call fed_by
  stored = ap (λ c. c.output) e

  written : r.written ≡ length f.text
  unfolding feed_call fed_by
  written = ap (λ c. c.written) e

  kept : length after ≡ length output
  kept = ap length stored ∙ length-overwrite f.text output (feed-room Count b input (length output) tt)

  left : length input - r.taken ≡ length f.rest
  unfolding feed_call fed_by
  left = omega (arith, ap (λ c. c.taken) e, feed-rest Count b input (length output) tt)

  full : f.full ≡ r.full
  unfolding feed_call fed_by
  full = sym (ap (λ c. c.full) e)

  pub fed-places : (r.taken ≤ length input) × (r.written ≤ length after)
  unfolding feed_call fed_by
  fed-places = (omega (arith, ap (λ c. c.taken) e), omega (arith, written, kept, feed-room Count b input (length output) tt))

  -- The output is zero where it is too short.
  too_short : length output < length (batch_output input) → (store : List ℕ) → length store ≡ length output
      → output_of (record { refusal = 1; length = 0 }) (replicate (length store) 0) ≡ output_call input output
  unfolding output_call output_of
  too_short h store same =
      ap (λ n. refused (replicate n 0)) same ∙ put-short (batch_output input) output (replicate (length output) 0) h

  pub whole-short : r.full ≡ true → output_of (record { refusal = 1; length = 0 }) (replicate (length after) 0) ≡ output_call input output
  whole-short h = too_short (whole_long b input (length output) (full ∙ h)) after kept

  -- The end of the input, behind what is written.
  abbrev ended : List ℕ
  ended = end_text_of r.stage r.batch (length input - r.taken)

  abbrev behind : List ℕ
  behind = take (length after - r.written) (drop r.written after)

  module _ (h : r.full ≡ false) (last : OutputResult) (part : List ℕ) (g : output_of last part ≡ put_text_of ended behind behind) where
    parts : (behind ≡ drop r.written after) × (drop (length after - r.written) (drop r.written after) ≡ [])
    parts = whole_part after r.written fed-places.1

    room : length behind ≡ length output - r.written
    room = ap length parts.0 ∙ length-drop r.written after ∙ ap (λ n. n - r.written) kept

    whole : batch_output input ≡ f.text ++ ended
    unfolding feed_call fed_by
    whole =
        whole-feed b input (length output) (full ∙ h) ∙ ap (λ n. f.text ++ end_text_of f.stage f.batch n) (sym left)
        ∙ ap (λ c. f.text ++ end_text_of c.stage c.batch (length input - r.taken)) (sym e)

    size : length (batch_output input) ≡ r.written + length ended
    size = ap length whole ∙ length-append f.text ended ∙ ap (λ n. n + length ended) (sym written)

    pub whole-less : last.refusal ≢ 0 → (store : List ℕ) → length store ≡ length after
        → output_of (record { refusal = 1; length = 0 }) (replicate (length store) 0) ≡ output_call input output
    whole-less some store same =
        too_short (omega (arith, size, room, (put-told ended behind behind last part g).0 some)) store (same ∙ kept)

    told : last.refusal ≡ 0 → (length ended ≤ length behind) × (last.length ≡ length ended) × (part ≡ overwrite ended behind)
    told none = (put-told ended behind behind last part g).1 none

    pub whole-fits : last.refusal ≡ 0 → r.written + last.length ≤ length output
    whole-fits none = omega (arith, (told none).0, (told none).1, room, kept, fed-places.1)

    -- What is written stands before the end, and the end before what stays.
    joined : last.refusal ≡ 0 → put_mid r.written (length after - r.written) after part ≡ overwrite (batch_output input) output
    unfolding overwrite
    joined none =
        ap₂ (λ l m. take r.written after ++ (l ++ m)) ((told none).2 ∙ ap (overwrite ended) parts.0) parts.1
        ∙ ap (λ l. take r.written after ++ l) (append-nil (overwrite ended (drop r.written after)))
        ∙ ap₂ (λ n l. take n l ++ overwrite ended (drop n l)) written stored
        ∙ ap₂ (λ l m. l ++ overwrite ended m) (take_at f.text rest (length f.text) refl)
        (drop_at f.text rest (length f.text) refl)
        ∙ put-behind f.text ended output
        ∙ ap (λ l. overwrite l output) (sym whole)
      where
        rest : List ℕ
        rest = drop (length f.text) output

    pub whole-all : last.refusal ≡ 0
        → output_of (record { refusal = 0; length = r.written + last.length }) (put_mid r.written (length after - r.written) after part)
        ≡ output_call input output
    unfolding output_call output_of
    whole-all none =
        (λ i. record { refusal = 0; length = (ap (λ n. r.written + n) (told none).1 ∙ sym size) i; output = joined none i })
        ∙ put-fits (batch_output input) output (replicate (length output) 0) (omega (arith, size, room, (told none).0, kept, fed-places.1))
