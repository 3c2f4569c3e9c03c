-- A batch that comes in pieces: what is done with the bytes that have come, and what one call does with its lent stores.
--
-- Main definitions
--   next_sheet left bytes      what the bytes begin with: a whole sheet with its line, a fault, or too little
--   Feed, feed stage b bytes room   the bytes worked to where more are missing, or where the next answer does not fit
--   FeedCall, feed_call        the same of a call that writes the answers at the front of a lent store
use Rattle.std.specs.Prelude.{ℕ, zero, suc, ◌+◌, ◌-◌, Bool, true, false, cond, List, [], ◌++◌, leb, eqb, length, take, drop}
use Rattle.lists.specs.Overwritten.{overwrite}
use Rattle.rules.specs.Batch.{Answer, answer_sheet, answer_bytes, broken, no_tally}
use Rattle.frames.specs.declared.Batch.{Batch}
use Rattle.frames.specs.declared.SheetLine.{SheetLine}
use Rattle.frames.specs.Pieces.{batch_with, begun_of, line_of, counted_of}
use Rattle.placed_answers.specs.Answering.{number_of}
use Rattle.batches.specs.declared.Stage.{Stage}
use Rattle.batches.specs.declared.Stage.TheVariants.{Count, Sheets, Over}
use Rattle.batches.specs.declared.Stream.{Stream}

-- ---- what the bytes begin with

pub data Next : Type 0 where
  -- Bytes are missing.
  waits : Next
  -- A line is broken or out of range, or bytes are left over (SCOPE 5.21).
  breaks : Next
  -- A sheet, by its client and the places where its bytes begin and end.
  sheet : ℕ → ℕ → ℕ → Next

-- The bytes of a sheet after its line, of n bytes in all.
unfoldable pub by_size : SheetLine → ℕ → Next
by_size v n = cond (leb (v.taken + v.bytes) n) (sheet v.client v.taken (v.taken + v.bytes)) waits

unfoldable pub by_line : SheetLine → ℕ → Next
unfolding by_size
by_line v n = cond (eqb v.refusal 4) waits (cond (eqb v.refusal 0) (by_size v n) breaks)

-- With no sheet to come, any byte is left over.
unfoldable pub next_sheet : ℕ → List ℕ → Next
unfolding by_line line_of
next_sheet left bytes =
    cond (eqb left 0) (cond (eqb (length bytes) 0) waits breaks) (by_line (line_of bytes) (length bytes))

-- ---- what is done with them

-- The stage and the batch that are come to, the bytes that are not taken, and what is written; `full` tells that the next answer
-- does not fit.
pub record Feed : Type 0 where
  pub stage : Stage
  pub batch : Batch
  pub rest : List ℕ
  pub text : List ℕ
  pub full : Bool

abbrev pub waiting_at : Stage → Batch → List ℕ → Feed
waiting_at stage b bytes = record { stage = stage; batch = b; rest = bytes; text = []; full = false }

abbrev pub full_at : Stage → Batch → List ℕ → Feed
full_at stage b bytes = record { stage = stage; batch = b; rest = bytes; text = []; full = true }

-- `3` is written, and whatever comes is passed over (SCOPE 5.21).
abbrev pub over_at : Batch → List ℕ → Feed
over_at b text = record { stage = Over; batch = b; rest = []; text = text; full = false }

unfoldable pub breaking_at : Stage → Batch → List ℕ → ℕ → Feed
unfolding broken
breaking_at stage b bytes room = cond (leb (length broken) room) (over_at b broken) (full_at stage b bytes)

-- One sheet: it is answered and counted, or the work stops.
pub data Step : Type 0 where
  stopped : Feed → Step
  answered : Batch → List ℕ → List ℕ → Step

unfoldable pub answer_step : Answer → ℕ → Batch → List ℕ → ℕ → ℕ → Step
unfolding answer_bytes counted_of number_of
answer_step a client b bytes room to =
    cond (leb (length (answer_bytes a)) room) (answered (counted_of b client (number_of a)) (drop to bytes) (answer_bytes a))
    (stopped (full_at Sheets b bytes))

unfoldable pub step_by : Next → Batch → List ℕ → ℕ → Step
unfolding breaking_at answer_step answer_sheet
step_by waits b bytes room = stopped (waiting_at Sheets b bytes)
step_by breaks b bytes room = stopped (breaking_at Sheets b bytes room)
step_by (sheet client from to) b bytes room =
    answer_step (answer_sheet (take (to - from) (drop from bytes))) client b bytes room to

unfoldable pub step : Batch → List ℕ → ℕ → Step
unfolding step_by next_sheet
step b bytes room = step_by (next_sheet b.left bytes) b bytes room

-- What is written before.
abbrev pub prefixed : List ℕ → Feed → Feed
prefixed l f = record { stage = f.stage; batch = f.batch; rest = f.rest; text = l ++ f.text; full = f.full }

unfoldable pub after_step : Step → ℕ → (Batch → List ℕ → ℕ → Feed) → Feed
after_step (stopped f) room more = f
after_step (answered b rest text) room more = prefixed text (more b rest (room - length text))

-- At most k sheets.
unfoldable pub steps : ℕ → Batch → List ℕ → ℕ → Feed
unfolding step after_step
steps zero b bytes room = waiting_at Sheets b bytes
steps (suc k) b bytes room = after_step (step b bytes room) room (steps k)

-- Every sheet that is to come, and a last look for bytes left over.
unfoldable pub feed_sheets : Batch → List ℕ → ℕ → Feed
unfolding steps
feed_sheets b bytes room = steps (suc b.left) b bytes room

-- The line with the sheet count, and the sheets.
unfoldable pub feed_count : Batch → List ℕ → ℕ → Feed
unfolding feed_sheets begun_of breaking_at
feed_count b bytes room =
    let v = begun_of bytes in
    let begun = feed_sheets v.batch (drop v.taken bytes) room in
    cond (eqb v.refusal 4) (waiting_at Count b bytes) (cond (eqb v.refusal 0) begun (breaking_at Count b bytes room))

unfoldable pub feed : Stage → Batch → List ℕ → ℕ → Feed
unfolding feed_count feed_sheets
feed Count b bytes room = feed_count b bytes room
feed Sheets b bytes room = feed_sheets b bytes room
feed Over b bytes room = over_at b []

-- ---- the call that does it

pub record FeedCall : Type 0 where
  pub stage : Stage
  pub batch : Batch
  pub taken : ℕ
  pub written : ℕ
  pub full : Bool
  pub output : List ℕ

-- What is written stands at the front of the output, whose other bytes stay.
unfoldable pub fed_by : Feed → List ℕ → List ℕ → FeedCall
unfolding overwrite
fed_by f bytes output =
    record {
      stage = f.stage;
      batch = f.batch;
      taken = length bytes - length f.rest;
      written = length
          f.text;
      full = f.full;
      output = overwrite f.text output;
    }

unfoldable pub feed_call : Stage → Batch → List ℕ → List ℕ → FeedCall
unfolding fed_by feed
feed_call stage b bytes output = fed_by (feed stage b bytes (length output)) bytes output

-- ---- the state between calls

abbrev pub start_of : Stream
start_of = record { stage = Count; batch = batch_with 0 no_tally; held = 0 }
