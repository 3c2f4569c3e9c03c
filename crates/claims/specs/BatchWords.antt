-- The words in which the claims on a batch are said.
--
-- Main definitions
--   PieceWasGiven, InputWasEnded, BatchWasAnswered   what a call on a batch gave back and left: its contract
--   StreamInRange, StoreHolds, HeldWaits, StreamRight   the checks of a stream that is handed in
--   PieceNumber n                a number that a call on a piece returns
--   PieceCourse .. c             all that a call on a piece can do
--   left_over_of piece c             the bytes that are still to be worked: those held, and those of the piece not taken
--   NextTooLong piece output c   the next answer does not fit behind those that the call c wrote
--   last_text s                   what is still written at the end of the input
--   no_room_of store, whole_text text output   the call that was refused for want of room, and the one that has written a text
--   TextCourse text output short e   all that a call that writes a text can do; `short` is an output without room afterwards
use Rattle.std.specs.Prelude.{ℕ, ◌+◌, ◌≤◌, ◌<◌, ◌≡◌, ◌⊎◌, true, List, ◌++◌, length, take, drop}
use Rattle.lists.specs.Overwritten.{overwrite}
use Rattle.frames.specs.Pieces.{Counted}
use Rattle.batches.specs.declared.Stream.{Stream}
use Rattle.batches.specs.Feeds.{feed}
use Rattle.batches.specs.PieceCalls.{held_need, waits_with_of, PieceCall, piece_by, piece_refused, piece_call}
use Rattle.batches.specs.PieceCalls.{OutputCall, end_text_of, end_call, output_call}
use Rattle.batches.specs.Moves.{Moved, Move}
use Rattle.batches.specs.PieceLaws.{Right}

-- ---- one piece

-- The contract of `batches::piece`, where c is `call_of` of what it gave back and left. `store` is that for held bytes.
pub record PieceWasGiven (s : Stream) (store piece output : List ℕ) (c : PieceCall) : Type 0 where
  pub called : c ≡ piece_call s store piece output

-- At most 1,000 sheets in all, and fewer than 32,792 bytes held (SCOPE 5.34).
abbrev pub StreamInRange : Stream → Type 0
StreamInRange s = Counted s.batch × (s.held < held_need)

-- The store for held bytes has at least 32,792: a line of at most 24 and a sheet of at most 32,768 (SCOPE 5.33).
abbrev pub StoreHolds : List ℕ → Type 0
StoreHolds store = held_need ≤ length store

-- The bytes that are held begin the line or the sheet that is to come, and are too few for it (SCOPE 5.34).
abbrev pub HeldWaits : Stream → List ℕ → Type 0
HeldWaits s store = waits_with_of s.stage s.batch (take s.held store) ≡ true

-- All three.
abbrev pub StreamRight : Stream → List ℕ → Type 0
StreamRight s store = Right s store

abbrev pub PieceNumber : ℕ → Type 0
PieceNumber n = (n ≡ 0) ⊎ ((n ≡ 1) ⊎ ((n ≡ 2) ⊎ (n ≡ 5)))

-- The bytes that are held and those of the piece were worked, as far as the answers fit.
abbrev pub worked : Stream → List ℕ → List ℕ → List ℕ → PieceCall
worked s store piece output =
    piece_by (feed s.stage s.batch (take s.held store ++ piece) (length output)) s store piece output

pub data PieceCourse (s : Stream) (store piece output : List ℕ) : PieceCall → Type 0 where
  stream-wrong : ¬ StreamInRange s → PieceCourse s store piece output (piece_refused 2 store output)
  store-short : StreamInRange s → ¬ StoreHolds store → PieceCourse s store piece output (piece_refused 1 store output)
  held-wrong : StreamInRange s → StoreHolds store → ¬ HeldWaits s store
      → PieceCourse s store piece output (piece_refused 5 store output)
  piece-worked : StreamRight s store → PieceCourse s store piece output (worked s store piece output)

abbrev pub left_over_of : List ℕ → PieceCall → List ℕ
left_over_of piece c = take c.stream.held c.store ++ drop c.taken piece

-- What is left over begins with a whole line or sheet whose answer has no room behind what the call wrote (SCOPE 5.34).
pub record NextTooLong (piece output : List ℕ) (c : PieceCall) : Type 0 where
  pub next : Moved
  pub move : Move c.stream.stage c.stream.batch (left_over_of piece c) next
  pub long : length output < c.written + length next.text

-- ---- the end of the input, and a whole batch

-- The contract of `batches::finish`.
pub record InputWasEnded (s : Stream) (output : List ℕ) (e : OutputCall) : Type 0 where
  pub called : e ≡ end_call s output

-- The contract of `batches::output`.
pub record BatchWasAnswered (input output : List ℕ) (e : OutputCall) : Type 0 where
  pub called : e ≡ output_call input output

-- The last lines of the batch, `3` where it is not whole, and nothing where it was broken before (SCOPE 5.35).
abbrev pub last_text : Stream → List ℕ
last_text s = end_text_of s.stage s.batch s.held

-- The output is too short.
abbrev pub no_room_of : List ℕ → OutputCall
no_room_of short = record { refusal = 1; length = 0; output = short }

-- The output begins with the text, and the bytes past it stay.
abbrev pub whole_text : List ℕ → List ℕ → OutputCall
whole_text text output = record { refusal = 0; length = length text; output = overwrite text output }

pub data TextCourse (text output short : List ℕ) : OutputCall → Type 0 where
  text-long : length output < length text → TextCourse text output short (no_room_of short)
  text-written : length text ≤ length output → TextCourse text output short (whole_text text output)
