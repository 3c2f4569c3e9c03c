-- The public calls of a batch: one piece of it, its end, and a whole batch on one slice.
--
-- Main definitions
--   held_need             the bytes that the store for held bytes needs
--   stream_check s store  what is wrong with a stream that is handed in, or 0
--   PieceCall, piece_call s store piece output   one piece
--   OutputCall, end_call s output                the end of the input
--   output_call input output                     a whole batch
use Rattle.std.specs.Prelude.{ℕ, zero, suc, ◌+◌, ◌-◌, Bool, true, false, ◌&&◌, cond, List, [], ◌++◌, leb, ltb, eqb, length, take, replicate}
use Rattle.lists.specs.Overwritten.{overwrite}
use Rattle.lists.specs.Totals.{total}
use Rattle.rules.specs.Batch.{broken, batch_output}
use Rattle.frames.specs.declared.Batch.{Batch}
use Rattle.frames.specs.Pieces.{begun_of, accepted_in, refused_in, close_text}
use Rattle.batches.specs.declared.Stage.{Stage}
use Rattle.batches.specs.declared.Stage.TheVariants.{Count, Sheets, Over}
use Rattle.batches.specs.declared.Stream.{Stream}
use Rattle.batches.specs.declared.PieceResult.{PieceResult}
use Rattle.batches.specs.declared.OutputResult.{OutputResult}
use Rattle.batches.specs.Feeds.{Next, waits, breaks, sheet, next_sheet, Feed, feed, start_of}

-- A line of at most 24 bytes and a sheet of at most 32,768 (SCOPE 5.33).
abbrev pub held_need : ℕ
held_need = 32792

-- ---- a stream that is handed in

unfoldable pub is_waiting : Next → Bool
is_waiting waits = true
is_waiting breaks = false
is_waiting (sheet client from to) = false

-- Do the held bytes begin a line or a sheet, and are they too few for it?
unfoldable pub waits_with_of : Stage → Batch → List ℕ → Bool
unfolding is_waiting next_sheet begun_of
waits_with_of Count b held = eqb (begun_of held).refusal 4
waits_with_of Sheets b held = is_waiting (next_sheet b.left held)
waits_with_of Over b held = eqb (length held) 0

-- At most 1,000 sheets in all, and fewer bytes are held than a line and a sheet can have (SCOPE 5.34).
unfoldable pub stream_right_of : Stream → Bool
unfolding total
stream_right_of s = leb (s.batch.left + accepted_in s.batch + refused_in s.batch) 1000 && ltb s.held held_need

-- The checks of SCOPE 5.34: sizes (2), lengths (1), and then the bytes that the store holds (5).
unfoldable pub stream_check : Stream → List ℕ → ℕ
unfolding stream_right_of waits_with_of
stream_check s store =
    let bytes : ℕ = cond (waits_with_of s.stage s.batch (take s.held store)) 0 5 in
    let lengths : ℕ = cond (leb held_need (length store)) bytes 1 in
    cond (stream_right_of s) lengths 2

-- ---- one piece

pub record PieceCall : Type 0 where
  pub refusal : ℕ
  pub stream : Stream
  pub taken : ℕ
  pub written : ℕ
  pub store : List ℕ
  pub output : List ℕ

unfoldable pub call_of : PieceResult → List ℕ → List ℕ → PieceCall
call_of r store output =
    record { refusal = r.refusal; stream = r.stream; taken = r.taken; written = r.written; store = store; output = output }

-- The bytes that are held afterwards: all that is not taken, or, where the next answer does not fit, those that were held before and
-- are not taken.
unfoldable pub kept_of : Feed → List ℕ → List ℕ
kept_of f piece = cond f.full (take (length f.rest - length piece) f.rest) f.rest

-- The bytes that are held and those of the piece are laid end to end in the store, as far as a line and a sheet can go.
unfoldable pub laid : ℕ → List ℕ → List ℕ
laid held bytes = cond (eqb held 0) [] (take held_need bytes)

unfoldable pub piece_by : Feed → Stream → List ℕ → List ℕ → List ℕ → PieceCall
unfolding kept_of laid overwrite
piece_by f s store piece output =
    let kept = kept_of f piece in
    record {
      refusal = 0;
      stream = record { stage = f.stage; batch = f.batch; held = length kept };
      taken = length piece - (length f.rest - length kept);
      written = length f.text;
      store = overwrite kept (overwrite (laid s.held (take s.held store ++ piece)) store);
      output = overwrite f.text output;
    }

unfoldable pub piece_refused : ℕ → List ℕ → List ℕ → PieceCall
piece_refused n store output =
    record { refusal = n; stream = start_of; taken = 0; written = 0; store = store; output = output }

unfoldable pub after_stream_check : ℕ → Stream → List ℕ → List ℕ → List ℕ → PieceCall
unfolding piece_by feed piece_refused
after_stream_check zero s store piece output =
    piece_by (feed s.stage s.batch (take s.held store ++ piece) (length output)) s store piece output
after_stream_check (suc n) s store piece output = piece_refused (suc n) store output

unfoldable pub piece_call : Stream → List ℕ → List ℕ → List ℕ → PieceCall
unfolding after_stream_check stream_check
piece_call s store piece output = after_stream_check (stream_check s store) s store piece output

-- ---- the end of the input, and a whole batch

pub record OutputCall : Type 0 where
  pub refusal : ℕ
  pub length : ℕ
  pub output : List ℕ

unfoldable pub output_of : OutputResult → List ℕ → OutputCall
output_of r output = record { refusal = r.refusal; length = r.length; output = output }

-- What is still written at the end of the input: nothing after a broken batch (SCOPE 5.35).
unfoldable pub end_text_of : Stage → Batch → ℕ → List ℕ
unfolding broken close_text
end_text_of Count b held = broken
end_text_of Sheets b held = close_text b held
end_text_of Over b held = []

-- The text at the front of the output, or 1 where it does not fit.
unfoldable pub put_text_of : List ℕ → List ℕ → List ℕ → OutputCall
unfolding overwrite
put_text_of text output short =
    let put : OutputCall = record { refusal = 0; length = length text; output = overwrite text output } in
    cond (leb (length text) (length output)) put (record { refusal = 1; length = 0; output = short })

-- An output too short is found before anything is written, and stays as it is (SCOPE 5.35).
unfoldable pub end_call : Stream → List ℕ → OutputCall
unfolding put_text_of end_text_of
end_call s output = put_text_of (end_text_of s.stage s.batch s.held) output output

-- An output too short is found during the work: all of it is zero (SCOPE 5.32).
unfoldable pub output_call : List ℕ → List ℕ → OutputCall
unfolding put_text_of batch_output
output_call input output = put_text_of (batch_output input) output (replicate (length output) 0)
