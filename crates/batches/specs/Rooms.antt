-- How much room the calls of a batch need: with 65,538 bytes every call takes at least one byte, so that calls in a row
-- come to the end of the input (SCOPE 5.34).
--
-- Main definitions
--   answer_room        the bytes of the longest answer: a line and a sheet
--
-- Main statements
--   answer-room, move-room   no answer is longer
--   end-room, end_fits       at the end there are at most 192 bytes to write
--   gets-on           a call with that room takes a byte of a piece that has one
--   pieces-exist      for every input there are calls that take all of it
use Rattle.std.specs.Prelude.{ℕ, zero, suc, ◌+◌, ◌-◌, ◌≤◌, ◌<◌, ◌≡◌, refl, ◌⊎◌, Bool, true, false, cond, List, [], ◌∷◌, ◌++◌, pos, length, take, drop, replicate}
use Rattle.std.proofs.Common.{zero-le, le_refl, arith, ap, subst, inl, inr, append-nil, le-leb, length-append, length-drop}
use Rattle.std.proofs.Math.Decide.{dec_lt}
use Rattle.rules.specs.Numbers.{decimal, line, lines}
use Rattle.rules.specs.Batch.{most_bytes, Answer, answer_sheet, answer_bytes, broken, closing_by, closing, batch_output}
use Rattle.tokens.specs.WrittenNumbers.{is_number-decimal}
use Rattle.answers.specs.Answers.{RightAnswer, right-accepted, right-refused, answer-right}
use Rattle.frames.specs.declared.Batch.{Batch}
use Rattle.tokens.specs.Windows.{number_line, batch_line, number_short}
use Rattle.frames.specs.Pieces.{text_room, tally_of, closeable, close_text, Counted}
use Rattle.frames.specs.Lines.{tally-short}
use Rattle.batches.specs.declared.Stage.{Stage}
use Rattle.batches.specs.declared.Stage.TheVariants.{Count, Sheets, Over}
use Rattle.batches.specs.declared.Stream.{Stream}
use Rattle.batches.specs.Feeds.{Feed, start_of}
use Rattle.batches.specs.PieceCalls.{held_need, stream_check, PieceCall, piece_by, piece_call, end_text_of, put_text_of, end_call}
use Rattle.batches.specs.Moves.{counted-in, Moved, Move, begins, count-breaks, sheets-break, answering}
use Rattle.batches.specs.FeedLaws.{TooLong, Untaken, feed-held}
use Rattle.batches.specs.PieceLaws.{check-right, right-check, fed_by, call-is, piece-right, greedy, Run, ended, called}
use Rattle.batches.specs.PieceLaws.{start_right, pieces-output}

-- ---- lines

-- A number has at most ten digits and a minus (SCOPE 4.2).
decimal-room : (n : ℕ) → n ≤ 1000 → length (decimal (pos n)) < number_line
decimal-room n h = number_short (decimal (pos n)) (is_number-decimal (pos n) (omega arith))

line-room : (n : ℕ) → n ≤ 1000 → length (lines ((pos n ∷ []) ∷ [])) ≤ batch_line
unfolding lines line
line-room n h = simp length-append (omega (arith, decimal-room n h))

broken-room : length broken ≤ batch_line
unfolding broken
broken-room = line-room 3 (omega arith)

-- ---- answers

-- The line `0` (SCOPE 5.11) and a sheet of at most 65,536 bytes (SCOPE 5.13).
abbrev pub answer_room : ℕ
answer_room = 2 + most_bytes

pub answer-room : (sheet : List ℕ) → length (answer_bytes (answer_sheet sheet)) ≤ answer_room
unfolding answer_bytes
answer-room sheet = go (answer_sheet sheet) (answer-right sheet)
  where
    go : (a : Answer) → RightAnswer a → length (answer_bytes a) ≤ answer_room
    go a (right-accepted {bytes = bytes} few) = let h : suc (suc (length bytes)) ≤ answer_room = omega arith in h
    go a (right-refused n few) = omega (arith, line-room (suc n) (omega arith))

pub move-room : {stage : Stage} {b : Batch} {bytes : List ℕ} {m : Moved} → Move stage b bytes m
    → length m.text ≤ answer_room
move-room (begins z) = zero-le
move-room (count-breaks h i) = omega (arith, broken-room)
move-room (sheets-break l) = omega (arith, broken-room)
move-room (answering {bytes = bytes} {from = from} {to = to} l e) =
    subst (λ a. length (answer_bytes a) ≤ answer_room) e (answer-room (take (to - from) (drop from bytes)))

-- ---- the end

pub end-room : (stage : Stage) (b : Batch) (held : ℕ) → Counted b → length (end_text_of stage b held) ≤ text_room
unfolding end_text_of close_text closing_by tally_of
end-room Count b held few = omega (arith, broken-room)
end-room Sheets b held few = go (closeable b) (replicate held 0)
  where
    go : (t : Bool) (over : List ℕ) → length (cond t (closing (tally_of b) over) broken) ≤ text_room
    go true [] = tally-short (tally_of b) (omega arith) (omega arith)
    go true (x ∷ over) = omega (arith, broken-room)
    go false over = omega (arith, broken-room)
end-room Over b held few = zero-le

pub end_fits : (s : Stream) (store output : List ℕ) → stream_check s store ≡ 0 → text_room ≤ length output
    → (end_call s output).refusal ≡ 0
unfolding end_call put_text_of
end_fits s store output right h =
    let text = end_text_of s.stage s.batch s.held in
    let fits : length text ≤ length output =
    omega (arith, end-room s.stage s.batch s.held (check-right s store right).counted) in
    rw (le-leb (length text) (length output) fits)

-- ---- calls that come to an end

pub gets-on : (s : Stream) (store piece output : List ℕ) → stream_check s store ≡ 0 → answer_room ≤ length output
    → 1 ≤ length piece → 1 ≤ (piece_call s store piece output).taken
unfolding piece_by
gets-on s store piece output right room some = by-taken (dec_lt c.taken (length piece))
  where
    c : PieceCall
    c = piece_call s store piece output

    f : Feed
    f = fed_by s store piece output right

    -- Some byte of the piece is taken unless nothing is, and then the first answer has no room.
    by-rest : TooLong f (length output)
        → Untaken f s.stage s.batch (take s.held store ++ piece) ⊎ (length f.rest ≤ length piece - 1)
        → 1 ≤ c.taken
    by-rest t (inl u) = absurd (omega (arith, t.long, ap length u.no_text, move-room t.move))
    by-rest t (inr h) = omega (arith, ap (λ c. c.taken) (call-is s store piece output right))

    by-taken : Dec (c.taken < length piece) → 1 ≤ c.taken
    by-taken (no h) = omega arith
    by-taken (yes h) =
        let r = check-right s store right in
        let counts = counted-in s.stage s.batch r.counted in
        by-rest (greedy s store piece output right h)
        (feed-held s.stage s.batch (take s.held store) piece (length output) counts r.waiting)

module _ (output : List ℕ) (room : answer_room ≤ length output) where
  -- There are calls for fewer than k bytes.
  abbrev CallsBelow : ℕ → Type 0
  CallsBelow k =
      (s : Stream) (store remaining : List ℕ) → stream_check s store ≡ 0 → length remaining < k
      → (written : List ℕ) × Run s store remaining written

  next-call : (k : ℕ) → CallsBelow k → CallsBelow (suc k)
  next-call k later s store [] right h = (_, ended output (end_fits s store output right (omega arith)))
  next-call k later s store (x ∷ l) right h =
      let c = piece_call s store (x ∷ l) output in
      let less : length (drop c.taken (x ∷ l)) < k =
      omega (arith, length-drop c.taken (x ∷ l), gets-on s store (x ∷ l) output right room (omega arith)) in
      let right' = piece-right s store (x ∷ l) output right in
      let (written, run) = later c.stream c.store (drop c.taken (x ∷ l)) right' less in
      (take c.written c.output ++ written, called (x ∷ l) [] output (append-nil (x ∷ l)) refl run)

  calls-exist : (k : ℕ) → CallsBelow k
  calls-exist zero = λ s store remaining right h. absurd (omega arith)
  calls-exist (suc k) = next-call k (calls-exist k)

  pub pieces-exist : (store input : List ℕ) → held_need ≤ length store → Run start_of store input (batch_output input)
  pieces-exist store input long =
      let right = right-check start_of store (start_right store long) in
      let (written, run) = calls-exist (suc (length input)) start_of store input right (le_refl (suc (length input))) in
      subst (Run start_of store input) (pieces-output store input written long run) run
