-- The laws of a batch lifted to the calls, the exported one too.
--
-- Main statements
--   piece-course                      every call on a piece takes one of the courses
--   piece-number, piece-refused       the numbers that there are, and what a refused call gives back and leaves
--   piece-two, piece-one, piece-five, piece-zero   where each number comes
--   piece-again                       the stream of a call that is not refused is right for the next one
--   piece_store, piece-written, piece-taken   what a call leaves in its stores, and how many bytes it takes
--   piece-some, piece-stops           it takes a byte where there is room, and all of the piece unless an answer has no room
--   end-course, whole-course          every call at the end, and every call on a whole batch, takes one of the courses
--   end_fits                          192 bytes are enough at the end
--   text-number, text-refused, text-one, text-zero, text-front   what such a call gives back and leaves, and when
--   export-batch-course               every exported call on a whole batch takes one of the courses
--   export-batch-number, export-batch-none, export-batch-cleared, export-batch-one, export-batch-front   what it gives
--                                     back and leaves, and when
use Prim.Native.Nat.{ℕ, ◌+◌, ◌≤◌, ◌<◌, zero-le}
use Rattle.std.proofs.Math.Nat.{min-le_left}
use native.Mathlib.Omega.{arith}
use Rattle.std.specs.Prelude.{◌≡◌, ◌↔◌, ◌≢◌, ◌⊎◌, Bool, true, false, cond, List, [], ◌∷◌, ◌++◌, T, leb, ltb, eqb, ℤ, pos, take, replicate}
use Rattle.std.proofs.Math.Path.{refl, ap, subst}
use Rattle.std.proofs.Common.{sym, ◌∙◌, leb-true, leb-false, leb→le, le→leb, ltb→lt, lt→ltb, length-take}
use Rattle.std.proofs.Math.Logic.{inl, inr}
use Rattle.std.proofs.Math.ListN.{length}
use Rattle.lists.specs.Tests.{T-&&, T-is}
use Rattle.rules.specs.Calls.{zeros}
use Rattle.lists.specs.Overwritten.{overwrite, drop-overwrite, length-overwrite}
use Rattle.rules.specs.Batch.{batch_output}
use Rattle.frames.specs.Pieces.{accepted_in, refused_in, text_room}
use Rattle.batches.specs.declared.Stream.{Stream}
use Rattle.batches.specs.Feeds.{Feed}
use Rattle.batches.specs.PieceCalls.{held_need, waits_with_of, stream_right_of, stream_check, PieceCall, kept_of, laid, piece_by}
use Rattle.batches.specs.PieceCalls.{piece_refused, after_stream_check, piece_call, OutputCall, put_text_of, end_call, output_call}
use Rattle.batches.specs.Moves.{Move, counted-in}
use Rattle.batches.specs.FeedLaws.{feed-room}
use Rattle.batches.specs.PieceLaws.{check-right, right-check, fed_by, call-is, piece-right, piece-rest, greedy}
use Rattle.batches.specs.Rooms.{answer_room, gets-on}
use Rattle.batches.specs.Rooms as Rooms
use Rattle.exported_sheets.specs.Writes.{Written, not_written}
use Rattle.exports.specs.Batches.{export_batch, batch-missing, batch-worked}
use Rattle.claims.specs.RunWords.{Rewritten, Cleared, Kept}
use Rattle.claims.specs.BatchWords.{PieceWasGiven, StreamInRange, StoreHolds, HeldWaits, StreamRight, PieceNumber}
use Rattle.claims.specs.BatchWords.{worked, PieceCourse, stream-wrong, store-short, held-wrong, piece-worked}
use Rattle.claims.specs.BatchWords.{left_over_of, NextTooLong, InputWasEnded, BatchWasAnswered, last_text, no_room_of}
use Rattle.claims.specs.BatchWords.{whole_text, TextCourse, text-long, text-written}
use Rattle.claims.specs.ExportWords.{ExportedBatch, ExportBatchCourse, no_place, as-answered}
use Rattle.claims.specs.LiftedRuns.{overwrite-rewritten, Verdict, verdict, two, one, five, none_found}

-- ---- the checks

range-iff : (s : Stream) → T (stream_right_of s) ↔ StreamInRange s
unfolding stream_right_of
range-iff s = (to, from)
  where
    all : ℕ
    all = s.batch.left + accepted_in s.batch + refused_in s.batch

    to : T (stream_right_of s) → StreamInRange s
    to h =
        let e = (T-&& (leb all 1000) (ltb s.held held_need)).0 h in
        (leb→le all 1000 e.0, ltb→lt s.held held_need e.1)

    from : StreamInRange s → T (stream_right_of s)
    from h = (T-&& (leb all 1000) (ltb s.held held_need)).1 (le→leb all 1000 h.0, lt→ltb s.held held_need h.1)

stream-verdict : (s : Stream) (store : List ℕ)
    → Verdict (StreamInRange s) (StoreHolds store) (HeldWaits s store) (stream_check s store)
unfolding stream_check
stream-verdict s store =
    verdict (stream_right_of s) (leb held_need (length store)) (waits_with_of s.stage s.batch (take s.held store))
    (range-iff s) (leb→le held_need (length store), le→leb held_need (length store)) (T-is _)

-- ---- one piece

pub piece-course : {s : Stream} {store piece output : List ℕ} {c : PieceCall} → PieceWasGiven s store piece output c
    → PieceCourse s store piece output c
unfolding piece_call after_stream_check
piece-course {s} {store} {piece} {output} call =
    subst (PieceCourse s store piece output) (sym call.called) (by (stream_check s store) (stream-verdict s store))
  where
    by : (n : ℕ) → Verdict (StreamInRange s) (StoreHolds store) (HeldWaits s store) n
        → PieceCourse s store piece output (after_stream_check n s store piece output)
    by n (two r) = stream-wrong r
    by n (one r l) = store-short r l
    by n (five r l w) = held-wrong r l w
    by n (none_found r l w) = piece-worked (record { counted = r.0; few = r.1; long = l; waiting = w })

laid-short : (held : ℕ) (bytes : List ℕ) → length (laid held bytes) ≤ held_need
unfolding laid
laid-short held bytes = go (eqb held 0)
  where
    go : (t : Bool) → length (cond t [] (take held_need bytes)) ≤ held_need
    go true = zero-le
    go false = rw length-take (min-le_left held_need (length bytes))

module _ (s : Stream) (store piece output : List ℕ) (right : StreamRight s store) where
  checked : stream_check s store ≡ 0
  checked = right-check s store right

  abbrev fed : Feed
  fed = fed_by s store piece output checked

  is-worked : piece_call s store piece output ≡ worked s store piece output
  is-worked = call-is s store piece output checked

  worked-again : StreamRight (worked s store piece output).stream (worked s store piece output).store
  worked-again =
      subst (λ c. StreamRight c.stream c.store) is-worked (check-right _ _ (piece-right s store piece output checked))

  worked-store : Kept held_need store (worked s store piece output).store
  unfolding piece_by
  worked-store =
      let l = laid s.held (take s.held store ++ piece) in
      let k = kept_of fed piece in
      let few : length k < held_need = worked-again.few in
      let short = laid-short s.held (take s.held store ++ piece) in
      let same : length (overwrite l store) ≡ length store = length-overwrite l store (omega (arith, right.long)) in (
        drop-overwrite held_need k (overwrite l store) (omega arith) ∙ drop-overwrite held_need l store short,
        length-overwrite k (overwrite l store) (omega (arith, right.long)) ∙ same,
      )

  worked-output : let c = worked s store piece output in (c.written ≤ length output) × Kept c.written output c.output
  unfolding piece_by
  worked-output =
      let room =
      feed-room s.stage s.batch (take s.held store ++ piece) (length output)
      (counted-in s.stage s.batch right.counted) in
      let r = overwrite-rewritten fed.text output refl room in
      (room, (r.rest, r.same_length))

  worked-stops : (worked s store piece output).taken < length piece → NextTooLong piece output (worked s store piece output)
  unfolding piece_by
  worked-stops h =
      let w = worked s store piece output in
      let t = greedy s store piece output checked (subst (λ c. c.taken < length piece) (sym is-worked) h) in
      let rest = subst (λ c. left_over_of piece c ≡ fed.rest) is-worked (piece-rest s store piece output checked) in
      record {
        next = t.next;
        move = subst (λ l. Move w.stream.stage w.stream.batch l t.next) (sym rest) t.move;
        long = t.long;
      }

module _ {s : Stream} {store piece output : List ℕ} where
  number-course : {c : PieceCall} → PieceCourse s store piece output c → PieceNumber c.refusal
  unfolding piece_refused piece_by
  number-course (stream-wrong r) = inr (inr (inl refl))
  number-course (store-short r l) = inr (inl refl)
  number-course (held-wrong r l w) = inr (inr (inr refl))
  number-course (piece-worked right) = inl refl

  refused-course : {c : PieceCall} → PieceCourse s store piece output c → c.refusal ≢ 0
      → c ≡ piece_refused c.refusal store output
  unfolding piece_refused piece_by
  refused-course (stream-wrong r) h = refl
  refused-course (store-short r l) h = refl
  refused-course (held-wrong r l w) h = refl
  refused-course (piece-worked right) h = absurd (h refl)

  two-course : {c : PieceCall} → PieceCourse s store piece output c → (c.refusal ≡ 2) ↔ (¬ StreamInRange s)
  unfolding piece_refused piece_by
  two-course (stream-wrong r) = (λ e. r, λ h. refl)
  two-course (store-short r l) = (λ e. absurd (omega arith), λ h. absurd (h r))
  two-course (held-wrong r l w) = (λ e. absurd (omega arith), λ h. absurd (h r))
  two-course (piece-worked right) = (λ e. absurd (omega arith), λ h. absurd (h (right.counted, right.few)))

  one-course : {c : PieceCall} → PieceCourse s store piece output c
      → (c.refusal ≡ 1) ↔ (StreamInRange s × (¬ StoreHolds store))
  unfolding piece_refused piece_by
  one-course (stream-wrong r) = (λ e. absurd (omega arith), λ h. absurd (r h.0))
  one-course (store-short r l) = (λ e. (r, l), λ h. refl)
  one-course (held-wrong r l w) = (λ e. absurd (omega arith), λ h. absurd (h.1 l))
  one-course (piece-worked right) = (λ e. absurd (omega arith), λ h. absurd (h.1 right.long))

  five-course : {c : PieceCall} → PieceCourse s store piece output c
      → (c.refusal ≡ 5) ↔ (StreamInRange s × StoreHolds store × (¬ HeldWaits s store))
  unfolding piece_refused piece_by
  five-course (stream-wrong r) = (λ e. absurd (omega arith), λ h. absurd (r h.0))
  five-course (store-short r l) = (λ e. absurd (omega arith), λ h. absurd (l h.1))
  five-course (held-wrong r l w) = (λ e. (r, l, w), λ h. refl)
  five-course (piece-worked right) = (λ e. absurd (omega arith), λ h. absurd (h.2 right.waiting))

  zero-course : {c : PieceCall} → PieceCourse s store piece output c → (c.refusal ≡ 0) ↔ StreamRight s store
  unfolding piece_refused piece_by
  zero-course (stream-wrong r) = (λ e. absurd (omega arith), λ h. absurd (r (h.counted, h.few)))
  zero-course (store-short r l) = (λ e. absurd (omega arith), λ h. absurd (l h.long))
  zero-course (held-wrong r l w) = (λ e. absurd (omega arith), λ h. absurd (w h.waiting))
  zero-course (piece-worked right) = (λ e. right, λ h. refl)

  store-course : {c : PieceCall} → PieceCourse s store piece output c → Kept held_need store c.store
  unfolding piece_refused
  store-course (stream-wrong r) = (refl, refl)
  store-course (store-short r l) = (refl, refl)
  store-course (held-wrong r l w) = (refl, refl)
  store-course (piece-worked right) = worked-store s store piece output right

  output-course : {c : PieceCall} → PieceCourse s store piece output c
      → (c.written ≤ length output) × Kept c.written output c.output
  unfolding piece_refused
  output-course (stream-wrong r) = (zero-le, (refl, refl))
  output-course (store-short r l) = (zero-le, (refl, refl))
  output-course (held-wrong r l w) = (zero-le, (refl, refl))
  output-course (piece-worked right) = worked-output s store piece output right

  taken-course : {c : PieceCall} → PieceCourse s store piece output c → c.taken ≤ length piece
  unfolding piece_refused piece_by
  taken-course (stream-wrong r) = zero-le
  taken-course (store-short r l) = zero-le
  taken-course (held-wrong r l w) = zero-le
  taken-course (piece-worked right) = omega arith

module _ {s : Stream} {store piece output : List ℕ} {c : PieceCall} (call : PieceWasGiven s store piece output c) where
  pub piece-number : PieceNumber c.refusal
  piece-number = number-course (piece-course call)

  pub piece-refused : c.refusal ≢ 0 → c ≡ piece_refused c.refusal store output
  piece-refused = refused-course (piece-course call)

  pub piece-two : (c.refusal ≡ 2) ↔ (¬ StreamInRange s)
  piece-two = two-course (piece-course call)

  pub piece-one : (c.refusal ≡ 1) ↔ (StreamInRange s × (¬ StoreHolds store))
  piece-one = one-course (piece-course call)

  pub piece-five : (c.refusal ≡ 5) ↔ (StreamInRange s × StoreHolds store × (¬ HeldWaits s store))
  piece-five = five-course (piece-course call)

  pub piece-zero : (c.refusal ≡ 0) ↔ StreamRight s store
  piece-zero = zero-course (piece-course call)

  pub piece_store : Kept held_need store c.store
  piece_store = store-course (piece-course call)

  pub piece-written : (c.written ≤ length output) × Kept c.written output c.output
  piece-written = output-course (piece-course call)

  pub piece-taken : c.taken ≤ length piece
  piece-taken = taken-course (piece-course call)

  module _ (accepted : c.refusal ≡ 0) where
    right : StreamRight s store
    right = piece-zero.0 accepted

    is : c ≡ worked s store piece output
    is = call.called ∙ is-worked s store piece output right

    pub piece-again : StreamRight c.stream c.store
    piece-again = subst (λ c. StreamRight c.stream c.store) (sym is) (worked-again s store piece output right)

    pub piece-some : answer_room ≤ length output → 1 ≤ length piece → 1 ≤ c.taken
    piece-some room some =
        subst (λ c. 1 ≤ c.taken) (sym call.called) (gets-on s store piece output (right-check s store right) room some)

    pub piece-stops : c.taken < length piece → NextTooLong piece output c
    piece-stops h =
        subst (NextTooLong piece output) (sym is)
        (worked-stops s store piece output right (subst (λ c. c.taken < length piece) is h))

-- ---- the end of the input, and a whole batch

text-course : (text output short : List ℕ) → TextCourse text output short (put_text_of text output short)
unfolding put_text_of
text-course text output short =
    go (leb (length text) (length output)) (leb-true (length text) (length output)) (leb-false (length text) (length output))
  where
    go : (t : Bool) → (t ≡ true → length text ≤ length output) → (t ≡ false → length output < length text)
        → TextCourse text output short (cond t (whole_text text output) (no_room_of short))
    go true is isn't = text-written (is refl)
    go false is isn't = text-long (isn't refl)

pub end-course : {s : Stream} {output : List ℕ} {e : OutputCall} → InputWasEnded s output e
    → TextCourse (last_text s) output output e
unfolding end_call
end-course {s} {output} call =
    subst (TextCourse (last_text s) output output) (sym call.called) (text-course (last_text s) output output)

pub end_fits : {s : Stream} {output : List ℕ} {e : OutputCall} → InputWasEnded s output e → (store : List ℕ)
    → StreamRight s store → text_room ≤ length output → e.refusal ≡ 0
end_fits {s} {output} call store right room =
    ap (λ e. e.refusal) call.called ∙ Rooms.end_fits s store output (right-check s store right) room

pub whole-course : {input output : List ℕ} {e : OutputCall} → BatchWasAnswered input output e
    → TextCourse (batch_output input) output (replicate (length output) 0) e
unfolding output_call
whole-course {input} {output} call =
    subst (TextCourse (batch_output input) output (replicate (length output) 0)) (sym call.called)
    (text-course (batch_output input) output (replicate (length output) 0))

module _ {text output short : List ℕ} where
  pub text-number : {e : OutputCall} → TextCourse text output short e → (e.refusal ≡ 0) ⊎ (e.refusal ≡ 1)
  text-number (text-long h) = inr refl
  text-number (text-written h) = inl refl

  pub text-refused : {e : OutputCall} → TextCourse text output short e → e.refusal ≢ 0 → e ≡ no_room_of short
  text-refused (text-long h) k = refl
  text-refused (text-written h) k = absurd (k refl)

  pub text-one : {e : OutputCall} → TextCourse text output short e → (e.refusal ≡ 1) ↔ (length output < length text)
  text-one (text-long h) = (λ k. h, λ k. refl)
  text-one (text-written h) = (λ k. absurd (omega arith), λ k. absurd (omega arith))

  pub text-zero : {e : OutputCall} → TextCourse text output short e → (e.refusal ≡ 0) ↔ (length text ≤ length output)
  text-zero (text-long h) = (λ k. absurd (omega arith), λ k. absurd (omega arith))
  text-zero (text-written h) = (λ k. h, λ k. refl)

  pub text-front : {e : OutputCall} → TextCourse text output short e → e.refusal ≡ 0
      → (e.length ≡ length text) × Rewritten e.length text output e.output
  text-front (text-long h) k = absurd (omega arith)
  text-front (text-written h) k = (refl, overwrite-rewritten text output refl h)

-- ---- the exported call on a whole batch

pub export-batch-course : {input output : List ℕ} {result : List ℤ} {w : Written} → ExportedBatch input output result w
    → ExportBatchCourse input output result w
export-batch-course {input} {output} {result} x =
    subst (ExportBatchCourse input output result) (sym x.called)
    (go (leb 1 (length result)) (leb-true 1 (length result)) (leb-false 1 (length result)))
  where
    go : (t : Bool) → (t ≡ true → 1 ≤ length result) → (t ≡ false → length result < 1)
        → ExportBatchCourse input output result (export_batch input output result)
    go true is isn't =
        subst (ExportBatchCourse input output result) (batch-worked input output result (is refl) refl)
        (as-answered (is refl) _ (record { called = refl }))
    go false is isn't =
        subst (ExportBatchCourse input output result) (batch-missing input output result (isn't refl)) (no_place (isn't refl))

module _ {input output : List ℕ} {result : List ℤ} where
  number-batch : {w : Written} → ExportBatchCourse input output result w → (w.refusal ≡ 0) ⊎ (w.refusal ≡ 1)
  unfolding not_written
  number-batch (no_place h) = inr refl
  number-batch (as-answered h e a) = text-number (whole-course a)

  none-batch : {w : Written} → ExportBatchCourse input output result w → length result < 1 → w ≡ not_written 1 output result
  none-batch (no_place h) k = refl
  none-batch (as-answered h e a) k = absurd (omega arith)

  cleared-batch : {w : Written} → ExportBatchCourse input output result w → 1 ≤ length result → w.refusal ≢ 0
      → (w.byte_store ≡ replicate (length output) 0) × Cleared 1 result w.result_store
  unfolding zeros
  cleared-batch (no_place h) k n = absurd (omega arith)
  cleared-batch (as-answered h e a) k n =
      let r = text-refused (whole-course a) n in (
        ap (λ e. e.output) r,
        subst (λ e. Cleared 1 result (overwrite (pos e.length ∷ []) result)) (sym r)
            (overwrite-rewritten (pos 0 ∷ []) result refl h),
      )

  one_batch : {w : Written} → ExportBatchCourse input output result w
      → (w.refusal ≡ 1) ↔ ((length result < 1) ⊎ (length output < length (batch_output input)))
  unfolding not_written
  one_batch (no_place h) = (λ k. inl h, λ k. refl)
  one_batch (as-answered h e a) = (λ k. inr ((text-one (whole-course a)).0 k), back)
    where
      back : (length result < 1) ⊎ (length output < length (batch_output input)) → e.refusal ≡ 1
      back (inl k) = absurd (omega arith)
      back (inr k) = (text-one (whole-course a)).1 k

  front-batch : {w : Written} → ExportBatchCourse input output result w → w.refusal ≡ 0
      → let l = batch_output input in
      Rewritten (length l) l output w.byte_store × Rewritten 1 (pos (length l) ∷ []) result w.result_store
  unfolding not_written
  front-batch (no_place h) k = absurd (omega arith)
  front-batch (as-answered h e a) k =
      let (n, r) = text-front (whole-course a) k in (
        subst (λ j. Rewritten j (batch_output input) output e.output) n r,
        subst (λ j. Rewritten 1 (pos j ∷ []) result (overwrite (pos e.length ∷ []) result)) n
            (overwrite-rewritten (pos e.length ∷ []) result refl h),
      )

module _ {input output : List ℕ} {result : List ℤ} {w : Written} (x : ExportedBatch input output result w) where
  pub export-batch-number : (w.refusal ≡ 0) ⊎ (w.refusal ≡ 1)
  export-batch-number = number-batch (export-batch-course x)

  pub export-batch-none : length result < 1 → w ≡ not_written 1 output result
  export-batch-none = none-batch (export-batch-course x)

  pub export-batch-cleared : 1 ≤ length result → w.refusal ≢ 0
      → (w.byte_store ≡ replicate (length output) 0) × Cleared 1 result w.result_store
  export-batch-cleared = cleared-batch (export-batch-course x)

  pub export-batch-one : (w.refusal ≡ 1) ↔ ((length result < 1) ⊎ (length output < length (batch_output input)))
  export-batch-one = one_batch (export-batch-course x)

  pub export-batch-front : w.refusal ≡ 0
      → let l = batch_output input in
      Rewritten (length l) l output w.byte_store × Rewritten 1 (pos (length l) ∷ []) result w.result_store
  export-batch-front = front-batch (export-batch-course x)
