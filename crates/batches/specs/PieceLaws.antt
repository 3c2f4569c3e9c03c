-- A batch that comes in pieces (SCOPE 5.36): however it is cut, and whatever room each call has, the calls write what
-- `rules` says.
--
-- Main definitions
--   Right s store             a stream that may be handed in, with the store of the bytes that it holds
--   Kept f piece l            the bytes l wait after the feed f, and those of the piece that are not taken follow
--   fed_by s store piece output   what a call feeds
--   Run s store remaining written   calls for the remaining input, and then the end, with what they write
--
-- Main statements
--   check-right, right-check  `stream_check` finds nothing wrong with such streams, and with no others
--   kept                      the bytes that are held afterwards are kept so
--   call-is                   a call on such a stream is the feed of the bytes held and the piece
--   piece-refusal, piece-right   it is not refused, and gives such a stream back
--   piece-text, piece-taken   what it writes, and that it takes no more bytes than there are
--   piece-rest, piece-meaning   the bytes held after it and those of the piece that it did not take are what the feed leaves
--   start_right               a stream to start with is one
--   run-meaning, pieces-output   what calls in a row write
--   greedy                    a call that does not take the whole piece stopped for room
use Prim.Native.Nat.{ℕ, suc, ◌+◌, ◌-◌, ◌≤◌, ◌<◌, zero-le}
use Rattle.std.proofs.Common.{arith, ◌∙◌, ap₂, subst, inl, inr, le-leb, lt-ltb, leb-true, leb→le, ltb→lt, length-append, take_at, length-take-le}
use Rattle.std.specs.Prelude.{◌≡◌, ◌⊎◌, Bool, true, false, cond, leb, ltb}
use Rattle.std.proofs.Math.Path.{refl, sym, ap}
use mathlib.Core.List.{List, [], ◌++◌, append-nil, append_assoc}
use Rattle.std.proofs.Math.ListN.{length, take, drop}
use Rattle.std.proofs.lemmas.List.{drop-append-le}
use Rattle.std.proofs.Math.Seq.{drop-append-add, drop-length}
use Rattle.lists.specs.Tests.{T-&&, true-T}
use Rattle.lists.specs.Overwritten.{overwrite, overwrite-length, overwrite-front}
use Rattle.lists.specs.Totals.{total}
use Rattle.rules.specs.Batch.{batch_output}
use Rattle.frames.specs.declared.Batch.{Batch}
use Rattle.frames.specs.Pieces.{accepted_in, refused_in, Counted}
use Rattle.batches.specs.declared.Stage.{Stage}
use Rattle.batches.specs.declared.Stage.TheVariants.{Count}
use Rattle.batches.specs.declared.Stream.{Stream}
use Rattle.batches.specs.Feeds.{Feed, feed, start_of}
use Rattle.batches.specs.PieceCalls.{held_need, waits_with_of, stream_right_of, stream_check, PieceCall, kept_of, laid, piece_by}
use Rattle.batches.specs.PieceCalls.{after_stream_check, piece_call, OutputCall, end_text_of, put_text_of, end_call}
use Rattle.batches.specs.Moves.{meaning, CountedIn, counted-in, waits-none, waits-short, end-meaning}
use Rattle.batches.specs.FeedLaws.{TooLong, Untaken, feed-meaning, feed-few, feed-end, feed-waits, feed-next}
use Rattle.batches.specs.FeedLaws.{feed-held}

-- ---- a stream that is handed in

pub record Right (s : Stream) (store : List ℕ) : Type 0 where
  pub counted : Counted s.batch
  pub few : s.held < held_need
  pub long : held_need ≤ length store
  pub waiting : waits_with_of s.stage s.batch (take s.held store) ≡ true

pub check-right : (s : Stream) (store : List ℕ) → stream_check s store ≡ 0 → Right s store
unfolding stream_check stream_right_of
check-right s store e =
    let (sizes, f) = opened (stream_right_of s) _ 1 e in
    let (long, g) = opened (leb held_need (length store)) _ 0 f in
    let (waiting, h) = opened (waits_with_of s.stage s.batch (take s.held store)) 0 4 g in
    let parts = (T-&& (leb all 1000) (ltb s.held held_need)).0 (true-T (stream_right_of s) sizes) in
    record {
      counted = leb→le all 1000 parts.0;
      few = ltb→lt s.held held_need parts.1;
      long = leb-true held_need (length store) long;
      waiting = waiting;
    }
  where
    all : ℕ
    all = s.batch.left + accepted_in s.batch + refused_in s.batch

    opened : (t : Bool) (x n : ℕ) → cond t x (suc n) ≡ 0 → (t ≡ true) × (x ≡ 0)
    opened true x n e = (refl, e)
    opened false x n e = absurd (omega arith)

pub right-check : (s : Stream) (store : List ℕ) → Right s store → stream_check s store ≡ 0
unfolding stream_check stream_right_of
right-check s store r =
    let b = s.batch in
    rw (
      le-leb (b.left + accepted_in b + refused_in b) 1000 r.counted,
      lt-ltb s.held held_need r.few,
      le-leb held_need (length store) r.long,
      r.waiting,
    )

-- ---- the bytes that are held afterwards

-- The bytes l wait, and those of the piece that are not taken follow.
pub record Kept (f : Feed) (piece l : List ℕ) : Type 0 where
  pub waiting : waits_with_of f.stage f.batch l ≡ true
  pub joined : l ++ drop (length piece - (length f.rest - length l)) piece ≡ f.rest

module _ (stage : Stage) (b : Batch) (held piece : List ℕ) (room : ℕ) (few : CountedIn stage b)
    (w : waits_with_of stage b held ≡ true) where
  abbrev f : Feed
  f = feed stage b (held ++ piece) room

  pub kept : Kept f piece (kept_of f piece)
  unfolding kept_of
  kept = go f.full refl
    where
      -- The bytes that are left before those of the piece.
      before : List ℕ
      before = take (length f.rest - length piece) f.rest

      same : Untaken f stage b (held ++ piece) → before ≡ held
      same u =
          ap (take (length f.rest - length piece)) u.same_rest
          ∙ take_at held piece (length f.rest - length piece)
          (omega (arith, ap length u.same_rest, length-append held piece))

      full : Untaken f stage b (held ++ piece) ⊎ (length f.rest ≤ length piece - 1) → Kept f piece before
      full (inl u) =
          let none : length piece - (length f.rest - length held) ≡ 0 =
          omega (arith, ap length u.same_rest, length-append held piece) in
          subst (Kept f piece) (sym (same u))
          (record {
            waiting = ap₂ (λ stage b. waits_with_of stage b held) u.same-stage u.same-batch ∙ w;
            joined = ap (λ n. held ++ drop n piece) none ∙ sym u.same_rest;
          })
      full (inr h) =
          let none : length f.rest - length piece ≡ 0 = omega arith in
          let inside : length (held ++ piece) - length f.rest ≡ length held + (length piece - (length f.rest - 0)) =
          rw length-append (omega arith) in
          subst (Kept f piece) (sym (ap (λ n. take n f.rest) none))
          (record {
            waiting = waits-none f.stage f.batch;
            joined =
                sym (drop-append-add held piece _) ∙ sym (ap (λ n. drop n (held ++ piece)) inside)
                ∙ feed-end stage b (held ++ piece) room few;
          })

      go : (t : Bool) → f.full ≡ t → Kept f piece (cond t before f.rest)
      go true e = full (feed-held stage b held piece room few w)
      go false e =
          let all : length piece - (length f.rest - length f.rest) ≡ length piece = omega arith in
          record {
            waiting = feed-waits stage b (held ++ piece) room few e;
            joined =
                ap (λ n. f.rest ++ drop n piece) all ∙ ap (λ l. f.rest ++ l) (drop-length piece)
                ∙ append-nil f.rest;
          }

-- ---- one call

module _ (s : Stream) (store piece output : List ℕ) (right : stream_check s store ≡ 0) where
  abbrev held : List ℕ
  held = take s.held store

  -- What the call feeds, what it keeps, and what it gives.
  abbrev pub fed_by : Feed
  fed_by = feed s.stage s.batch (held ++ piece) (length output)

  abbrev keeps : List ℕ
  keeps = kept_of fed_by piece

  abbrev c : PieceCall
  c = piece_call s store piece output

  pub call-is : c ≡ piece_by fed_by s store piece output
  unfolding piece_call after_stream_check
  call-is = ap (λ n. after_stream_check n s store piece output) right

  pub piece-refusal : c.refusal ≡ 0
  unfolding piece_by
  piece-refusal = ap (λ c. c.refusal) call-is

  given : Right s store
  given = check-right s store right

  counts : CountedIn s.stage s.batch
  counts = counted-in s.stage s.batch given.counted

  keeping : Kept fed_by piece keeps
  keeping = kept s.stage s.batch held piece (length output) counts given.waiting

  pub piece-right : stream_check c.stream c.store ≡ 0
  unfolding piece_by
  piece-right = ap (λ c. stream_check c.stream c.store) call-is ∙ right-check _ _ after
    where
      laid_in : List ℕ
      laid_in = overwrite (laid s.held (held ++ piece)) store

      after : Right (piece_by fed_by s store piece output).stream (piece_by fed_by s store piece output).store
      after =
          record {
            counted = feed-few s.stage s.batch (held ++ piece) (length output) counts given.counted;
            few = waits-short fed_by.stage fed_by.batch keeps keeping.waiting;
            long =
                omega
                (arith, given.long, overwrite-length keeps laid_in, overwrite-length (laid s.held (held ++ piece)) store);
            waiting = ap (waits_with_of fed_by.stage fed_by.batch) (overwrite-front keeps _) ∙ keeping.waiting;
          }

  pub piece-rest : take c.stream.held c.store ++ drop c.taken piece ≡ fed_by.rest
  unfolding piece_by
  piece-rest =
      ap (λ c. take c.stream.held c.store ++ drop c.taken piece) call-is
      ∙ ap (λ l. l ++ drop (length piece - (length fed_by.rest - length keeps)) piece) (overwrite-front keeps _)
      ∙ keeping.joined

  pub piece-text : take c.written c.output ≡ fed_by.text
  unfolding piece_by
  piece-text = ap (λ c. take c.written c.output) call-is ∙ overwrite-front fed_by.text output

  pub piece-taken : c.taken ≤ length piece
  unfolding piece_by
  piece-taken = omega (arith, ap (λ c. c.taken) call-is)

  -- The stream that the call gives means what the feed leaves, with any bytes after the piece.
  pub piece-meaning : (later : List ℕ)
      → meaning c.stream.stage c.stream.batch (take c.stream.held c.store ++ drop c.taken (piece ++ later))
      ≡ meaning fed_by.stage fed_by.batch (fed_by.rest ++ later)
  unfolding piece_by
  piece-meaning later =
      ap (meaning c.stream.stage c.stream.batch)
      (ap (λ l. take c.stream.held c.store ++ l) (drop-append-le c.taken piece later piece-taken)
      ∙ sym (append_assoc (take c.stream.held c.store) (drop c.taken piece) later)
      ∙ ap (λ l. l ++ later) piece-rest)
      ∙ ap (λ c. meaning c.stream.stage c.stream.batch (fed_by.rest ++ later)) call-is

-- ---- calls in a row

pub data Run : Stream → List ℕ → List ℕ → List ℕ → Type 0 where
  -- The whole input has been taken, and the end is told.
  ended : {s : Stream} {store : List ℕ} (output : List ℕ) → (end_call s output).refusal ≡ 0
      → Run s store [] (take (end_call s output).length (end_call s output).output)
  -- A piece is given; what is not taken of it is given again, with what comes.
  called : {s : Stream} {store remaining written : List ℕ} {c : PieceCall} (piece later output : List ℕ)
      → piece ++ later ≡ remaining → piece_call s store piece output ≡ c
      → Run c.stream c.store (drop c.taken remaining) written
      → Run s store remaining (take c.written c.output ++ written)

end-written : (s : Stream) (output : List ℕ) → (end_call s output).refusal ≡ 0
    → take (end_call s output).length (end_call s output).output ≡ end_text_of s.stage s.batch s.held
unfolding end_call put_text_of
end-written s output e = go (leb (length text) (length output)) e
  where
    text : List ℕ
    text = end_text_of s.stage s.batch s.held

    put : OutputCall
    put = record { refusal = 0; length = length text; output = overwrite text output }

    short : OutputCall
    short = record { refusal = 1; length = 0; output = output }

    go : (t : Bool) → (cond t put short).refusal ≡ 0 → take (cond t put short).length (cond t put short).output ≡ text
    go true e = overwrite-front text output
    go false e = absurd (omega arith)

pub run-meaning : {s : Stream} {store remaining written : List ℕ} → stream_check s store ≡ 0 → Run s store remaining written
    → written ≡ meaning s.stage s.batch (take s.held store ++ remaining)
run-meaning {s} {store} right (ended output e) =
    let r = check-right s store right in
    end-written s output e
    ∙ ap (end_text_of s.stage s.batch) (sym (length-take-le s.held store (omega arith)))
    ∙ sym
    (ap (meaning s.stage s.batch) (append-nil (take s.held store))
    ∙ end-meaning s.stage s.batch (take s.held store) (counted-in s.stage s.batch r.counted) r.waiting)
run-meaning {s} {store} {remaining} right (called piece later output same call run) =
    ap₂ ◌++◌ (ap (λ c. take c.written c.output) (sym call) ∙ piece-text s store piece output right)
    (run-meaning (subst (λ c. stream_check c.stream c.store ≡ 0) call (piece-right s store piece output right)) run)
    ∙ ap₂
    (λ c l. f.text ++ meaning c.stream.stage c.stream.batch (take c.stream.held c.store ++ drop c.taken l))
    (sym call) (sym same)
    ∙ ap (λ l. f.text ++ l) (piece-meaning s store piece output right later)
    ∙ sym (feed-meaning s.stage s.batch (take s.held store ++ piece) (length output) counts later)
    ∙ ap (meaning s.stage s.batch)
    (append_assoc (take s.held store) piece later ∙ ap (λ l. take s.held store ++ l) same)
  where
    f : Feed
    f = fed_by s store piece output right

    counts : CountedIn s.stage s.batch
    counts = counted-in s.stage s.batch (check-right s store right).counted

pub start_right : (store : List ℕ) → held_need ≤ length store → Right start_of store
unfolding total
start_right store long =
    record { counted = zero-le; few = omega arith; long = long; waiting = waits-none Count start_of.batch }

pub pieces-output : (store input written : List ℕ) → held_need ≤ length store → Run start_of store input written
    → written ≡ batch_output input
unfolding meaning
pieces-output store input written long run = run-meaning (right-check start_of store (start_right store long)) run

-- ---- greed

-- A call that does not take its whole piece stopped before an answer that had no room (SCOPE 5.34).
pub greedy : (s : Stream) (store piece output : List ℕ) (right : stream_check s store ≡ 0)
    → (piece_call s store piece output).taken < length piece → TooLong (fed_by s store piece output right) (length output)
unfolding piece_by kept_of
greedy s store piece output right h =
    feed-next s.stage s.batch (take s.held store ++ piece) (length output)
    (counted-in s.stage s.batch (check-right s store right).counted)
    (go f.full (subst (λ c. c.taken < length piece) (call-is s store piece output right) h))
  where
    f : Feed
    f = fed_by s store piece output right

    go : (t : Bool)
        → let kept = cond t (take (length f.rest - length piece) f.rest) f.rest in
        length piece - (length f.rest - length kept) < length piece → t ≡ true
    go true h = refl
    go false h = absurd (omega arith)
