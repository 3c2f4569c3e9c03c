-- The laws of `feed`: what is written and what is left mean what all the bytes mean, and more bytes go on where it stopped.
--
-- Main definitions
--   Fed stage b bytes room f    f comes of the moves that there are, until bytes are missing or an answer does not fit
--   FedRight stage b bytes      the feed does
--   TooLong f room              the next answer after f, which does not fit
--   Untaken f stage b bytes     nothing is taken and nothing written
--   followed_by f c room         what f comes to with the bytes c after it: stays_before f c, or goes_on_of f c room
--
-- Main statements
--   feed-move, feed-full, feed-waiting   `feed` by the first move
--   fed                         the feed of every batch that has at most 1,000 sheets comes of such moves
--   feed-meaning                the meaning of the bytes, with any bytes after them
--   feed-counted, feed-few      the sheets stay at most 1,000
--   feed-room, feed-rest, feed-end   what is written fits, and what is left is an end of the bytes
--   feed-waits, feed-short      where the answers fit, the rest waits, and is less than a line and a sheet can have
--   feed-next                   where the next answer does not fit
--   feed-append, append-full, append-fits   the feed of more bytes
--   feed-held                   all bytes that waited are taken, or none
use Prim.Native.Nat.{ℕ, zero, suc, ◌+◌, ◌-◌, ◌≤◌, ◌<◌, zero-le}
use Rattle.std.proofs.Common.{le_refl, add-zero, zero-add, arith, sym, ◌∙◌, subst, append-nil, append_assoc, length-append, length-drop, drop-drop}
use Rattle.std.proofs.Math.Nat.{sub-zero}
use Rattle.std.specs.Prelude.{◌≡◌, ◌≢◌, ◌⊎◌, Bool, true, false, List, [], ◌++◌, leb, eqb, take, drop}
use Rattle.std.proofs.Math.Path.{refl, ap}
use Rattle.std.proofs.Math.Logic.{inl, inr}
use Rattle.std.proofs.Math.Bool.{cond}
use borrow.Author.Tests.{le-leb, lt-leb, leb-true, leb-false, eqb-true, ne_eqb}
use Rattle.std.proofs.Math.ListN.{length}
use Rattle.std.proofs.lemmas.List.{drop-append-le}
use Rattle.std.proofs.Math.Seq.{drop-length}
use Rattle.rules.specs.Batch.{Answer, answer_sheet, answer_bytes, broken}
use Rattle.frames.specs.declared.Batch.{Batch}
use Rattle.frames.specs.Pieces.{begun_of, begun-inside, counted_of, Counted, counted-left, counted-few}
use Rattle.frames.specs.PieceSizes.{begun-counted}
use Rattle.frames.specs.Longer.{line-longer}
use Rattle.lists.specs.Taken.{length_none}
use Rattle.batches.specs.declared.Stage.{Stage}
use Rattle.batches.specs.declared.Stage.TheVariants.{Count, Sheets, Over}
use Rattle.batches.specs.Feeds.{Next, waits, breaks, sheet, next_sheet, Feed, waiting_at, full_at, over_at}
use Rattle.placed_answers.specs.Answering.{number_of}
use Rattle.batches.specs.Feeds.{breaking_at, prefixed, answer_step, step_by, step, after_step, steps, feed_sheets}
use Rattle.batches.specs.Feeds.{feed_count, feed}
use Rattle.batches.specs.PieceCalls.{held_need, waits_with_of}
use Rattle.batches.specs.Fronts.{begun-beyond, line-beyond}
use Rattle.batches.specs.Moves.{meaning, CountedIn, Look, no_more, line-waits, sheet-waits, sheet-whole}
use Rattle.batches.specs.Moves.{look_is, look-some, look-inside, look-waits, Moved, Move, begins, count-breaks}
use Rattle.batches.specs.Moves.{sheets-break, answering, Ready, waiting, moving, ready, move-inside}
use Rattle.batches.specs.Moves.{move-counted, move-longer, move-means, move-few, move-alive, waits-none, waits-short}

-- ---- the first move

breaking-fits : (stage : Stage) (b : Batch) (bytes : List ℕ) (room : ℕ) → length broken ≤ room
    → breaking_at stage b bytes room ≡ over_at b broken
unfolding breaking_at
breaking-fits stage b bytes room h = rw (le-leb (length broken) room h)

breaking-full : (stage : Stage) (b : Batch) (bytes : List ℕ) (room : ℕ) → room < length broken
    → breaking_at stage b bytes room ≡ full_at stage b bytes
unfolding breaking_at
breaking-full stage b bytes room h = rw (lt-leb (length broken) room h)

module _ (b : Batch) (bytes : List ℕ) (room : ℕ) where
  count-is : (r : ℕ) → (begun_of bytes).refusal ≡ r
      → let begun = feed_sheets (begun_of bytes).batch (drop (begun_of bytes).taken bytes) room in
      feed Count b bytes room
      ≡ cond (eqb r 4) (waiting_at Count b bytes) (cond (eqb r 0) begun (breaking_at Count b bytes room))
  unfolding feed feed_count
  count-is r e = rw e

  count-broken : (begun_of bytes).refusal ≢ 4 → (begun_of bytes).refusal ≢ 0
      → feed Count b bytes room ≡ breaking_at Count b bytes room
  count-broken h i =
      count-is (begun_of bytes).refusal refl ∙ rw (ne_eqb (begun_of bytes).refusal 4 h, ne_eqb (begun_of bytes).refusal 0 i)

  sheets-is : {k : Next} → next_sheet b.left bytes ≡ k
      → feed Sheets b bytes room ≡ after_step (step_by k b bytes room) room (steps b.left)
  unfolding feed feed_sheets steps step
  sheets-is e = ap (λ k. after_step (step_by k b bytes room) room (steps b.left)) e

  sheets-broken : Look b.left bytes breaks → feed Sheets b bytes room ≡ breaking_at Sheets b bytes room
  unfolding after_step step_by
  sheets-broken l = sheets-is (look_is l)

  module _ (client from to : ℕ) (l : Look b.left bytes (sheet client from to)) (a : Answer)
      (e : answer_sheet (take (to - from) (drop from bytes)) ≡ a) where
    sheet-is : feed Sheets b bytes room ≡ after_step (answer_step a client b bytes room to) room (steps b.left)
    unfolding step_by
    sheet-is = sheets-is (look_is l) ∙ ap (λ a. after_step (answer_step a client b bytes room to) room (steps b.left)) e

    sheet-fits : Counted b → length (answer_bytes a) ≤ room
        → feed Sheets b bytes room
        ≡ prefixed (answer_bytes a) (feed Sheets (counted_of b client (number_of a)) (drop to bytes) (room - length (answer_bytes a)))
    unfolding answer_step after_step feed feed_sheets
    sheet-fits few h =
        sheet-is ∙ rw (le-leb (length (answer_bytes a)) room h)
        (ap (λ k. prefixed (answer_bytes a) (steps k (counted_of b client (number_of a)) (drop to bytes) (room - length (answer_bytes a))))
        left)
      where
        left : b.left ≡ suc (counted_of b client (number_of a)).left
        left = omega (arith, counted-left b few (look-some l) client (number_of a), look-some l)

    sheet-full : room < length (answer_bytes a) → feed Sheets b bytes room ≡ full_at Sheets b bytes
    unfolding answer_step after_step
    sheet-full h = sheet-is ∙ rw (lt-leb (length (answer_bytes a)) room h)

pub feed-move : {stage : Stage} {b : Batch} {bytes : List ℕ} {m : Moved} (room : ℕ) → CountedIn stage b → Move stage b bytes m
    → length m.text ≤ room
    → feed stage b bytes room ≡ prefixed m.text (feed m.stage m.batch (drop m.taken bytes) (room - length m.text))
unfolding feed
feed-move {b = b} {bytes = bytes} room few (begins z) h =
    count-is b bytes room 0 z
    ∙ ap (feed_sheets (begun_of bytes).batch (drop (begun_of bytes).taken bytes)) (sym (sub-zero room))
feed-move {b = b} {bytes = bytes} room few (count-breaks i j) h =
    count-broken b bytes room i j ∙ breaking-fits Count b bytes room h ∙ ap (over_at b) (sym (append-nil broken))
feed-move {b = b} {bytes = bytes} room few (sheets-break l) h =
    sheets-broken b bytes room l ∙ breaking-fits Sheets b bytes room h ∙ ap (over_at b) (sym (append-nil broken))
feed-move {b = b} {bytes = bytes} room few (answering {client = client} {from = from} {to = to} {a = a} l e) h =
    sheet-fits b bytes room client from to l a e few h

pub feed-full : {stage : Stage} {b : Batch} {bytes : List ℕ} {m : Moved} (room : ℕ) → Move stage b bytes m
    → room < length m.text → feed stage b bytes room ≡ full_at stage b bytes
feed-full {b = b} {bytes = bytes} room (begins z) h = absurd (omega arith)
feed-full {b = b} {bytes = bytes} room (count-breaks i j) h =
    count-broken b bytes room i j ∙ breaking-full Count b bytes room h
feed-full {b = b} {bytes = bytes} room (sheets-break l) h =
    sheets-broken b bytes room l ∙ breaking-full Sheets b bytes room h
feed-full {b = b} {bytes = bytes} room (answering {client = client} {from = from} {to = to} {a = a} l e) h =
    sheet-full b bytes room client from to l a e h

pub feed-waiting : (stage : Stage) (b : Batch) (bytes : List ℕ) (room : ℕ) → waits_with_of stage b bytes ≡ true
    → feed stage b bytes room ≡ waiting_at stage b bytes
unfolding waits_with_of step_by after_step feed
feed-waiting Count b bytes room e = count-is b bytes room 4 (eqb-true _ 4 e)
feed-waiting Sheets b bytes room e = sheets-is b bytes room (look_is (look-waits b.left bytes e))
feed-waiting Over b bytes room e = ap (waiting_at Over b) (sym (length_none bytes (eqb-true (length bytes) 0 e)))

-- ---- all moves

pub data Fed : Stage → Batch → List ℕ → ℕ → Feed → Type 0 where
  -- More bytes are missing.
  waits-on : {stage : Stage} {b : Batch} {bytes : List ℕ} {room : ℕ} → waits_with_of stage b bytes ≡ true
      → Fed stage b bytes room (waiting_at stage b bytes)
  -- A broken batch passes over what comes.
  passes : {b : Batch} {bytes : List ℕ} {room : ℕ} → Fed Over b bytes room (over_at b [])
  -- The next answer does not fit.
  too_long : {stage : Stage} {b : Batch} {bytes : List ℕ} {m : Moved} {room : ℕ} → Move stage b bytes m → room < length m.text
      → Fed stage b bytes room (full_at stage b bytes)
  moves : {stage : Stage} {b : Batch} {bytes : List ℕ} {m : Moved} {room : ℕ} {f : Feed} → Move stage b bytes m
      → length m.text ≤ room → Fed m.stage m.batch (drop m.taken bytes) (room - length m.text) f
      → Fed stage b bytes room (prefixed m.text f)

-- The feed itself.
abbrev pub FedRight : Stage → Batch → List ℕ → Type 0
FedRight stage b bytes = (room : ℕ) → Fed stage b bytes room (feed stage b bytes room)

fed-move : {stage : Stage} {b : Batch} {bytes : List ℕ} {m : Moved} → CountedIn stage b → Move stage b bytes m
    → FedRight m.stage m.batch (drop m.taken bytes) → FedRight stage b bytes
fed-move {stage} {b} {bytes} {m} few move later room = go (leb size room) (leb-true size room) (leb-false size room)
  where
    size : ℕ
    size = length m.text

    go : (t : Bool) → (t ≡ true → size ≤ room) → (t ≡ false → room < size) → Fed stage b bytes room (feed stage b bytes room)
    go true h i =
        subst (Fed stage b bytes room) (sym (feed-move room few move (h refl))) (moves move (h refl) (later (room - size)))
    go false h i = subst (Fed stage b bytes room) (sym (feed-full room move (i refl))) (too_long move (i refl))

fed-waiting : (stage : Stage) (b : Batch) (bytes : List ℕ) → waits_with_of stage b bytes ≡ true → FedRight stage b bytes
fed-waiting stage b bytes e room = subst (Fed stage b bytes room) (sym (feed-waiting stage b bytes room e)) (waits-on e)

fed-over : (b : Batch) (bytes : List ℕ) → FedRight Over b bytes
unfolding feed
fed-over b bytes room = passes

-- A sheet less is to come after each answer.
fed-sheets : (k : ℕ) (b : Batch) (bytes : List ℕ) → b.left < k → Counted b → FedRight Sheets b bytes
fed-sheets zero b bytes h few = absurd (omega arith)
fed-sheets (suc k) b bytes h few = go (ready Sheets b bytes) (fed-sheets k)
  where
    go : Ready Sheets b bytes → ((b : Batch) (bytes : List ℕ) → b.left < k → Counted b → FedRight Sheets b bytes)
        → FedRight Sheets b bytes
    go (waiting e) later = fed-waiting Sheets b bytes e
    go (moving (sheets-break l)) later = fed-move few (sheets-break l) (fed-over b (drop 0 bytes))
    go (moving (answering {client = client} {to = to} {a = a} l e)) later =
        fed-move few (answering l e)
        (later (counted_of b client (number_of a)) (drop to bytes)
        (omega (arith, counted-left b few (look-some l) client (number_of a), look-some l))
        (counted-few b few (look-some l) client (number_of a)))

pub fed : (stage : Stage) (b : Batch) (bytes : List ℕ) → CountedIn stage b → FedRight stage b bytes
fed Count b bytes few = go (ready Count b bytes)
  where
    go : Ready Count b bytes → FedRight Count b bytes
    go (waiting e) = fed-waiting Count b bytes e
    go (moving (begins z)) = fed-move tt (begins z) (fed-sheets _ (begun_of bytes).batch _ (le_refl _) (begun-counted bytes))
    go (moving (count-breaks h i)) = fed-move tt (count-breaks h i) (fed-over b (drop 0 bytes))
fed Sheets b bytes few = fed-sheets (suc b.left) b bytes (le_refl _) few
fed Over b bytes few = fed-over b bytes

-- ---- laws, by the moves

fed-meaning : {stage : Stage} {b : Batch} {bytes : List ℕ} {room : ℕ} {f : Feed} → CountedIn stage b → Fed stage b bytes room f
    → (x : List ℕ) → meaning stage b (bytes ++ x) ≡ f.text ++ meaning f.stage f.batch (f.rest ++ x)
unfolding meaning
fed-meaning few (waits-on e) x = refl
fed-meaning few passes x = refl
fed-meaning few (too_long move h) x = refl
fed-meaning {bytes = bytes} few (moves {m = m} {f = f} move h later) x =
    move-means few (move-longer x move)
    ∙ ap (λ l. m.text ++ meaning m.stage m.batch l) (drop-append-le m.taken bytes x (move-inside move))
    ∙ ap (λ l. m.text ++ l) (fed-meaning (move-counted few move) later x)
    ∙ sym (append_assoc m.text f.text (meaning f.stage f.batch (f.rest ++ x)))

fed-counted : {stage : Stage} {b : Batch} {bytes : List ℕ} {room : ℕ} {f : Feed} → CountedIn stage b
    → Fed stage b bytes room f → CountedIn f.stage f.batch
fed-counted few (waits-on e) = few
fed-counted few passes = tt
fed-counted few (too_long move h) = few
fed-counted few (moves move h later) = fed-counted (move-counted few move) later

fed-few : {stage : Stage} {b : Batch} {bytes : List ℕ} {room : ℕ} {f : Feed} → Counted b → Fed stage b bytes room f
    → Counted f.batch
fed-few few (waits-on e) = few
fed-few few passes = few
fed-few few (too_long move h) = few
fed-few few (moves move h later) = fed-few (move-few few move) later

fed-room : {stage : Stage} {b : Batch} {bytes : List ℕ} {room : ℕ} {f : Feed} → Fed stage b bytes room f
    → length f.text ≤ room
fed-room (waits-on e) = zero-le
fed-room passes = zero-le
fed-room (too_long move h) = zero-le
fed-room (moves {m = m} {f = f} move h later) = omega (arith, length-append m.text f.text, fed-room later)

-- The bytes that are left are the last ones.
fed-front : {stage : Stage} {b : Batch} {bytes : List ℕ} {room : ℕ} {f : Feed} → Fed stage b bytes room f
    → (n : ℕ) × (drop n bytes ≡ f.rest) × (n + length f.rest ≡ length bytes)
fed-front {bytes = bytes} (waits-on e) = (0, refl, zero-add (length bytes))
fed-front {bytes = bytes} passes = (length bytes, drop-length bytes, add-zero (length bytes))
fed-front {bytes = bytes} (too_long move h) = (0, refl, zero-add (length bytes))
fed-front {bytes = bytes} (moves {m = m} move h later) =
    let (k, e, d) = fed-front later in
    (m.taken + k, sym (drop-drop k m.taken bytes) ∙ e, omega (arith, length-drop m.taken bytes, move-inside move))

fed-waits : {stage : Stage} {b : Batch} {bytes : List ℕ} {room : ℕ} {f : Feed} → Fed stage b bytes room f → f.full ≡ false
    → waits_with_of f.stage f.batch f.rest ≡ true
fed-waits (waits-on e) fits = e
fed-waits {b = b} passes fits = waits-none Over b
fed-waits (too_long move h) fits = absurd (let z : ◌≡◌ {A = ℕ} 0 1 = cc in omega arith)
fed-waits (moves move h later) fits = fed-waits later fits

-- The next answer, which does not fit.
pub record TooLong (f : Feed) (room : ℕ) : Type 0 where
  pub next : Moved
  pub move : Move f.stage f.batch f.rest next
  pub long : room < length f.text + length next.text

fed-next : {stage : Stage} {b : Batch} {bytes : List ℕ} {room : ℕ} {f : Feed} → Fed stage b bytes room f → f.full ≡ true
    → TooLong f room
fed-next (waits-on e) full = absurd (let z : ◌≡◌ {A = ℕ} 0 1 = cc in omega arith)
fed-next passes full = absurd (let z : ◌≡◌ {A = ℕ} 0 1 = cc in omega arith)
fed-next (too_long {m = m} move h) full = record { next = m; move = move; long = omega arith }
fed-next (moves {m = m} {f = f} move h later) full =
    let t = fed-next later full in
    record { next = t.next; move = t.move; long = omega (arith, length-append m.text f.text) }

-- ---- more bytes

abbrev pub stays_before : Feed → List ℕ → Feed
stays_before f c = record { stage = f.stage; batch = f.batch; rest = f.rest ++ c; text = f.text; full = true }

abbrev pub goes_on_of : Feed → List ℕ → ℕ → Feed
goes_on_of f c room = prefixed f.text (feed f.stage f.batch (f.rest ++ c) (room - length f.text))

-- What f comes to with the bytes c after those that it was fed.
unfoldable pub followed_by : Feed → List ℕ → ℕ → Feed
followed_by f c room = cond f.full (stays_before f c) (goes_on_of f c room)

-- The same after one move.
followed-prefixed : (text : List ℕ) (f : Feed) (c : List ℕ) (room : ℕ)
    → prefixed text (followed_by f c (room - length text)) ≡ followed_by (prefixed text f) c room
unfolding followed_by
followed-prefixed text f c room = go f.full
  where
    go : (t : Bool)
        → prefixed text (cond t (stays_before f c) (goes_on_of f c (room - length text)))
        ≡ cond t (stays_before (prefixed text f) c) (goes_on_of (prefixed text f) c room)
    go true = refl
    go false =
        let less : room - length text - length f.text ≡ room - length (text ++ f.text) =
        rw length-append (omega arith) in
        ap (λ r. prefixed text (prefixed f.text (feed f.stage f.batch (f.rest ++ c) r))) less
        ∙ ap (λ l. record { stage = g.stage; batch = g.batch; rest = g.rest; text = l; full = g.full })
        (sym (append_assoc text f.text g.text))
      where
        g : Feed
        g = feed f.stage f.batch (f.rest ++ c) (room - length (text ++ f.text))

fed-append : {stage : Stage} {b : Batch} {bytes : List ℕ} {room : ℕ} {f : Feed} → CountedIn stage b → Fed stage b bytes room f
    → (c : List ℕ) → feed stage b (bytes ++ c) room ≡ followed_by f c room
unfolding followed_by feed
fed-append {stage} {b} {bytes} {room} few (waits-on e) c = ap (feed stage b (bytes ++ c)) (sym (sub-zero room))
fed-append few passes c = refl
fed-append {room = room} few (too_long move h) c = feed-full room (move-longer c move) h
fed-append {bytes = bytes} {room = room} few (moves {m = m} {f = f} move h later) c =
    feed-move room few (move-longer c move) h
    ∙ ap (λ l. prefixed m.text (feed m.stage m.batch l (room - length m.text)))
    (drop-append-le m.taken bytes c (move-inside move))
    ∙ ap (prefixed m.text) (fed-append (move-counted few move) later c)
    ∙ followed-prefixed m.text f c room

-- ---- bytes that were held

-- A sheet that goes on in more bytes than wait ends beyond those.
look-beyond : (left : ℕ) (held y : List ℕ) {client from to : ℕ} → Look left held waits
    → Look left (held ++ y) (sheet client from to) → length held < to
look-beyond left held y (no_more z e) (sheet-whole some i client at end h) = absurd (some z)
look-beyond left held y (line-waits some' e) (sheet-whole some i client at end h) =
    omega (arith, line-beyond held y (λ z. omega (arith, z, e)) i)
look-beyond left held y (sheet-waits some' z k) (sheet-whole some i client at end h) =
    let same = line-longer held y (λ e. omega (arith, z, e)) in
    omega (arith, ap (λ v. v.taken) same, ap (λ v. v.bytes) same)

-- A broken batch leaves nothing.
fed-passed : {b : Batch} {bytes : List ℕ} {room : ℕ} {f : Feed} → Fed Over b bytes room f → length f.rest ≡ 0
unfolding waits_with_of
fed-passed {bytes = bytes} (waits-on e) = eqb-true (length bytes) 0 e
fed-passed passes = refl
fed-passed (too_long move h) = absurd (move-alive move)
fed-passed (moves move h later) = absurd (move-alive move)

-- Nothing is taken and nothing written.
pub record Untaken (f : Feed) (stage : Stage) (b : Batch) (bytes : List ℕ) : Type 0 where
  pub same-stage : f.stage ≡ stage
  pub same-batch : f.batch ≡ b
  pub same_rest : f.rest ≡ bytes
  pub no_text : f.text ≡ []

module _ (held y : List ℕ) where
  -- All that was held is taken, and more.
  left_behind : {stage : Stage} {b : Batch} {n room : ℕ} {f : Feed} → length held < n → n ≤ length (held ++ y)
      → Fed stage b (drop n (held ++ y)) room f → length f.rest ≤ length y - 1
  left_behind {n = n} more inside later =
      let (k, e, d) = fed-front later in
      omega (arith, length-append held y, length-drop n (held ++ y))

  fed-held : {stage : Stage} {b : Batch} {room : ℕ} {f : Feed} → waits_with_of stage b held ≡ true
      → Fed stage b (held ++ y) room f → Untaken f stage b (held ++ y) ⊎ (length f.rest ≤ length y - 1)
  unfolding waits_with_of
  fed-held w (waits-on e) = inl (record { same-stage = refl; same-batch = refl; same_rest = refl; no_text = refl })
  fed-held w passes = inr zero-le
  fed-held w (too_long move h) = inl (record { same-stage = refl; same-batch = refl; same_rest = refl; no_text = refl })
  fed-held w (moves (begins z) h later) =
      let early = eqb-true (begun_of held).refusal 4 w in
      inr (left_behind (begun-beyond held y (λ i. omega (arith, i, early)) z) (begun-inside (held ++ y)) later)
  fed-held w (moves (count-breaks h i) j later) = inr (omega (arith, fed-passed later))
  fed-held w (moves (sheets-break l) j later) = inr (omega (arith, fed-passed later))
  fed-held {b = b} w (moves (answering l e) h later) =
      inr (left_behind (look-beyond b.left held y (look-waits b.left held w) l) (look-inside l).1 later)

-- ---- the laws of `feed`

module _ (stage : Stage) (b : Batch) (bytes : List ℕ) (room : ℕ) (few : CountedIn stage b) where
  abbrev f : Feed
  f = feed stage b bytes room

  moved : Fed stage b bytes room f
  moved = fed stage b bytes few room

  pub feed-meaning : (x : List ℕ) → meaning stage b (bytes ++ x) ≡ f.text ++ meaning f.stage f.batch (f.rest ++ x)
  feed-meaning x = fed-meaning few moved x

  pub feed-counted : CountedIn f.stage f.batch
  feed-counted = fed-counted few moved

  pub feed-few : Counted b → Counted f.batch
  feed-few all = fed-few all moved

  pub feed-room : length f.text ≤ room
  feed-room = fed-room moved

  pub feed-rest : length f.rest ≤ length bytes
  feed-rest = let (n, e, d) = fed-front moved in omega arith

  pub feed-end : drop (length bytes - length f.rest) bytes ≡ f.rest
  feed-end =
      let (n, e, d) = fed-front moved in
      let taken : length bytes - length f.rest ≡ n = omega arith in
      ap (λ k. drop k bytes) taken ∙ e

  pub feed-waits : f.full ≡ false → waits_with_of f.stage f.batch f.rest ≡ true
  feed-waits fits = fed-waits moved fits

  pub feed-short : f.full ≡ false → length f.rest < held_need
  feed-short fits = waits-short f.stage f.batch f.rest (feed-waits fits)

  pub feed-next : f.full ≡ true → TooLong f room
  feed-next full = fed-next moved full

  module _ (c : List ℕ) where
    pub feed-append : feed stage b (bytes ++ c) room ≡ followed_by f c room
    feed-append = fed-append few moved c

    pub append-full : f.full ≡ true → feed stage b (bytes ++ c) room ≡ stays_before f c
    unfolding followed_by
    append-full full = feed-append ∙ ap (λ t. cond t (stays_before f c) (goes_on_of f c room)) full

    pub append-fits : f.full ≡ false → feed stage b (bytes ++ c) room ≡ goes_on_of f c room
    unfolding followed_by
    append-fits fits = feed-append ∙ ap (λ t. cond t (stays_before f c) (goes_on_of f c room)) fits

-- Either nothing is taken, or all bytes that waited are, with at least one of those after them.
pub feed-held : (stage : Stage) (b : Batch) (held y : List ℕ) (room : ℕ) → CountedIn stage b → waits_with_of stage b held ≡ true
    → let f = feed stage b (held ++ y) room in Untaken f stage b (held ++ y) ⊎ (length f.rest ≤ length y - 1)
feed-held stage b held y room few w = fed-held held y w (fed stage b (held ++ y) few room)
