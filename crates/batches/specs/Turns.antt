-- What the functions that work on the bytes of a batch give, and how a turn follows a turn.
--
-- Main definitions
--   fed_of r output           the call that a result and the output after it give
--   Turned, turn_of, turn_by   one sheet: answered, or the work stops
--   sheet_in bytes from to    the answer to the sheet between two places
--   Sofar b₀ bytes output₀ b at out output   the sheets so far: what is written for them, and what is left to do
--
-- Main statements
--   nothing-by               a result with which nothing is taken
--   breaks-full, breaks-over   a batch that is broken, without and with room for the `3`
--   put_full, put-done       a sheet whose answer does not fit, and one that is answered
--   turn-waits, turn-breaks, turn-sheet   the next turn, by what the bytes begin with
--   count-waits, count-breaks, count-sheets   the line with the sheet count
--   sofar-none, sofar-length, sofar-bounds, sofar-goes, sofar-stops   from turn to turn
use Rattle.std.specs.Prelude.{ℕ, ◌+◌, ◌-◌, ◌≤◌, ◌<◌, ◌≢◌, Bool, List, [], ◌++◌, T, eqb, take}
use Rattle.std.proofs.Common.{zero-le, arith, ◌∙◌, true≢false, append-nil, append_assoc, le-leb, ne_eqb, leb→le, length-append, drop-drop}
use Rattle.std.proofs.Math.Nat.{sub_self, sub-zero}
use Rattle.std.proofs.Math.Path.{◌≡◌, refl, sym, ap, ap₂, subst}
use Rattle.std.proofs.Math.Bool.{true, false, not, cond}
use Rattle.std.proofs.lemmas.Bool.{lt-leb}
use Rattle.std.proofs.Math.Dec.{leb}
use borrow.Rule.Slice.PartMut.{put_mid}
use Rattle.std.proofs.Math.ListN.{length, drop, length-drop}
use Rattle.std.proofs.Math.Seq.{take_at, drop_at}
use Rattle.lists.specs.Overwritten.{overwrite, put-behind, length-overwrite}
use Rattle.rules.specs.Batch.{Answer, answer_sheet, answer_bytes, broken}
use Rattle.frames.specs.declared.Batch.{Batch}
use Rattle.frames.specs.declared.Begun.{Begun}
use Rattle.frames.specs.declared.Text.{Text}
use Rattle.frames.specs.PieceSizes.{begun-counted}
use Rattle.frames.specs.Pieces.{text_of, shown, shown-text, refusal_line_of, refusal-broken, begun_of, begun-inside}
use Rattle.frames.specs.Pieces.{counted_of, Counted, counted-left}
use Rattle.batches.specs.declared.Stage.{Stage}
use Rattle.batches.specs.declared.Stage.TheVariants.{Count, Sheets, Over}
use Rattle.placed_answers.specs.declared.Put.{Put}
use Rattle.batches.specs.declared.feeding.Fed.{Fed}
use Rattle.batches.specs.declared.feeding.Turn.{Turn}
use Rattle.batches.specs.Feeds.{Next, waits, breaks, sheet, next_sheet, Feed, waiting_at, full_at, over_at, breaking_at}
use Rattle.batches.specs.Feeds.{Step, stopped, answered, answer_step, step_by, step, prefixed}
use Rattle.batches.specs.Feeds.{after_step, steps, feed_sheets, feed_count, feed, FeedCall, fed_by}
use Rattle.batches.specs.Moves.{Look, look, look-some, Move, answering, move-inside, move-few}
use Rattle.batches.specs.FeedLaws.{feed-move, feed-room, feed-rest}
use Rattle.placed_answers.specs.Answering.{number_of, put_of, answer_put, put, unput}
use Rattle.lists.specs.Taken.{whole_part}

abbrev call_with : Stage → Batch → ℕ → ℕ → Bool → List ℕ → FeedCall
call_with stage b taken written full output =
    record { stage = stage; batch = b; taken = taken; written = written; full = full; output = output }

abbrev feed_with : Stage → Batch → List ℕ → List ℕ → Bool → Feed
feed_with stage b rest text full = record { stage = stage; batch = b; rest = rest; text = text; full = full }

abbrev pub fed_of : Fed → List ℕ → FeedCall
fed_of r output =
    call_with r.stage r.batch r.taken r.written r.full output

abbrev pub stopped_of : Fed → Turn
stopped_of f = record { going = false; fed = f }

pub record Turned : Type 0 where
  pub going : Bool
  pub call : FeedCall

abbrev pub turn_of : Turn → List ℕ → Turned
turn_of r output = record { going = r.going; call = fed_of r.fed output }

-- A sheet that was answered: what is written for it stands at the front of the output.
abbrev pub answered_call : Batch → List ℕ → List ℕ → List ℕ → List ℕ → FeedCall
answered_call b rest text bytes output =
    call_with Sheets b (length bytes - length rest) (length text) false (overwrite text output)

unfoldable pub turn_by : Step → List ℕ → List ℕ → Turned
unfolding fed_by overwrite
turn_by (stopped f) bytes output = record { going = false; call = fed_by f bytes output }
turn_by (answered b rest text) bytes output = record { going = true; call = answered_call b rest text bytes output }

abbrev pub sheet_in : List ℕ → ℕ → ℕ → Answer
sheet_in bytes from to = answer_sheet (take (to - from) (drop from bytes))

-- ---- nothing taken, and a batch that is broken

abbrev nothing : Stage → Batch → Bool → Fed
nothing stage b full = record { stage = stage; batch = b; taken = 0; written = 0; full = full }

pub nothing-by : (stage : Stage) (b : Batch) (full : Bool) (bytes output : List ℕ)
    → fed_of (nothing stage b full) output ≡ fed_by (feed_with stage b bytes [] full) bytes output
unfolding fed_by overwrite
nothing-by stage b full bytes output =
    λ i. call_with stage b (sym (sub_self (length bytes)) i) 0 full output

module _ (stage : Stage) (b : Batch) (bytes output : List ℕ) (line : Text) (e : line ≡ text_of (refusal_line_of 3)) where
  three : (line.length ≡ length broken) × (shown line ≡ broken)
  unfolding text_of
  three = (ap (λ t. t.length) e ∙ ap length refusal-broken, ap shown e ∙ shown-text (refusal_line_of 3) ∙ refusal-broken)

  pub breaks-full : length output < line.length
      → fed_of (nothing stage b true) output ≡ fed_by (breaking_at stage b bytes (length output)) bytes output
  unfolding breaking_at
  breaks-full h =
      nothing-by stage b true bytes output
      ∙ ap (λ t. fed_by (cond t (over_at b broken) (full_at stage b bytes)) bytes output)
      (sym (lt-leb (length broken) (length output) (omega (arith, three.0))))

  pub breaks-over : line.length ≤ length output → (after : List ℕ) → after ≡ overwrite (shown line) output
      → ◌≡◌ {A = FeedCall} (call_with Over b (length bytes) line.length false after)
      (fed_by (breaking_at stage b bytes (length output)) bytes output)
  unfolding breaking_at fed_by
  breaks-over h after same =
      (λ i. call_with Over b (sym (sub-zero (length bytes)) i) (three.0 i) false ((same ∙ ap (λ l. overwrite l output) three.1) i))
      ∙ ap (λ t. fed_by (cond t (over_at b broken) (full_at stage b bytes)) bytes output)
      (sym (le-leb (length broken) (length output) (omega (arith, three.0))))

-- ---- one sheet

module _ (a : Answer) (client : ℕ) (b : Batch) (bytes output : List ℕ) (to : ℕ) (r : Put) (after : List ℕ) (e : put_of r after ≡ answer_put a output) where
  abbrev stepped : Step
  stepped = answer_step a client b bytes (length output) to

  by-fit : (t : Bool) → leb (length (answer_bytes a)) (length output) ≡ t
      → (put_of r after ≡ cond t (put a output) (unput output))
      × (stepped ≡ cond t (answered (counted_of b client (number_of a)) (drop to bytes) (answer_bytes a)) (stopped (full_at Sheets b bytes)))
  unfolding answer_put answer_step
  by-fit t f = (
    e ∙ ap (λ t. cond t (put a output) (unput output)) f,
    ap
        (λ t. cond t (answered (counted_of b client (number_of a)) (drop to bytes) (answer_bytes a)) (stopped (full_at Sheets b bytes))) f,
  )

  pub put_full : not r.fits ≡ true → turn_of (stopped_of (nothing Sheets b true)) after ≡ turn_by stepped bytes output
  unfolding turn_by
  put_full h = go (leb (length (answer_bytes a)) (length output)) refl
    where
      go : (t : Bool) → leb (length (answer_bytes a)) (length output) ≡ t → turn_of
          (stopped_of (nothing Sheets b true)) after ≡ turn_by stepped bytes output
      go true f = absurd (true≢false (sym h ∙ ap (λ c. not c.fits) (by-fit true f).0))
      go false f =
          ap (λ o. turn_of (stopped_of (nothing Sheets b true)) o) (ap (λ c. c.output) (by-fit false f).0)
          ∙ ap (λ c. record { going = false; call = c }) (nothing-by Sheets b true bytes output)
          ∙ ap (λ s. turn_by s bytes output) (sym (by-fit false f).1)

  pub put-done : not r.fits ≡ false → to ≤ length bytes
      → ◌≡◌ {A = Turned} (record { going = true; call = call_with Sheets (counted_of b client r.refusal) to r.written false after })
      (turn_by stepped bytes output)
  unfolding turn_by
  put-done h inside = go (leb (length (answer_bytes a)) (length output)) refl
    where
      go : (t : Bool) → leb (length (answer_bytes a)) (length output) ≡ t
          → ◌≡◌ {A = Turned} (record { going = true; call = call_with Sheets (counted_of b client r.refusal) to r.written false after })
          (turn_by stepped bytes output)
      go false f = absurd (true≢false (sym (ap (λ c. not c.fits) (by-fit false f).0) ∙ h))
      go true f =
          ap₂ (λ c n. record { going = true; call = call_with Sheets (counted_of b client c.refusal) n c.written false c.output })
          (by-fit true f).0 taken
          ∙ ap (λ s. turn_by s bytes output) (sym (by-fit true f).1)
        where
          taken : to ≡ length bytes - length (drop to bytes)
          taken = omega (arith, length-drop to bytes)

-- ---- the next turn

module _ (b : Batch) (bytes output : List ℕ) where
  abbrev turned : Turned
  turned = turn_by (step b bytes (length output)) bytes output

  turned_by : (n : Next) → next_sheet b.left bytes ≡ n → turned ≡ turn_by (step_by n b bytes (length output)) bytes output
  unfolding step
  turned_by n e = ap (λ n. turn_by (step_by n b bytes (length output)) bytes output) e

  pub turn-waits : next_sheet b.left bytes ≡ waits → turn_of (stopped_of (nothing Sheets b false)) output ≡ turned
  unfolding step_by turn_by
  turn-waits e =
      ap (λ c. record { going = false; call = c }) (nothing-by Sheets b false bytes output) ∙ sym (turned_by waits e)

  pub turn-breaks : next_sheet b.left bytes ≡ breaks → (r : Fed) (after : List ℕ)
      → fed_of r after ≡ fed_by (breaking_at Sheets b bytes (length output)) bytes output → turn_of (stopped_of r) after ≡ turned
  unfolding step_by turn_by
  turn-breaks e r after f = ap (λ c. record { going = false; call = c }) f ∙ sym (turned_by breaks e)

  pub turn-sheet : (client from to : ℕ) → next_sheet b.left bytes ≡ sheet client from to
      → turn_by (answer_step (sheet_in bytes from to) client b bytes (length output) to) bytes output ≡ turned
  unfolding step_by
  turn-sheet client from to e = sym (turned_by (sheet client from to) e)

-- ---- from turn to turn

-- A sheet that is answered is a move of the batch.
record Went (b b' : Batch) (bytes rest text : List ℕ) (room : ℕ) : Type 0 where
  to : ℕ
  moved : Move Sheets b bytes (record { text = text; stage = Sheets; batch = b'; taken = to })
  beyond : rest ≡ drop to bytes
  fits : length text ≤ room
  some : b.left ≢ 0
  client : ℕ
  refusal : ℕ
  counted : b' ≡ counted_of b client refusal

step-answered : (b b' : Batch) (bytes rest text : List ℕ) (room : ℕ) → step b bytes room ≡ answered b' rest text
    → Went b b' bytes rest text room
unfolding step step_by answer_step
step-answered b b' bytes rest text room e = go (next_sheet b.left bytes) (look b.left bytes) e
  where
    go : (n : Next) → Look b.left bytes n → step_by n b bytes room ≡ answered b' rest text → Went b b' bytes rest text room
    go waits l e = absurd (let z : ◌≡◌ {A = ℕ} 0 1 = cc in omega arith)
    go breaks l e = absurd (let z : ◌≡◌ {A = ℕ} 0 1 = cc in omega arith)
    go (sheet client from to) l e = by (leb (length (answer_bytes a)) room) (leb→le (length (answer_bytes a)) room) e
      where
        a : Answer
        a = answer_sheet (take (to - from) (drop from bytes))

        by : (t : Bool) → (T t → length (answer_bytes a) ≤ room)
            → cond t (answered (counted_of b client (number_of a)) (drop to bytes) (answer_bytes a))
            (stopped (full_at Sheets b bytes)) ≡ answered b' rest text
            → Went b b' bytes rest text room
        by true h e =
            let batch : counted_of b client (number_of a) ≡ b' = cc in
            let shown : answer_bytes a ≡ text = cc in
            let left : drop to bytes ≡ rest = cc in
            record {
              to = to;
              moved =
                  subst (λ c. Move Sheets b bytes (record { text = text; stage = Sheets; batch = c; taken = to })) batch
                  (subst (λ l. Move Sheets b bytes
                  (record { text = l; stage = Sheets; batch = counted_of b client (number_of a); taken = to })) shown
                  (answering l refl));
              beyond = sym left;
              fits = subst (λ l. length l ≤ room) shown (h tt);
              some = look-some l;
              client = client;
              refusal = number_of a;
              counted = sym batch;
            }
        by false h e = absurd (let z : ◌≡◌ {A = ℕ} 0 1 = cc in omega arith)

pub record Sofar (b₀ : Batch) (bytes output₀ : List ℕ) (b : Batch) (at out : ℕ) (output : List ℕ) : Type 0 where
  pub text : List ℕ
  pub written : length text ≡ out
  pub fits : out ≤ length output₀
  pub stored : output ≡ overwrite text output₀
  pub inside : at ≤ length bytes
  pub few : Counted b
  pub rest : feed_sheets b₀ bytes (length output₀) ≡ prefixed text (feed_sheets b (drop at bytes) (length output₀ - out))

pub sofar-none : (b : Batch) (bytes output : List ℕ) → Counted b → Sofar b bytes output b 0 0 output
unfolding overwrite
sofar-none b bytes output few =
    record {
      text = [];
      written = refl;
      fits = zero-le;
      stored = refl;
      inside = zero-le;
      few = few;
      rest = ap (feed_sheets b bytes) (sym (sub-zero (length output)));
    }

-- A feed with another text.
abbrev written-before : Feed → List ℕ → Feed
written-before f l = feed_with f.stage f.batch f.rest l f.full

-- The output so far keeps its length.
pub sofar-length : {b₀ b : Batch} {bytes output₀ output : List ℕ} {at out : ℕ} → Sofar b₀ bytes output₀ b at out output
    → length output ≡ length output₀
sofar-length {output₀ = output₀} s =
    ap length s.stored ∙ length-overwrite s.text output₀ (omega (arith, s.written, s.fits))

module _ {b₀ b : Batch} {bytes output₀ output : List ℕ} {at out : ℕ} (s : Sofar b₀ bytes output₀ b at out output) (t : Turn)
    (after : List ℕ)
    (e : turn_of t after
    ≡ turn_by (step b (take (length bytes - at) (drop at bytes)) (length (take (length output - out) (drop out output))))
    (take (length bytes - at) (drop at bytes)) (take (length output - out) (drop out output))) where
  abbrev left : List ℕ
  left = drop at bytes

  abbrev free : List ℕ
  free = drop out output₀

  abbrev room : ℕ
  room = length output₀ - out

  free-room : length free ≡ room
  free-room = length-drop out output₀

  -- What was written before stands at the front, and the free part behind it.
  parted : (take out output ≡ s.text) × (drop out output ≡ free)
  unfolding overwrite
  parted = (
    ap (take out) s.stored ∙ take_at s.text (drop (length s.text) output₀) out s.written,
    ap (drop out) s.stored ∙ drop_at s.text (drop (length s.text) output₀) out s.written ∙ ap
        (λ n. drop n output₀) s.written,
  )

  done : turn_of t after ≡ turn_by (step b left room) left free
  done =
      e
      ∙ ap₂ (λ p q. turn_by (step b p (length q)) p q) (whole_part bytes at s.inside).0
      ((whole_part output out (omega (arith, sofar-length s, s.fits))).0 ∙ parted.1)
      ∙ ap (λ n. turn_by (step b left n) left free) free-room

  -- The output after the turn, and what the loop gives where it stops.
  abbrev output' : List ℕ
  output' = put_mid out (length output - out) output after

  abbrev ended : FeedCall
  ended = call_with t.fed.stage t.fed.batch (at + t.fed.taken) (out + t.fed.written) t.fed.full output'

  -- What the turn writes stands behind what was written before.
  behind : (l : List ℕ) → after ≡ overwrite l free → output' ≡ overwrite (s.text ++ l) output₀
  behind l same =
      ap₂ (λ p q. p ++ (after ++ q)) parted.0 (whole_part output out (omega (arith, sofar-length s, s.fits))).1
      ∙ ap (λ q. s.text ++ q) (append-nil after ∙ same ∙ ap (λ n. overwrite l (drop n output₀)) (sym s.written))
      ∙ put-behind s.text l output₀

  -- The work stops.
  module _ (g : Feed) (f : step b left room ≡ stopped g) where
    call : fed_of t.fed after ≡ fed_by g left free
    unfolding turn_by
    call = ap (λ c. c.call) (done ∙ ap (λ x. turn_by x left free) f)

    fed : feed_sheets b left room ≡ g
    unfolding feed_sheets steps after_step
    fed = ap (λ x. after_step x room (steps b.left)) f

    small : length g.rest ≤ length left
    unfolding feed
    small = subst (λ g. length g.rest ≤ length left) fed (feed-rest Sheets b left room s.few)

    taken : at + t.fed.taken ≡ length bytes - length g.rest
    unfolding fed_by
    taken = ap (λ c. at + c.taken) call ∙ omega (arith, small, length-drop at bytes, s.inside)

    written : out + t.fed.written ≡ length (s.text ++ g.text)
    unfolding fed_by
    written = ap (λ c. out + c.written) call ∙ ap (λ n. n + length g.text) (sym s.written) ∙ sym (length-append s.text g.text)

    stops : ended ≡ fed_by (feed_sheets b₀ bytes (length output₀)) bytes output₀
    unfolding fed_by
    stops =
        (λ i. call_with (call i).stage (call i).batch (taken i) (written i) (call i).full (behind g.text (ap (λ c. c.output) call) i))
        ∙ ap (λ f. fed_by f bytes output₀) (sym (s.rest ∙ ap (prefixed s.text) fed))

  pub sofar-stops : not t.going ≡ true
      → ended ≡ fed_by (feed_sheets b₀ bytes (length output₀)) bytes output₀
  unfolding turn_by
  sofar-stops h = go (step b left room) refl
    where
      go : (x : Step) → step b left room ≡ x
          → ended ≡ fed_by (feed_sheets b₀ bytes (length output₀)) bytes output₀
      go (answered b' rest text) f =
          absurd (true≢false (sym h ∙ ap (λ c. not c.going) (done ∙ ap (λ x. turn_by x left free) f)))
      go (stopped g) f = stops g f

  -- The sheet is answered.
  module _ (b' : Batch) (rest text : List ℕ) (f : step b left room ≡ answered b' rest text) where
    went : Went b b' left rest text room
    went = step-answered b b' left rest text room f

    answered-by : fed_of t.fed after ≡ answered_call b' rest text left free
    unfolding turn_by
    answered-by = ap (λ c. c.call) (done ∙ ap (λ x. turn_by x left free) f)

    taken-to : t.fed.taken ≡ went.to
    taken-to =
        ap (λ c. c.taken) answered-by ∙ ap (λ l. length left - length l) went.beyond
        ∙ omega (arith, move-inside went.moved, length-drop went.to left)

    written-to : t.fed.written ≡ length text
    written-to = ap (λ c. c.written) answered-by

    batch-to : t.fed.batch ≡ b'
    batch-to = ap (λ c. c.batch) answered-by

    feeds : feed_sheets b left room ≡ prefixed text (feed_sheets b' (drop went.to left) (room - length text))
    unfolding feed
    feeds = feed-move room s.few went.moved went.fits

    place : drop went.to left ≡ drop (at + t.fed.taken) bytes
    place = drop-drop went.to at bytes ∙ ap (λ n. drop (at + n) bytes) (sym taken-to)

    less : room - length text ≡ length output₀ - (out + t.fed.written)
    less = omega (arith, written-to)

    goes : Sofar b₀ bytes output₀ t.fed.batch (at + t.fed.taken) (out + t.fed.written) output'
        × (t.fed.batch.left < b.left)
    goes = (
      record {
        text = s.text ++ text;
        written = length-append s.text text ∙ omega (arith, s.written, written-to);
        fits = omega (arith, s.fits, written-to, went.fits);
        stored = behind text (ap (λ c. c.output) answered-by);
        inside = omega (arith, s.inside, taken-to, move-inside went.moved, length-drop at bytes);
        few = subst Counted (sym batch-to) (move-few s.few went.moved);
        rest =
            s.rest ∙ ap (prefixed s.text) feeds
            ∙ ap (written-before (feed_sheets b' (drop went.to left) (room - length text))) (sym (append_assoc s.text text _))
            ∙ (λ i. prefixed (s.text ++ text) (feed_sheets (sym batch-to i) (place i) (less i)));
      },
      rw (batch-to, went.counted, counted-left b s.few went.some went.client went.refusal) (omega (arith, went.some)),
    )

  pub sofar-goes : not t.going ≡ false
      → Sofar b₀ bytes output₀ t.fed.batch (at + t.fed.taken) (out + t.fed.written) output'
      × (t.fed.batch.left < b.left)
  unfolding turn_by
  sofar-goes h = go (step b left room) refl
    where
      go : (x : Step) → step b left room ≡ x
          → Sofar b₀ bytes output₀ t.fed.batch (at + t.fed.taken) (out + t.fed.written) output'
          × (t.fed.batch.left < b.left)
      go (stopped g) f = absurd (true≢false (sym (ap (λ c. not c.going) (done ∙ ap (λ x. turn_by x left free) f)) ∙ h))
      go (answered b' rest text) f = goes b' rest text f

  -- No more bytes are taken and written than there are and fit.
  pub sofar-bounds : (at + t.fed.taken ≤ length bytes) × (out + t.fed.written ≤ length output₀)
  unfolding feed
  sofar-bounds = go (step b left room) refl
    where
      go : (x : Step) → step b left room ≡ x → (at + t.fed.taken ≤ length bytes) × (out + t.fed.written ≤ length output₀)
      go (stopped g) f =
          let few : length g.text ≤ room = subst (λ g. length g.text ≤ room) (fed g f) (feed-room Sheets b left room s.few) in
          (omega (arith, taken g f), rw (written g f, length-append) (omega (arith, few, s.written, s.fits)))
      go (answered b' rest text) f = let next = (goes b' rest text f).0 in (next.inside, next.fits)

-- ---- the line with the sheet count

module _ (b : Batch) (bytes output : List ℕ) where
  abbrev begun : Begun
  begun = begun_of bytes

  abbrev counted : FeedCall
  counted = fed_by (feed_count b bytes (length output)) bytes output

  -- By the number of its fault.
  counted-by : (r : ℕ) → begun.refusal ≡ r
      → counted
      ≡ fed_by (cond (eqb r 4) (waiting_at Count b bytes)
      (cond (eqb r 0) (feed_sheets begun.batch (drop begun.taken bytes) (length output))
      (breaking_at Count b bytes (length output)))) bytes output
  unfolding feed_count
  counted-by r e = rw e

  pub count-waits : begun.refusal ≡ 4 → fed_of (nothing Count b false) output ≡ counted
  count-waits e = nothing-by Count b false bytes output ∙ sym (counted-by 4 e)

  pub count-breaks : begun.refusal ≢ 4 → begun.refusal ≢ 0 → fed_by (breaking_at Count b bytes (length output)) bytes output ≡ counted
  count-breaks h i =
      sym (counted-by begun.refusal refl ∙ rw (ne_eqb begun.refusal 4 h, ne_eqb begun.refusal 0 i))

  module _ (e : begun.refusal ≡ 0) (r : Fed) (after : List ℕ)
      (f : fed_of r after
      ≡ fed_by (feed_sheets begun.batch (take (length bytes - begun.taken) (drop begun.taken bytes)) (length output))
      (take (length bytes - begun.taken) (drop begun.taken bytes)) output) where
    abbrev sheets-fed : Feed
    sheets-fed = feed_sheets begun.batch (drop begun.taken bytes) (length output)

    sheets-by : fed_of r after ≡ fed_by sheets-fed (drop begun.taken bytes) output
    sheets-by =
        f ∙ ap (λ p. fed_by (feed_sheets begun.batch p (length output)) p output) (whole_part bytes begun.taken (begun-inside bytes)).0

    few-left : length sheets-fed.rest ≤ length (drop begun.taken bytes)
    unfolding feed
    few-left = feed-rest Sheets begun.batch (drop begun.taken bytes) (length output) (begun-counted bytes)

    taken-all : begun.taken + r.taken ≡ length bytes - length sheets-fed.rest
    unfolding fed_by
    taken-all =
        ap (λ c. begun.taken + c.taken) sheets-by ∙ omega (arith, few-left, length-drop begun.taken bytes, begun-inside bytes)

    fed-all : ◌≡◌ {A = FeedCall}
        (call_with r.stage r.batch (begun.taken + r.taken) r.written r.full after)
        counted
    unfolding fed_by
    fed-all =
        (λ i. call_with (sheets-by i).stage (sheets-by i).batch (taken-all i) (sheets-by i).written
        (sheets-by i).full (sheets-by i).output)
        ∙ sym (counted-by 0 e)

  -- The line was read, and its sheets fed.
  abbrev SheetsFed : Begun → Fed → List ℕ → Type 0
  SheetsFed v r after =
      fed_of r after
      ≡ fed_by (feed_sheets v.batch (take (length bytes - v.taken) (drop v.taken bytes)) (length output))
      (take (length bytes - v.taken) (drop v.taken bytes)) output

  pub count-sheets : (v : Begun) → v ≡ begun → v.refusal ≡ 0 → (r : Fed) (after : List ℕ) → SheetsFed v r after
      → (v.taken + r.taken ≤ length bytes)
      × (◌≡◌ {A = FeedCall}
      (call_with r.stage r.batch (v.taken + r.taken) r.written r.full after)
      counted)
  count-sheets v same =
      subst
      (λ v.
      v.refusal ≡ 0 → (r : Fed) (after : List ℕ) → SheetsFed v r after
      → (v.taken + r.taken ≤ length bytes)
      × (◌≡◌ {A = FeedCall} (call_with r.stage r.batch (v.taken + r.taken) r.written r.full after) counted))
      (sym same) (λ e r after f. (omega (arith, taken-all e r after f), fed-all e r after f))
