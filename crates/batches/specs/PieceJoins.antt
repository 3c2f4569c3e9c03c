-- What one piece of a batch comes to, by what the feed of its bytes gave: with no bytes held, and with some.
--
-- Main statements
--   unheld-bounds, unheld-taken, unheld-few   what is taken of a piece is there, and the batch stays counted
--   unheld-left                      what is left of a piece is less than a line and a sheet can have
--   unheld-full, unheld-rest         no bytes held: the next answer does not fit, or what is left is held
--   unheld-call                      a piece of a stream of which no bytes are held
--   rest-full, rest_goes, rest-bounds   what follows the first answers
--   joins, laid_on                   bytes laid behind those that are held
--   held-untaken, held-from, held-taken   some bytes held: nothing is taken, or they are taken and more
use Rattle.std.specs.Prelude.{ℕ, min, ◌+◌, ◌-◌, ◌≤◌, ◌<◌, ◌≡◌, ◌≢◌, ◌⊎◌, Bool, false}
use native.Mathlib.Omega.{arith}
use Rattle.std.proofs.Math.Path.{refl, sym, ap, ap₂, subst}
use Rattle.std.proofs.Common.{◌∙◌, inl, inr, ne_eqb, length-append, take-append-drop, length-take-le, take_all}
use Rattle.std.proofs.Math.Bool.{true, cond}
use mathlib.Core.List.{List, [], ◌++◌, append-nil, append_assoc}
use borrow.Rule.Slice.PartMut.{put_mid}
use Rattle.std.proofs.Math.ListN.{length, take, drop, length-drop}
use Rattle.std.proofs.Math.Seq.{take_at, drop_at, take-append-add, drop-append-add}
use Rattle.std.proofs.lemmas.List.{drop-append-le}
use Rattle.lists.specs.Overwritten.{overwrite, overwrite-twice, overwrite-again, put-behind, length-overwrite}
use Rattle.frames.specs.declared.Batch.{Batch}
use Rattle.frames.specs.Pieces.{Counted}
use Rattle.batches.specs.declared.Stage.{Stage}
use Rattle.batches.specs.declared.Stream.{Stream}
use Rattle.batches.specs.declared.PieceResult.{PieceResult}
use Rattle.batches.specs.declared.feeding.Fed.{Fed}
use Rattle.batches.specs.Feeds.{Feed, feed, prefixed, fed_by, feed_call}
use Rattle.batches.specs.PieceCalls.{held_need, stream_check, PieceCall, call_of, kept_of, laid, piece_by, piece_call}
use Rattle.batches.specs.Moves.{CountedIn, counted-in}
use Rattle.batches.specs.FeedLaws.{Untaken, stays_before, feed-few, feed-room, feed-rest, feed-end}
use Rattle.batches.specs.FeedLaws.{feed-short, append-full, append-fits, feed-held}
use Rattle.batches.specs.PieceLaws.{Right, check-right, call-is}
use Rattle.lists.specs.Taken.{whole_part, take-least}
use Rattle.batches.specs.Turns.{fed_of}
use Rattle.batches.specs.PieceSteps.{stream_at, unheld, untaken_of, behind, rest_of}

-- What a feed gives where the bytes `kept` are held after it, put into a store that holds anything.
abbrev shaped : Feed → ℕ → List ℕ → List ℕ → List ℕ → PieceCall
shaped f n store output kept =
    record {
      refusal = 0;
      stream = stream_at f.stage f.batch (length kept);
      taken = n - (length f.rest - length kept);
      written = length f.text;
      store = overwrite kept store;
      output = overwrite f.text output;
    }

abbrev piece_with : Stream → ℕ → ℕ → List ℕ → List ℕ → PieceCall
piece_with stream taken written store output =
    record { refusal = 0; stream = stream; taken = taken; written = written; store = store; output = output }

-- ---- no bytes held

-- The bytes that are kept of a piece, where all that is left is of the piece.
kept-none : (f : Feed) (piece : List ℕ) → length f.rest ≤ length piece → f.full ≡ true → kept_of f piece ≡ []
unfolding kept_of
kept-none f piece h e =
    let none : length f.rest - length piece ≡ 0 = omega arith in
    ap (λ t. cond t (take (length f.rest - length piece) f.rest) f.rest) e ∙ ap (λ n. take n f.rest) none

kept-all : (f : Feed) (piece : List ℕ) → f.full ≡ false → kept_of f piece ≡ f.rest
unfolding kept_of
kept-all f piece e = ap (λ t. cond t (take (length f.rest - length piece) f.rest) f.rest) e

module _ (stage : Stage) (b : Batch) (store piece output : List ℕ) (few : Counted b) where
  abbrev fed : Feed
  fed = feed stage b piece (length output)

  few-in : CountedIn stage b
  few-in = counted-in stage b few

  unheld-is : unheld stage b store piece output ≡ shaped fed (length piece) store output (kept_of fed piece)
  unfolding unheld piece_by laid overwrite
  unheld-is = refl

  -- What is written fits, and no more is taken than there is.
  pub unheld-bounds : ((unheld stage b store piece output).taken ≤ length piece) ×
      ((unheld stage b store piece output).written ≤ length output)
  unheld-bounds = (
    rw unheld-is (omega arith),
    rw unheld-is (feed-room stage b piece (length output) few-in),
  )

  module _ (r : Fed) (after : List ℕ) (e : fed_of r after ≡ feed_call stage b piece output) where
    pub unheld-taken : r.taken ≡ length piece - length fed.rest
    unfolding feed_call fed_by
    unheld-taken = ap (λ c. c.taken) e

    inside : length fed.rest ≤ length piece
    inside = feed-rest stage b piece (length output) few-in

    pub unheld-few : Counted r.batch
    unfolding feed_call fed_by
    unheld-few = subst Counted (sym (ap (λ c. c.batch) e)) (feed-few stage b piece (length output) few-in few)

    pub unheld-full : r.full ≡ true
        → call_of (record { refusal = 0; stream = stream_at r.stage r.batch 0; taken = r.taken; written = r.written }) store after
        ≡ unheld stage b store piece output
    unfolding feed_call fed_by call_of overwrite
    unheld-full h =
        let full : fed.full ≡ true = sym (ap (λ c. c.full) e) ∙ h in
        let all : r.taken ≡ length piece - (length fed.rest - 0) = unheld-taken ∙ omega arith in
        (λ i. piece_with (stream_at (e i).stage (e i).batch 0) (all i) (e i).written store (e i).output)
        ∙ ap (shaped fed (length piece) store output) (sym (kept-none fed piece inside full)) ∙ sym unheld-is

    left : take (length piece - r.taken) (drop r.taken piece) ≡ fed.rest
    left =
        (whole_part piece r.taken (omega (arith, unheld-taken))).0
        ∙ ap (λ n. drop n piece) unheld-taken ∙ feed-end stage b piece (length output) few-in

    fits_by : r.full ≡ false → fed.full ≡ false
    unfolding feed_call fed_by
    fits_by h = sym (ap (λ c. c.full) e) ∙ h

    -- What is left is less than a line and a sheet can have.
    pub unheld-left : r.full ≡ false → length (take (length piece - r.taken) (drop r.taken piece)) < held_need
    unheld-left h = rw left (feed-short stage b piece (length output) few-in (fits_by h))

    pub unheld-rest : r.full ≡ false → (copied : List ℕ) (n : ℕ)
        → (copied ≡ overwrite (take (length piece - r.taken) (drop r.taken piece)) store) →
        (n ≡ length (take (length piece - r.taken) (drop r.taken piece)))
        → call_of (record {
          refusal = 0;
          stream = stream_at r.stage
              r.batch n;
          taken = length piece;
          written = r.written;
        }) copied after
        ≡ unheld stage b store piece output
    unfolding feed_call fed_by call_of
    unheld-rest h copied n f g =
        let all : length piece ≡ length piece - (length fed.rest - length fed.rest) = omega arith in
        (λ i. piece_with (stream_at (e i).stage (e i).batch ((g ∙ ap length left) i)) (all i) (e i).written
        ((f ∙ ap (λ l. overwrite l store) left) i) (e i).output)
        ∙ ap (shaped fed (length piece) store output) (sym (kept-all fed piece (fits_by h))) ∙ sym unheld-is

-- A piece of a stream of which no bytes are held.
pub unheld-call : (s : Stream) (store piece output : List ℕ) → stream_check s store ≡ 0 → s.held ≡ 0
    → unheld s.stage s.batch store piece output ≡ piece_call s store piece output
unfolding unheld piece_by laid
unheld-call s store piece output right z =
    sym
    (call-is s store piece output right
    ∙ ap (λ n. piece_by (feed s.stage s.batch (take n store ++ piece) (length output))
    (stream_at s.stage s.batch n) store piece output) z)

-- ---- what follows the first answers

module _ (f : Fed) (from : ℕ) (store piece output : List ℕ) where
  pub rest-full : f.full ≡ true
      → call_of (record { refusal = 0; stream = stream_at f.stage f.batch 0; taken = from; written = f.written }) store output
      ≡ rest_of f from store piece output
  unfolding call_of rest_of
  rest-full e = rw e

  rest-by : f.full ≡ false
      → rest_of f from store piece output
      ≡ behind f from (unheld f.stage f.batch store (drop from piece) (drop f.written output)) output
  unfolding rest_of
  rest-by e = rw e

  module _ (inside : from ≤ length piece) (fits : f.written ≤ length output) (few : Counted f.batch) (r : PieceResult)
      (held part : List ℕ)
      (e : call_of r held part
      ≡ unheld f.stage f.batch store (take (length piece - from) (drop from piece))
      (take (length output - f.written) (drop f.written output))) where
    abbrev following : PieceCall
    following = unheld f.stage f.batch store (drop from piece) (drop f.written output)

    follows : call_of r held part ≡ following
    follows =
        e
        ∙ ap₂ (unheld f.stage f.batch store) (whole_part piece from inside).0 (whole_part output f.written fits).0

    pub rest-bounds : (from + r.taken ≤ length piece) × (f.written + r.written ≤ length output)
    unfolding call_of
    rest-bounds =
        let both = unheld-bounds f.stage f.batch store (drop from piece) (drop f.written output) few in (
          omega (arith, ap (λ c. c.taken) follows, both.0, length-drop from piece),
          omega (arith, ap (λ c. c.written) follows, both.1, length-drop f.written output),
        )

    pub rest_goes : f.full ≡ false
        → call_of (record { refusal = 0; stream = r.stream; taken = from + r.taken; written = f.written + r.written }) held
        (put_mid f.written (length output - f.written) output part)
        ≡ rest_of f from store piece output
    unfolding call_of rest_of behind
    rest_goes h =
        (λ i. piece_with (follows i).stream (from + (follows i).taken) (f.written + (follows i).written)
        (follows i).store (take f.written output ++ ((follows i).output ++ (whole_part output f.written fits).1 i)))
        ∙ ap (λ l. (piece_with following.stream (from + following.taken) (f.written + following.written)
        following.store (take f.written output ++ l))) (append-nil following.output)
        ∙ sym (rest-by h)

-- ---- bytes laid behind those that are held

-- The bytes l, put behind the first n of a store.
pub joins : (store l copied : List ℕ) (n : ℕ) → n ≤ length store → copied ≡ overwrite l (take (length store - n) (drop n store))
    → put_mid n (length store - n) store copied ≡ overwrite (take n store ++ l) store
joins store l copied n h e =
    let (all, none) = whole_part store n h in
    ap₂ (λ c r. take n store ++ (c ++ r)) (e ∙ ap (overwrite l) all) none
    ∙ ap (λ r. take n store ++ r) (append-nil (overwrite l (drop n store)))
    ∙ ap (λ k. take n store ++ overwrite l (drop k store)) (sym (length-take-le n store h))
    ∙ put-behind (take n store) l store

-- Places counted from the front of the bytes held, of the bytes laid on and of the piece.
from-held : (t h c x : ℕ) → t ≡ h + c - x → x ≤ c → t - h ≡ c - x
from-held t h c x e le = omega arith

over-held : (t h c x : ℕ) → t ≡ h + c → x ≤ c → t - x ≡ h + (c - x)
over-held t h c x e le = omega arith

from-piece : (c p x : ℕ) → c ≤ p → x ≤ c → c - x ≡ p - (x + (p - c))
from-piece c p x few le = omega arith

within-piece : (c p x : ℕ) → c ≤ p → x ≤ c → x + (p - c) ≤ p
within-piece c p x few le = omega arith

taken_in : (f p l d : ℕ) → f ≡ p - l → l ≤ p → d ≤ l → f + (l - d) ≡ p - d
taken_in f p l d e inside le = omega arith

sub-below : (x k l : ℕ) → x ≤ l → x - k ≤ l
sub-below x k l h = omega arith

less_one : (x c : ℕ) → x ≤ c - 1 → x ≤ c
less_one x c h = omega arith

least-left : (a b : ℕ) → min a b ≤ a
least-left a b = omega arith

module _ (s : Stream) (store piece output : List ℕ) (right : stream_check s store ≡ 0) (some : 0 < s.held) where
  abbrev held : List ℕ
  held = take s.held store

  abbrev count : ℕ
  count = min (length piece) (held_need - s.held)

  abbrev laid_on_of : List ℕ
  laid_on_of = take count piece

  abbrev beyond : List ℕ
  beyond = drop count piece

  abbrev room : ℕ
  room = length output

  checked : Right s store
  checked = check-right s store right

  held-length : length held ≡ s.held
  held-length = length-take-le s.held store (omega (arith, checked.few, checked.long))

  laid-length : length laid_on_of ≡ count
  laid-length = length-take-le count piece (omega arith)

  -- The bytes that were laid end to end are as many as a line and a sheet can have.
  laid-is : laid s.held (held ++ piece) ≡ held ++ laid_on_of
  unfolding laid
  laid-is =
      ap (λ t. cond t [] (take held_need (held ++ piece))) (ne_eqb s.held 0 (λ z. omega arith))
      ∙ ap (λ n. take n (held ++ piece))
      (let all : held_need ≡ length held + (held_need - s.held) = omega (arith, held-length, checked.few) in all)
      ∙ take-append-add held piece (held_need - s.held)
      ∙ ap (λ l. held ++ l) (take-least piece (held_need - s.held))

  few : CountedIn s.stage s.batch
  few = counted-in s.stage s.batch checked.counted

  abbrev first : Feed
  first = feed s.stage s.batch (held ++ laid_on_of) room

  abbrev whole : Feed
  whole = feed s.stage s.batch (held ++ piece) room

  parted : (held ++ laid_on_of) ++ beyond ≡ held ++ piece
  parted = append_assoc held laid_on_of beyond ∙ ap (λ l. held ++ l) (take-append-drop count piece)

  -- The store once the bytes are laid on.
  abbrev store' : List ℕ
  store' = overwrite (held ++ laid_on_of) store

  called : piece_call s store piece output ≡ shaped whole (length piece) store' output (kept_of whole piece)
  unfolding piece_by
  called =
      call-is s store piece output right
      ∙ ap (λ l. shaped whole (length piece) (overwrite l store) output (kept_of whole piece)) laid-is

  both-length : length (held ++ laid_on_of) ≡ s.held + count
  both-length = length-append held laid_on_of ∙ ap₂ ◌+◌ held-length laid-length

  -- The first n bytes of the piece, copied behind those that are held.
  pub record LaidOn (n : ℕ) (stored : List ℕ) : Type 0 where
    pub stored_is : stored ≡ store'
    pub fits : s.held + n ≤ length stored
    pub front : take (s.held + n) stored ≡ held ++ laid_on_of
    pub same : length stored ≡ length store

  laid-fits : length (held ++ laid_on_of) ≤ length store
  laid-fits = omega (arith, both-length, checked.few, checked.long)

  pub laid_on : (n : ℕ) → n ≡ count → (copied : List ℕ) → copied ≡ overwrite (take n piece)
      (take (length store - s.held) (drop s.held store))
      → LaidOn n (put_mid s.held (length store - s.held) store copied)
  unfolding overwrite
  laid_on n e copied f =
      let stored = put_mid s.held (length store - s.held) store copied in
      let is : stored ≡ store' =
      joins store (take n piece) copied s.held (omega (arith, checked.few, checked.long)) f ∙ ap
      (λ n. overwrite (held ++ take n piece) store) e in
      let size : length stored ≡ length store = ap length is ∙ length-overwrite (held ++ laid_on_of) store laid-fits in
      record {
        stored_is = is;
        fits = omega (arith, size, laid-fits, both-length, e);
        front =
            ap₂ (λ n l. take (s.held + n) l) e is
            ∙ take_at (held ++ laid_on_of) (drop (length (held ++ laid_on_of)) store) (s.held + count) both-length;
        same = size;
      }

  -- ---- the feed of the bytes laid end to end
  module _ (r : Fed) (after : List ℕ) (e : fed_of r after ≡ feed_call s.stage s.batch (held ++ laid_on_of) output) where
    taken-by : r.taken ≡ length (held ++ laid_on_of) - length first.rest
    unfolding feed_call fed_by
    taken-by = ap (λ c. c.taken) e

    full_by : r.full ≡ first.full
    unfolding feed_call fed_by
    full_by = ap (λ c. c.full) e

    written-by : r.written ≡ length first.text
    unfolding feed_call fed_by
    written-by = ap (λ c. c.written) e

    after-by : after ≡ overwrite first.text output
    unfolding feed_call fed_by
    after-by = ap (λ c. c.output) e

    rest-length : length first.rest ≤ length (held ++ laid_on_of)
    rest-length = feed-rest s.stage s.batch (held ++ laid_on_of) room few

    -- What the feed told, in one record.
    told : fed_of r after ≡ fed_by first (held ++ laid_on_of) output
    unfolding feed_call
    told = e

    -- Nothing is taken, or all that was held and more.
    either : Untaken first s.stage s.batch (held ++ laid_on_of) ⊎ (length first.rest ≤ count - 1)
    either =
        subst (λ n. Untaken first s.stage s.batch (held ++ laid_on_of) ⊎ (length first.rest ≤ n - 1)) laid-length
        (feed-held s.stage s.batch held laid_on_of room few checked.waiting)

    untaken : r.taken ≡ 0 → Untaken first s.stage s.batch (held ++ laid_on_of)
    untaken z = go either
      where
        go : Untaken first s.stage s.batch (held ++ laid_on_of) ⊎ (length first.rest ≤ count - 1)
            → Untaken first s.stage s.batch (held ++ laid_on_of)
        go (inl u) = u
        go (inr h) = absurd (omega (arith, z, taken-by, both-length, h, some))

    some-taken : r.taken ≢ 0 → length first.rest ≤ count - 1
    some-taken i = go either
      where
        go : Untaken first s.stage s.batch (held ++ laid_on_of) ⊎ (length first.rest ≤ count - 1) → length first.rest ≤ count - 1
        go (inl u) = absurd (i (taken-by ∙ omega (arith, ap length u.same_rest)))
        go (inr h) = h

    -- Nothing is taken, since the next answer does not fit.
    stays : (u : Untaken first s.stage s.batch (held ++ laid_on_of)) → first.full ≡ true → whole ≡ stays_before first beyond
    stays u h =
        ap (λ p. feed s.stage s.batch p room) (sym parted) ∙ append-full s.stage s.batch (held ++ laid_on_of) room few beyond h

    pub held-untaken : r.taken ≡ 0
        → call_of (untaken_of r s.held (s.held + count) (length piece)) store' after ≡ piece_call s store piece output
    unfolding fed_by kept_of call_of untaken_of
    held-untaken z = go first.full refl
      where
        u : Untaken first s.stage s.batch (held ++ laid_on_of)
        u = untaken z

        go : (t : Bool) → first.full ≡ t
            → call_of (untaken_of r s.held (s.held + count) (length piece)) store' after ≡ piece_call s store piece output
        go true h =
            by-full ∙ (λ i. piece_with (stream_at (told i).stage (told i).batch (sym held-length i)) (none i)
            (sym (ap length u.no_text) i) (sym (overwrite-twice held laid_on_of store) i) (told i).output)
            ∙ sym (called ∙ ap₂ (λ f kept. shaped f (length piece) store' output kept) w kept)
          where
            w : whole ≡ stays_before first beyond
            w = stays u h

            left : first.rest ++ beyond ≡ held ++ piece
            left = ap (λ l. l ++ beyond) u.same_rest ∙ parted

            kept : kept_of whole piece ≡ held
            kept =
                ap (λ f. kept_of f piece) w ∙ ap (λ l. take (length l - length piece) l) left
                ∙ take_at held piece _
                (let n : length held ≡ length (held ++ piece) - length piece = omega (arith, length-append held piece) in n)

            by-full : call_of (untaken_of r s.held (s.held + count) (length piece)) store' after
                ≡ piece_with (stream_at r.stage r.batch s.held) 0 0 store' after
            by-full = rw (full_by ∙ h)

            none : 0 ≡ length piece - (length (first.rest ++ beyond) - length held)
            none = omega (arith, ap length left, length-append held piece)
        go false h =
            by-full ∙ (λ i. piece_with (stream_at (told i).stage (told i).batch (size i)) (all i)
            (sym (ap length u.no_text) i) (again i) (told i).output)
            ∙ sym (called ∙ ap₂ (λ f kept. shaped f (length piece) store' output kept) w kept)
          where
            short : s.held + count < held_need
            short = omega (arith, feed-short s.stage s.batch (held ++ laid_on_of) room few h, ap length u.same_rest, both-length)

            w : whole ≡ first
            w =
                ap (λ l. feed s.stage s.batch (held ++ l) room)
                (sym (take_all count piece (omega (arith, short, checked.few))))

            kept : kept_of whole piece ≡ first.rest
            kept = ap (λ f. kept_of f piece) w ∙ kept-all first piece h

            by-full : call_of (untaken_of r s.held (s.held + count) (length piece)) store' after
                ≡ piece_with (stream_at r.stage r.batch (s.held + count)) (length piece) 0 store' after
            by-full = rw (full_by ∙ h)

            size : s.held + count ≡ length first.rest
            size = sym (ap length u.same_rest ∙ both-length)

            all : length piece ≡ length piece - (length first.rest - length first.rest)
            all = omega arith

            again : store' ≡ overwrite first.rest store'
            again = sym (ap (λ l. overwrite l store') u.same_rest ∙ overwrite-again (held ++ laid_on_of) store)

    -- Bytes of the piece are taken.
    module _ (i : r.taken ≢ 0) where
      abbrev from : ℕ
      from = r.taken - s.held

      abbrev rest : List ℕ
      rest = first.rest ++ beyond

      rest-is : length rest ≡ length first.rest + (length piece - count)
      rest-is = length-append first.rest beyond ∙ ap (λ n. length first.rest + n) (length-drop count piece)

      few-left : length first.rest ≤ count
      few-left = less_one (length first.rest) count (some-taken i)

      from_first : from ≡ count - length first.rest
      from_first =
          from-held r.taken s.held count (length first.rest) (taken-by ∙ ap (λ n. n - length first.rest) both-length) few-left

      from_is : from ≡ length piece - length rest
      from_is =
          from_first ∙ from-piece count (length piece) (length first.rest) (least-left (length piece) (held_need - s.held)) few-left
          ∙ ap (λ n. length piece - n) (sym rest-is)

      pub held-from : (s.held ≤ r.taken) × (from ≤ length piece) × (r.written ≤ length after) × Counted r.batch
      unfolding feed_call fed_by
      held-from = (
        omega (arith, taken-by, both-length, some-taken i),
        omega (arith, from_is),
        omega (arith, written-by, fits, ap length after-by, length-overwrite first.text output fits),
        subst Counted (sym (ap (λ c. c.batch) e)) (feed-few s.stage s.batch (held ++ laid_on_of) room few checked.counted),
      )
        where
          fits : length first.text ≤ length output
          fits = feed-room s.stage s.batch (held ++ laid_on_of) room few

      -- The feed goes on with what follows.
      module _ (h : first.full ≡ false) where
        abbrev free : List ℕ
        free = drop (length first.text) output

        abbrev next : Feed
        next = feed first.stage first.batch rest (length free)

        few-next : CountedIn first.stage first.batch
        few-next =
            counted-in first.stage first.batch (feed-few s.stage s.batch (held ++ laid_on_of) room few checked.counted)

        next-length : length next.rest ≤ length rest
        next-length = feed-rest first.stage first.batch rest (length free) few-next

        w : whole ≡ prefixed first.text next
        w =
            ap (λ p. feed s.stage s.batch p room) (sym parted)
            ∙ append-fits s.stage s.batch (held ++ laid_on_of) room few beyond h
            ∙ ap (λ n. prefixed first.text (feed first.stage first.batch rest n)) (sym (length-drop (length first.text) output))

        place : drop from piece ≡ rest
        place =
            ap₂ drop from_first (sym (take-append-drop count piece))
            ∙ drop-append-le (count - length first.rest) laid_on_of beyond (omega (arith, laid-length))
            ∙ ap (λ l. l ++ beyond) end
          where
            end : drop (count - length first.rest) laid_on_of ≡ first.rest
            end =
                sym (drop-append-add held laid_on_of (count - length first.rest))
                ∙ ap (λ n. drop n (held ++ laid_on_of))
                (sym (over-held (length (held ++ laid_on_of)) (length held) count (length first.rest)
                (both-length ∙ ap (λ n. n + count) (sym held-length)) few-left))
                ∙ feed-end s.stage s.batch (held ++ laid_on_of) room few

        parts : (take r.written after ≡ first.text) × (drop r.written after ≡ free)
        unfolding overwrite
        parts = (
          ap₂ take written-by after-by ∙ take_at first.text free (length first.text) refl,
          ap₂ drop written-by after-by ∙ drop_at first.text free (length first.text) refl,
        )

        kept_same : kept_of (prefixed first.text next) piece ≡ kept_of next rest
        unfolding kept_of
        kept_same = go next.full
          where
            none : length next.rest - length piece ≡ length next.rest - length rest
            none = omega (arith, next-length, rest-is, some-taken i)

            go : (t : Bool) → cond t (take (length next.rest - length piece) next.rest) next.rest
                ≡ cond t (take (length next.rest - length rest) next.rest) next.rest
            go true = ap (λ n. take n next.rest) none
            go false = refl

        abbrev kept : List ℕ
        kept = kept_of next rest

        -- The rest of the piece, worked by itself.
        following-is : unheld r.stage r.batch store' (drop from piece) (drop r.written after) ≡ shaped next
            (length rest) store' free kept
        unfolding fed_by unheld piece_by laid overwrite
        following-is =
            (λ i. unheld (told i).stage (told i).batch store' (place i) (parts.1 i))

        taken-all : from + (length rest - (length next.rest - length kept)) ≡ length piece - (length next.rest - length kept)
        taken-all =
            taken_in from (length piece) (length rest) (length next.rest - length kept) from_is
            (subst (λ n. n ≤ length piece) (sym rest-is)
            (within-piece count (length piece) (length first.rest)
            (least-left (length piece) (held_need - s.held)) few-left))
            (sub-below (length next.rest) (length kept) (length rest) next-length)

        written_all : r.written + length next.text ≡ length (first.text ++ next.text)
        written_all = ap (λ n. n + length next.text) written-by ∙ sym (length-append first.text next.text)

        output-all : take r.written after ++ overwrite next.text free ≡ overwrite (first.text ++ next.text) output
        output-all = ap (λ l. l ++ overwrite next.text free) parts.0 ∙ put-behind first.text next.text output

        goes_on : rest_of r from store' piece after ≡ piece_call s store piece output
        unfolding behind
        goes_on =
            rest-by r from store' piece after (full_by ∙ h)
            ∙ ap (λ c. behind r from c after) following-is
            ∙ (λ i. piece_with (stream_at next.stage next.batch (length kept)) (taken-all i) (written_all i)
            (overwrite kept store') (output-all i))
            ∙ sym (called ∙ ap₂ (λ f kept. shaped f (length piece) store' output kept) w (ap (λ f. kept_of f piece) w ∙ kept_same))

      pub held-taken : rest_of r from store' piece after ≡ piece_call s store piece output
      unfolding call_of overwrite feed_call fed_by
      held-taken = go first.full refl
        where
          go : (t : Bool) → first.full ≡ t → rest_of r from store' piece after ≡ piece_call s store piece output
          go true h =
              sym (rest-full r from store' piece after (full_by ∙ h)) ∙ same
              ∙ sym (called ∙ ap₂ (λ f kept. shaped f (length piece) store' output kept) w kept)
            where
              w : whole ≡ stays_before first beyond
              w =
                  ap (λ p. feed s.stage s.batch p room) (sym parted)
                  ∙ append-full s.stage s.batch (held ++ laid_on_of) room few beyond h

              kept : kept_of whole piece ≡ []
              kept = ap (λ f. kept_of f piece) w ∙ kept-none (stays_before first beyond) piece (omega (arith, rest-is, some-taken i)) refl

              all : from ≡ length piece - (length rest - 0)
              all = from_is ∙ omega arith

              same : call_of (record
                  { refusal = 0; stream = stream_at r.stage r.batch 0; taken = from; written = r.written }) store' after
                  ≡ shaped (stays_before first beyond) (length piece) store' output []
              same = λ i. piece_with (stream_at (e i).stage (e i).batch 0) (all i) (e i).written store' (e i).output
          go false h = goes_on h
