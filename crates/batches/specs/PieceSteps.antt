-- How one piece of a batch is worked: with no bytes held, and with some.
--
-- Main definitions
--   refused_of n          the result of a refused call
--   unheld ..            a piece of a batch of which no bytes are held
--   untaken_of, rest_of    what a piece comes to where the bytes held and those laid behind them give no answer, and where they give some
--
-- Main statements
--   right-few                         a right stream holds fewer bytes than a line and a sheet can have
--   piece-refused                     a stream that is refused
--   none-waits, size-waits            do the held bytes wait, with no sheet to come, and by the size of a sheet?
use Rattle.std.specs.Prelude.{ℕ, zero, suc, ◌+◌, ◌-◌, ◌≤◌, ◌<◌, ◌≡◌, refl, ◌≢◌, Bool, true, false, cond, List, ◌++◌, leb, ltb, eqb, length, take, drop}
use Rattle.std.proofs.Common.{arith, sym, ◌∙◌, ap, subst, eq-eqb, ltb-true, ltb-false, ltb→lt}
use Rattle.lists.specs.Tests.{T-&&, true-T}
use Rattle.frames.specs.declared.Batch.{Batch}
use Rattle.frames.specs.declared.SheetLine.{SheetLine}
use Rattle.frames.specs.Pieces.{line_of, line-inside, accepted_in, refused_in}
use Rattle.batches.specs.declared.Stage.{Stage}
use Rattle.batches.specs.declared.Stream.{Stream}
use Rattle.batches.specs.declared.PieceResult.{PieceResult}
use Rattle.batches.specs.declared.feeding.Fed.{Fed}
use Rattle.batches.specs.Feeds.{waits, breaks, next_sheet, feed, start_of}
use Rattle.batches.specs.PieceCalls.{held_need, is_waiting, stream_right_of, stream_check, PieceCall, call_of, piece_by}
use Rattle.batches.specs.PieceCalls.{piece_refused, after_stream_check, piece_call}
use Rattle.batches.specs.Moves.{look_is, sheet-waits, sheet-whole}

abbrev pub refused_of : ℕ → PieceResult
refused_of n = record { refusal = n; stream = start_of; taken = 0; written = 0 }

abbrev pub stream_at : Stage → Batch → ℕ → Stream
stream_at stage b held = record { stage = stage; batch = b; held = held }

unfoldable pub unheld : Stage → Batch → List ℕ → List ℕ → List ℕ → PieceCall
unfolding piece_by feed
unheld stage b store piece output = piece_by (feed stage b piece (length output)) (stream_at stage b 0) store piece output

-- The next answer does not fit, or all bytes are held.
unfoldable pub untaken_of : Fed → ℕ → ℕ → ℕ → PieceResult
untaken_of f held joined count =
    cond f.full (record { refusal = 0; stream = stream_at f.stage f.batch held; taken = 0; written = 0 })
    (record { refusal = 0; stream = stream_at f.stage f.batch joined; taken = count; written = 0 })

-- What was written before stands at the front of the output.
unfoldable pub behind : Fed → ℕ → PieceCall → List ℕ → PieceCall
behind f from c output =
    record {
      refusal = 0;
      stream = c.stream;
      taken = from + c.taken;
      written = f.written + c.written;
      store =
          c.store;
      output = take f.written output ++ c.output;
    }

unfoldable pub rest_of : Fed → ℕ → List ℕ → List ℕ → List ℕ → PieceCall
unfolding behind unheld
rest_of f from store piece output =
    cond f.full
    (record { refusal = 0; stream = stream_at f.stage f.batch 0; taken = from; written = f.written; store = store; output = output })
    (behind f from (unheld f.stage f.batch store (drop from piece) (drop f.written output)) output)

-- ---- the checks

pub right-few : (s : Stream) → stream_right_of s ≡ true → s.held < held_need
unfolding stream_right_of
right-few s e =
    let all = leb (s.batch.left + accepted_in s.batch + refused_in s.batch) 1000 in
    ltb→lt s.held held_need ((T-&& all (ltb s.held held_need)).0 (true-T (stream_right_of s) e)).1

pub none-waits : (left : ℕ) (bytes : List ℕ) → left ≡ 0 → eqb (length bytes) 0 ≡ is_waiting (next_sheet left bytes)
unfolding is_waiting next_sheet
none-waits left bytes z = rw (eq-eqb left 0 z) (go (eqb (length bytes) 0))
  where
    go : (t : Bool) → t ≡ is_waiting (cond t waits breaks)
    go true = refl
    go false = refl

pub size-waits : (left : ℕ) (bytes : List ℕ) (v : SheetLine) → v ≡ line_of bytes → left ≢ 0 → v.refusal ≡ 0
    → ltb (length bytes - v.taken) v.bytes ≡ is_waiting (next_sheet left bytes)
unfolding is_waiting
size-waits left bytes v same some z = subst
    (λ v. v.refusal ≡ 0 → ltb (length bytes - v.taken) v.bytes ≡ is_waiting (next_sheet left bytes)) (sym same) read z
  where
    line : SheetLine
    line = line_of bytes

    read : line.refusal ≡ 0 → ltb (length bytes - line.taken) line.bytes ≡ is_waiting (next_sheet left bytes)
    read z = go (ltb (length bytes - line.taken) line.bytes) (ltb-true _ _) (ltb-false _ _)
      where
        go : (t : Bool) → (t ≡ true → length bytes - line.taken < line.bytes) → (t ≡ false → line.bytes ≤ length bytes - line.taken)
            → t ≡ is_waiting (next_sheet left bytes)
        go true is isn't = ap is_waiting (sym (look_is (sheet-waits some z (omega (arith, is refl, line-inside bytes)))))
        go false is isn't = ap is_waiting (sym (look_is (sheet-whole some z refl refl refl (omega (arith, isn't refl, line-inside bytes)))))

-- A stream that is refused.
pub piece-refused : (s : Stream) (store piece output : List ℕ) (n : ℕ) → n ≡ stream_check s store → n ≢ 0
    → call_of (refused_of n) store output ≡ piece_call s store piece output
unfolding call_of piece_call after_stream_check piece_refused
piece-refused s store piece output n e h = go n h ∙ ap (λ n. after_stream_check n s store piece output) e
  where
    go : (n : ℕ) → n ≢ 0 → call_of (refused_of n) store output ≡ after_stream_check n s store piece output
    go zero h = absurd (h refl)
    go (suc n) h = refl
