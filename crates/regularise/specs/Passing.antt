-- What the batch program goes by when it hands a piece of its input over.
--
-- Main definitions
--   Passed ..        what one call leaves: the stream is right again, some bytes are taken, and what is written lies in the output
--
-- Main statements
--   passed           so it is of every call that has room for an answer
--   end-within       what is written at the end lies in the output
use Rattle.std.specs.Prelude.{ℕ, ◌≤◌, ◌≡◌, Bool, true, false, cond, List, ◌++◌, T, leb, take}
use Rattle.std.proofs.Common.{zero-le, sym, ◌∙◌, leb→le}
use Rattle.std.proofs.Math.Path.{ap, subst}
use Rattle.std.proofs.Math.ListN.{length}
use Rattle.batches.specs.declared.Stream.{Stream}
use Rattle.lists.specs.Overwritten.{overwrite, length-overwrite}
use Rattle.batches.specs.declared.PieceResult.{PieceResult}
use Rattle.batches.specs.declared.OutputResult.{OutputResult}
use Rattle.batches.specs.PieceCalls.{stream_check, call_of, piece_by, piece_call, OutputCall, output_of, end_text_of, put_text_of, end_call}
use Rattle.batches.specs.Moves.{counted-in}
use Rattle.batches.specs.FeedLaws.{feed-room}
use Rattle.batches.specs.PieceLaws.{check-right, call-is, piece-right, piece-taken}
use Rattle.batches.specs.Rooms.{answer_room, gets-on}

pub record Passed (piece output : List ℕ) (r : PieceResult) (store' : List ℕ) : Type 0 where
  pub right : stream_check r.stream store' ≡ 0
  pub some : 1 ≤ r.taken
  pub taken : r.taken ≤ length piece
  pub written : r.written ≤ length output

module _ (s : Stream) (store piece output : List ℕ) (right : stream_check s store ≡ 0) (room : answer_room ≤ length output)
    (some : 1 ≤ length piece) (r : PieceResult) (store' output' : List ℕ)
    (e : call_of r store' output' ≡ piece_call s store piece output) where
  fits : (piece_call s store piece output).written ≤ length output
  unfolding piece_by
  fits =
      subst (λ c. c.written ≤ length output) (sym (call-is s store piece output right))
      (feed-room s.stage s.batch (take s.held store ++ piece) (length output)
      (counted-in s.stage s.batch (check-right s store right).counted))

  pub passed : Passed piece output r store'
  unfolding call_of
  passed =
      record {
        right = ap (λ c. stream_check c.stream c.store) e ∙ piece-right s store piece output right;
        some = subst (λ c. 1 ≤ c.taken) (sym e) (gets-on s store piece output right room some);
        taken = subst (λ c. c.taken ≤ length piece) (sym e) (piece-taken s store piece output right);
        written = subst (λ c. c.written ≤ length output) (sym e) fits;
      }

pub end-within : (s : Stream) (output : List ℕ) (r : OutputResult) (after : List ℕ) → output_of r after ≡ end_call s output
    → r.length ≤ length after
unfolding output_of end_call put_text_of
end-within s output r after e = subst (λ c. c.length ≤ length c.output) (sym e) (go (leb (length text) (length output)) (leb→le _ _))
  where
    text : List ℕ
    text = end_text_of s.stage s.batch s.held

    put : OutputCall
    put = record { refusal = 0; length = length text; output = overwrite text output }

    unput : OutputCall
    unput = record { refusal = 1; length = 0; output = output }

    go : (t : Bool) → (T t → length text ≤ length output) → let c = cond t put unput in c.length ≤ length c.output
    go true h = rw (length-overwrite text output (h tt)) (h tt)
    go false h = zero-le
