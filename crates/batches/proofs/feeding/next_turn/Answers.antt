-- `batches::feeding::next_turn` meets its contract: the tests tell what the bytes begin with.
-- Assumes nothing.
use Prim.Native.Nat.{◌+◌, ◌≤◌}
use native.Mathlib.Omega.{arith}
use mathlib.Core.Path.{◌≡◌, refl, sym, ◌∙◌, ap, subst}
use Prim.Native.Nat.{ℕ}
use mathlib.Core.List.{List}
use lib.ListN.{length}
use Rattle.frames.specs.Pieces.{line_of, line-inside}
use Rattle.batches.specs.Moves.{look_is, no_more, left_over, line-waits, line-breaks, sheet-waits, sheet-whole}
use Rattle.batches.specs.Turns.{turn_of, stopped_of, turn-waits, turn-breaks, turn-sheet}
use Rattle.batches.proofs.feeding.next_turn.Goals as goal
use Rattle.batches.proofs.feeding.next_turn.Goals.{After-line-line, Start}

-- The line of the sheet has been read.
module _ (c : After-line-line) where
  abbrev start : Start
  start = (goal.at.After-line-line c).Start

  abbrev bytes : List ℕ
  bytes = start.args.bytes.now

  seen : c.line-line.result ≡ line_of bytes
  seen = c.line-line.ensures

  inside : c.line-line.result.taken ≤ length bytes
  inside = subst (λ v. v.taken ≤ length bytes) (sym seen) (line-inside bytes)

pub returns-then-bytes-eq0 : goal.returns-then-bytes-eq0
returns-then-bytes-eq0 c =
    let args = c.args in record {
      output_after = ap (λ r. turn_of r args.output.now) (c.stopped.ensures ∙ ap stopped_of c.nothing.ensures)
          ∙ turn-waits args.batch args.bytes.now args.output.now
          (look_is (no_more c.if-batch-eq0.true c.if-bytes-eq0.true));
      rows_unchanged = (refl, refl);
    }

pub returns-then-batch-eq0 : goal.returns-then-batch-eq0
returns-then-batch-eq0 c =
    let args = c.args in
    let breaking = c.breaking in record {
      output_after = ap (λ r. turn_of r breaking.new.output) c.stopped-then-batch-eq0.ensures
          ∙ turn-breaks args.batch args.bytes.now args.output.now
          (look_is (left_over c.if-batch-eq0.true
          c.if-bytes-eq0.false))
          breaking.result breaking.new.output breaking.ensures;
      rows_unchanged = (refl, refl);
    }

pub returns-then-line-eq4 : goal.returns-then-line-eq4
returns-then-line-eq4 c =
    let line = (goal.at.returns-then-line-eq4 c).After-line-line in
    let args = (start line).args in record {
      output_after = ap (λ r. turn_of r args.output.now)
          (c.stopped-then-line-eq4.ensures ∙ ap stopped_of c.nothing-then-line-eq4.ensures)
          ∙ turn-waits args.batch (bytes line) args.output.now
          (look_is (line-waits line.if-batch-eq0.false (rw (← seen line) c.if-line-eq4.true)));
      rows_unchanged = (refl, refl);
    }

pub returns-then-line-ne0 : goal.returns-then-line-ne0
returns-then-line-ne0 c =
    let line = (goal.at.returns-then-line-ne0 c).After-line-line in
    let args = (start line).args in
    let breaking = c.breaking-then-line-ne0 in record {
      output_after = ap (λ r. turn_of r breaking.new.output) c.stopped-then-line-ne0.ensures
          ∙ turn-breaks args.batch (bytes line) args.output.now
          (look_is (line-breaks line.if-batch-eq0.false
          (rw (← seen line) c.if-line-eq4.false)
          (rw (← seen line) c.if-line-ne0.true)))
          breaking.result breaking.new.output breaking.ensures;
      rows_unchanged = (refl, refl);
    }

pub overflow_sub-bytes : goal.overflow_sub-bytes
overflow_sub-bytes c = inside (goal.at.overflow_sub-bytes c).After-line-line

pub returns-then-bytes-from : goal.returns-then-bytes-from
returns-then-bytes-from c =
    let line = (goal.at.returns-then-bytes-from c).After-line-line in
    let args = (start line).args in record {
      output_after = ap (λ r. turn_of r args.output.now)
          (c.stopped-then-bytes-from.ensures ∙ ap stopped_of c.nothing-then-bytes-from.ensures)
          ∙ turn-waits args.batch (bytes line) args.output.now
          (look_is
          (sheet-waits line.if-batch-eq0.false (rw (← seen line) c.if-line-ne0.false)
          (rw (← seen line) (omega (arith, inside line, c.if-bytes-from.true)))));
      rows_unchanged = (refl, refl);
    }

pub sheet_turn-requires : goal.sheet_turn-requires
sheet_turn-requires c =
    let line = (goal.at.sheet_turn-requires c).After-line-line in
    (omega arith, omega (arith, inside line, c.if-bytes-from.false), (start line).requires.0, (start line).requires.1)

pub returns : goal.returns
returns c =
    let line = (goal.at.returns c).After-line-line in
    let args = (start line).args in
    record {
      output_after = c.sheet_turn.ensures.output_after
          ∙ turn-sheet args.batch (bytes line) args.output.now line.line-line.result.client line.line-line.result.taken
          (line.line-line.result.taken + line.line-line.result.bytes)
          (look_is
          (sheet-whole line.if-batch-eq0.false
          (rw (← seen line) c.if-line-ne0.false)
          (ap (λ v. v.client) (sym (seen line))) (ap (λ v. v.taken) (sym (seen line)))
          (ap (λ v. line.line-line.result.taken + v.bytes) (sym (seen line)))
          (omega (
            arith,
            inside line,
            c.if-bytes-from.false,
          ))));
      rows_unchanged = c.sheet_turn.ensures.rows_unchanged;
    }
