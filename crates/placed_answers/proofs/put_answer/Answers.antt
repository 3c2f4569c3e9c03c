-- `placed_answers::put_answer` meets its contract: the sheet that answers stands behind the line `0`, and then its line before it; where
-- the output is too short for that, it is as it was, and the answer is made beside it.
-- Assumes nothing.
use Prim.Native.Nat.{ℕ, ◌+◌, ◌≤◌, ◌-◌}
use native.Mathlib.Omega.{arith}
use mathlib.Core.Path.{◌≡◌, ◌∙◌, ap}
use mathlib.Core.List.{List}
use borrow.Author.Rules.{rules}
use borrow.Rule.Slice.PartMut.{put_mid, same_len_mid}
use lib.ListN.{length}
use Rattle.rules.specs.Batch.{most_bytes, answer_sheet}
use Rattle.frames.specs.PieceSizes.{text-fits}
use Rattle.frames.specs.Pieces.{text_room, refusal_line_of}
use Rattle.placed_answers.specs.Answering.{answer_put, straight-fits, straight-call, straight_none}
use Rattle.placed_answers.proofs.put_answer.Goals as goal
use Rattle.placed_answers.proofs.put_answer.Goals.{After-answer_in-answer, After-refusal_line-line, After-undecided, Start}

-- The answer has been made in the output, or refused there.
module _ (c : After-undecided) where
  abbrev made : After-answer_in-answer
  made = (goal.at.After-undecided c).After-answer_in-answer

  abbrev start : Start
  start = (goal.at.After-answer_in-answer made).Start

  abbrev output : List ℕ
  output = start.args.output.now

  abbrev stored : List ℕ
  stored = made.answer_in-answer.new.output

  same-room : length (put_mid 2 (length output - 2) output stored) ≡ length output
  same-room = same_len_mid 2 (length output - 2) output stored made.answer_in-answer.auto.output

pub put_beside-requires-then-undecided : goal.put_beside-requires-then-undecided
put_beside-requires-then-undecided c =
    let u = (goal.at.put_beside-requires-then-undecided c).After-undecided in
    let same = (made u).answer_in-answer.ensures.rows_unchanged in
    (same.0 ∙ (start u).requires.0, same.1 ∙ (start u).requires.1)

pub returns-then-undecided : goal.returns-then-undecided
returns-then-undecided c =
    let u = (goal.at.returns-then-undecided c).After-undecided in
    let one = u.undecided.ensures.1 c.if-undecided.true in
    let same = (made u).answer_in-answer.ensures.rows_unchanged in
    let sheet = (start u).args.sheet.now in record {
      output_after = c.put_beside-then-undecided.ensures.output_after
          ∙ ap (answer_put (answer_sheet sheet))
          (straight_none sheet (output u) (made u).answer_in-answer.result (stored u) (made u).answer_in-answer.ensures.output_after (λ z. omega (arith, one, z)));
      rows_unchanged = (c.put_beside-then-undecided.ensures.rows_unchanged.0 ∙ same.0, c.put_beside-then-undecided.ensures.rows_unchanged.1 ∙ same.1);
    }

-- Its line.
module _ (c : After-refusal_line-line) where
  abbrev u : After-undecided
  u = (goal.at.After-refusal_line-line c).After-undecided

  line-few : c.refusal_line-line.result.length ≤ text_room
  line-few =
      let bytes : length c.refusal_line-line.result.bytes ≡ text_room = search rules in
      text-fits c.refusal_line-line.result (refusal_line_of (made u).answer_in-answer.result.refusal) c.refusal_line-line.ensures bytes

  known : (made u).answer_in-answer.result.refusal ≡ 1 → 2 + most_bytes ≤ length (output u)
  known one = omega (arith, u.undecided.ensures.0 c.if-undecided.false one, same-room u)

  long : text_room ≤ length (output u)
  long = (made u).if-output-lt-TEXT.false

  room : c.refusal_line-line.result.length + (made u).answer_in-answer.result.length ≤ length (output u)
  room =
      straight-fits (start u).args.sheet.now (output u) (made u).answer_in-answer.result (stored u) c.refusal_line-line.result long
      (made u).answer_in-answer.ensures.output_after c.refusal_line-line.ensures line-few known

pub overflow_add-written : goal.overflow_add-written
overflow_add-written c = omega (arith, room (goal.at.overflow_add-written c).After-refusal_line-line)

pub put_text-requires : goal.put_text-requires
put_text-requires c =
    let line = (goal.at.put_text-requires c).After-refusal_line-line in
    (line-few line, omega (arith, same-room (u line), line-few line, long line))

pub returns : goal.returns
returns c =
    let line = (goal.at.returns c).After-refusal_line-line in
    let d = u line in record {
      output_after = straight-call (start d).args.sheet.now (output d) (made d).answer_in-answer.result (stored d) line.refusal_line-line.result (long line)
          (made d).answer_in-answer.ensures.output_after line.refusal_line-line.ensures (line-few line) (known line) c.put_text.new.output
          c.put_text.ensures;
      rows_unchanged = (made d).answer_in-answer.ensures.rows_unchanged;
    }
