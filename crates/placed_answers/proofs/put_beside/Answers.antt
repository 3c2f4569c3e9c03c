-- `placed_answers::put_beside` meets its contract: the answer is made in a store of the largest size, and copied with its line where
-- both fit.
-- Assumes nothing.
use Prim.Native.Nat.{ℕ, ◌+◌, ◌-◌, ◌≤◌}
use native.Mathlib.Omega.{arith}
use mathlib.Core.Path.{◌≡◌, sym, ◌∙◌, ap}
use mathlib.Core.List.{List, ◌++◌}
use borrow.Rule.Slice.PartMut.{same_len_mid}
use lib.ListN.{length, take, drop, replicate, length-replicate, length-drop}
use lib.Seq.{length-take-le, take-length}
use Rattle.lists.specs.Overwritten.{overwrite}
use Rattle.rules.specs.Batch.{most_bytes}
use Rattle.frames.specs.PieceSizes.{text-fits}
use Rattle.frames.specs.Pieces.{text_room, refusal_line_of}
use Rattle.placed_answers.specs.Answering.{made-within, beside-call, beside-unput}
use borrow.Author.Rules.{rules}
use Rattle.placed_answers.proofs.put_beside.Goals as goal
use Rattle.placed_answers.proofs.put_beside.Goals.{After-answer_in-answer, After-refusal_line-line, Start}

abbrev beside : List ℕ
beside = replicate most_bytes 0

long : most_bytes ≤ length beside
long = omega (arith, length-replicate {A = ℕ} most_bytes 0)

-- The answer has been made, and its line.
module _ (c : After-refusal_line-line) where
  abbrev start : Start
  start = (goal.at.After-refusal_line-line c).Start

  abbrev made : After-answer_in-answer
  made = (goal.at.After-refusal_line-line c).After-answer_in-answer

  line-few : c.refusal_line-line.result.length ≤ text_room
  line-few =
      let bytes : length c.refusal_line-line.result.bytes ≡ text_room = search rules in
      text-fits c.refusal_line-line.result (refusal_line_of made.answer_in-answer.result.refusal) c.refusal_line-line.ensures bytes

  within : (made.answer_in-answer.result.length ≤ length beside) × (length made.answer_in-answer.new.output ≡ length beside)
  within =
      made-within start.args.sheet.now beside made.answer_in-answer.result made.answer_in-answer.new.output
      c.refusal_line-line.result (λ _. long) made.answer_in-answer.ensures.output_after c.refusal_line-line.ensures

  -- The bytes that are copied.
  counted : length (take made.answer_in-answer.result.length made.answer_in-answer.new.output) ≡ made.answer_in-answer.result.length
  counted = length-take-le made.answer_in-answer.result.length made.answer_in-answer.new.output (omega (arith, within))

pub overflow_add-written : goal.overflow_add-written
overflow_add-written c = omega (arith, line-few c, within c, length-replicate {A = ℕ} most_bytes 0)

pub returns-then-output-written : goal.returns-then-output-written
returns-then-output-written c =
    let line = (goal.at.returns-then-output-written c).After-refusal_line-line in record {
      output_after = beside-unput (start line).args.sheet.now beside (start line).args.output.now (made line).answer_in-answer.result
          (made line).answer_in-answer.new.output line.refusal_line-line.result (λ _. long) (made line).answer_in-answer.ensures.output_after
          line.refusal_line-line.ensures (omega arith);
      rows_unchanged = search rules;
    }

pub slice_bounds-beside-end : goal.slice_bounds-beside-end
slice_bounds-beside-end c = omega (arith, within (goal.at.slice_bounds-beside-end c).After-refusal_line-line)

pub slice_bounds-copy-end : goal.slice_bounds-copy-end
slice_bounds-copy-end c = sym (counted (goal.at.slice_bounds-copy-end c).After-refusal_line-line)

pub copy-requires : goal.copy-requires
copy-requires c =
    let line = (goal.at.copy-requires c).After-refusal_line-line in
    let output = (start line).args.output.now in
    let from = line.refusal_line-line.result.length in
    rw (counted line, length-take-le (length output - from) (drop from output) (rw length-drop (omega arith))) (omega arith)

pub put_text-requires : goal.put_text-requires
put_text-requires c =
    let line = (goal.at.put_text-requires c).After-refusal_line-line in
    let output = (start line).args.output.now in
    let from = line.refusal_line-line.result.length in
    let same = same_len_mid from (length output - from) output c.copy.new.target c.copy.auto.target in
    (line-few line, omega (arith, same))

pub returns : goal.returns
returns c =
    let line = (goal.at.returns c).After-refusal_line-line in
    let output = (start line).args.output.now in
    record {
      output_after = beside-call (start line).args.sheet.now beside output (made line).answer_in-answer.result
          (made line).answer_in-answer.new.output line.refusal_line-line.result (λ _. long) (made line).answer_in-answer.ensures.output_after
          line.refusal_line-line.ensures (omega arith) c.copy.new.target c.put_text.new.output
          c.copy.ensures.target_after
          c.put_text.ensures;
      rows_unchanged = search rules;
    }
