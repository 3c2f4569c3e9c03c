-- `exports::wurgalm_batch` meets its contract: the length of an output, 0 on a refusal, is at most that of the byte store.
-- Assumes nothing.
use Prim.Native.Nat.{ℕ, ◌^◌, ◌≤◌, ◌<◌}
use native.Mathlib.Nat.{lt_of_le_of_lt}
use native.Mathlib.Omega.{arith}
use mathlib.Core.Path.{◌∙◌, ap}
use mathlib.Core.List.{List}
use lib.IntN.{ℤ, pos}
use lib.ListN.{length, set}
use mir.Syntax.{w64}
use mir.Facts.{to_z_pos}
use Rattle.integers.specs.Ranges.{sfits-size}
use Rattle.batches.specs.PieceCalls.{output_of}
use Rattle.lists.specs.Overwritten.{set-overwrite}
use Rattle.exported_sheets.specs.Writes.{not_written}
use Rattle.exports.specs.Batches.{batch-missing, batch-worked, output-length}
use Rattle.exports.proofs.wurgalm_batch.Goals as goal
use Rattle.exports.proofs.wurgalm_batch.Goals.{After-output-worked, Start}

-- The batch has been worked.
module _ (c : After-output-worked) where
  abbrev start : Start
  start = (goal.at.After-output-worked c).Start

  abbrev input : List ℕ
  input = start.args.input.now

  abbrev output : List ℕ
  output = start.args.output.now

  abbrev result : List ℤ
  result = start.args.res.now

  few : c.output-worked.result.length ≤ length output
  unfolding output_of
  few = output-length input output c.output-worked.ensures

  small : length output < 2 ^ 63
  small = omega arith

pub returns-then-res-lt1 : goal.returns-then-res-lt1
unfolding not_written
returns-then-res-lt1 c =
    let args = c.args in
    batch-missing args.input.now args.output.now args.res.now c.if-res-lt1.true

pub returns : goal.returns
unfolding output_of
returns c =
    let worked = (goal.at.returns c).After-output-worked in
    let one : 1 ≤ length (result worked) = worked.if-res-lt1.false in
    let number = to_z_pos w64 (lt_of_le_of_lt (few worked) (small worked)) in
    (λ i. record {
      refusal = worked.output-worked.result.refusal;
      byte_store = worked.output-worked.new.output;
      result_store = (ap (set (result worked) 0) number ∙ set-overwrite (result worked) (pos worked.output-worked.result.length) one) i;
    })
    ∙ batch-worked (input worked) (output worked) (result worked) one worked.output-worked.ensures

pub overflow_cast-res : goal.overflow_cast-res
overflow_cast-res c =
    let worked = (goal.at.overflow_cast-res c).After-output-worked in
    sfits-size (pos c.output-worked.result.length) (few worked) (small worked)
