-- `exported_sheets::reads::read_differential` meets its contract.
-- Assumes nothing.
use mathlib.Core.Path.{refl, sym, ◌∙◌, ap}
use mathlib.Core.List.{List}
use Prim.Native.Nat.{ℕ}
use native.Mathlib.Omega.{arith}
use lib.IntN.{ℤ}
use Rattle.lists.specs.Overwritten.{overwrite}
use Rattle.std.proofs.Common.{Ok, Err}
use Rattle.refusals.specs.Refusals.{number_of, number-nonzero}
use Rattle.reading.specs.WholeSheet.{result_of}
use Rattle.reading.specs.ReadCalls.{call_of}
use Rattle.export_results.specs.Results.{kept, on_acceptance-none, on_acceptance-some}
use Rattle.lists.specs.Taken.{none_before}
use Rattle.exported_sheets.specs.Reads.{read_numbers_of, read-same, with-short, with-done}
use Rattle.exported_sheets.specs.Differentials.{export_differential, differential-small}
use Rattle.differential.specs.Calls.{read_differential_call}
use Rattle.exported_sheets.proofs.reads.read_differential.Goals as goal
use Rattle.exported_sheets.proofs.reads.read_differential.Goals.{Start}

-- the stores
module _ (c : Start) where
  abbrev bytes : List ℕ
  bytes = c.args.bytes.now

  abbrev rows : List ℤ
  rows = c.args.rows.now

  abbrev relations : List ℤ
  relations = c.args.relations.now

  abbrev result : List ℤ
  result = c.args.res.now

pub returns-then-res-lt9 : goal.returns-then-res-lt9
unfolding call_of result_of kept export_differential
returns-then-res-lt9 c =
    let call = c.read_differential-judged in
    let start = (goal.at.returns-then-res-lt9 c).Start in
    (λ i. record {
      refusal = (c.number_in.ensures ∙ sym (read-same call.result) ∙ ap (λ x. x.result.refusal) call.ensures) i;
      row_store = none_before call.new.rows (rows start) call.auto.rows i;
      relation_store = none_before call.new.relations (relations start) call.auto.relations i;
      result_store = result start;
    })
    ∙ with-short (read_differential_call (bytes start)) (rows start) (relations start) (result start) c.if-res-lt9.true

pub read_numbers-numbers-requires : goal.read_numbers-numbers-requires
unfolding call_of
read_numbers-numbers-requires c = let start = (goal.at.read_numbers-numbers-requires c).Start in differential-small (bytes start) (rows start) (relations start) c.in-Ok.ensures

pub returns-in-Ok : goal.returns-in-Ok
unfolding call_of result_of export_differential
returns-in-Ok c =
    let start = (goal.at.returns-in-Ok c).Start in
    with-done (read_differential_call (bytes start)) (rows start) (relations start) (result start) c.in-Ok.ensures
    (c.put.ensures ∙ ap (λ l. overwrite l (result start)) c.read_numbers-numbers.ensures
    ∙ on_acceptance-some 0 (read_numbers_of (result_of (Ok c.in-Ok.sheet))) (result start) refl) (omega arith)

pub returns-in-Err : goal.returns-in-Err
unfolding call_of result_of export_differential
returns-in-Err c =
    let start = (goal.at.returns-in-Err c).Start in
    let call = c.read_differential in
    (λ i. record { refusal = c.number.ensures i; row_store = call.new.rows; relation_store = call.new.relations; result_store = result start })
    ∙ with-done (read_differential_call (bytes start)) (rows start) (relations start) (result start) c.in-Err.ensures
    (on_acceptance-none (number_of c.in-Err.refusal) (read_numbers_of (result_of (Err c.in-Err.refusal))) (result start)
    (number-nonzero c.in-Err.refusal)) (omega arith)
