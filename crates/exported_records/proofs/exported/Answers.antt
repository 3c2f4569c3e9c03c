-- `exported_records::exported` meets its contract.
-- Assumes nothing.
use mathlib.Core.Path.{◌≡◌, ◌∙◌, ap}
use mathlib.Core.List.{List, []}
use Prim.Native.Nat.{ℕ}
use lib.IntN.{ℤ}
use mir.Facts.{to_z-of_z}
use Rattle.rules.specs.Stores.{Sizes}
use Rattle.stores.specs.Validity.{the_sizes_of}
use Rattle.records.specs.Records.{record_call}
use Rattle.records.specs.RecordAnswers.{answer_of}
use Rattle.export_results.specs.Results.{kept_or}
use Rattle.exported_records.specs.RecordNumbers.{record_numbers_of, record-none, record-done, record-small}
use mir.Syntax.{w64}
use Rattle.exported_records.proofs.exported.Goals as goal
use Rattle.exported_records.proofs.exported.Goals.{After-check_record-answer, After-check_record-none, Start}

-- the call
module _ (c : Start) where
  abbrev z : Sizes
  z = the_sizes_of c.args.sizes

  abbrev count : ℕ
  count = c.args.count

  abbrev first : ℤ
  first = c.args.first

  abbrev vectors : ℕ
  vectors = c.args.vectors

  abbrev rows : List ℤ
  rows = c.args.rows.now

  abbrev relations : List ℤ
  relations = c.args.relations.now

  abbrev values : List ℤ
  values = c.args.values.now

  abbrev result : List ℤ
  result = c.args.res.now

-- the answer with stores that hold nothing, and the answer
judged : (c : After-check_record-none)
    → let s = (goal.at.After-check_record-none c).Start in
    answer_of c.check_record-none.result ≡ record_call (z s) (count s) (first s) (vectors s) [] [] []
judged c = simp (to_z-of_z {w = w64} c.ranges.first) at c.check_record-none.ensures

given : (c : After-check_record-answer)
    → let s = (goal.at.After-check_record-answer c).Start in
    answer_of c.check_record-answer.result ≡ record_call (z s) (count s) (first s) (vectors s) (rows s) (relations s) (values s)
given c = simp (to_z-of_z {w = w64} c.ranges.first) at c.check_record-answer.ensures

pub returns-then-res-lt4 : goal.returns-then-res-lt4
returns-then-res-lt4 c =
    let after = (goal.at.returns-then-res-lt4 c).After-check_record-none in
    let s = (goal.at.returns-then-res-lt4 c).Start in
    ap (λ n. record { refusal = n; result_store = result s }) c.record_refusal.ensures
    ∙ record-none (z s) (count s) (first s) (vectors s) (rows s) (relations s) (values s) (result s) (judged after)
    c.if-res-lt4.true

pub put_record-requires : goal.put_record-requires
put_record-requires c =
    let a = (goal.at.put_record-requires c).After-check_record-answer in
    let s = (goal.at.After-check_record-answer a).Start in
    (a.if-res-lt4.false, record-small (z s) (count s) (first s) (vectors s) (rows s) (relations s) (values s) (given a))

pub returns : goal.returns
returns c =
    let a = (goal.at.returns c).After-check_record-answer in
    let s = (goal.at.After-check_record-answer a).Start in
    let answer = answer_of a.check_record-answer.result in
    (λ i. record { refusal = c.record_refusal-refusal.ensures i; result_store = c.put_record.new.res })
    ∙ record-done (z s) (count s) (first s) (vectors s) (rows s) (relations s) (values s) (result s) (given a)
    (c.put_record.ensures ∙ ap (λ n. kept_or n (record_numbers_of answer) (result s)) c.record_refusal-refusal.ensures) a.if-res-lt4.false
