-- `exported_records::put_record` meets its contract.
-- Assumes nothing.
use mathlib.Core.Path.{◌≡◌, sym, ◌∙◌, ap}
use Rattle.lists.specs.Overwritten.{overwrite}
use Rattle.records.specs.RecordAnswers.{answer_of}
use Rattle.export_results.specs.Results.{early, kept-early, kept-late}
use Rattle.exported_records.specs.RecordNumbers.{record_numbers_of}
use Rattle.exported_records.proofs.put_record.Goals as goal
use Rattle.exported_records.proofs.put_record.Goals.{After-counted}

-- the test, as `rules` has the numbers of refusals
tested : (c : After-counted) → c.counted.result ≡ early c.args.refusal
unfolding early
tested c = c.counted.ensures

pub returns-then-counted : goal.returns-then-counted
returns-then-counted c =
    let after = (goal.at.returns-then-counted c).After-counted in
    let args = c.args in
    kept-early args.refusal (record_numbers_of (answer_of args.answer)) args.res.now (sym (tested after) ∙ c.if-counted.true)

pub returns : goal.returns
returns c =
    let args = c.args in
    c.put.ensures
    ∙ ap (λ l. overwrite l args.res.now) c.record_numbers-numbers.ensures
    ∙ kept-late args.refusal (record_numbers_of (answer_of args.answer)) args.res.now
    (sym (tested (goal.at.returns c).After-counted) ∙ c.if-counted.false)
