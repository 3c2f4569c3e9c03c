-- `exported_records::record_numbers` meets its contract: a refusal has zeros.
use Rattle.std.proofs.Common.{sym, ap, ◌∙◌, subst}
use Rattle.rules.specs.Calls.{zeros}
use Rattle.records.specs.RecordAnswers.{answer_of}
use Rattle.exported_records.specs.RecordNumbers.{record_numbers_of, SmallAnswer}
use Rattle.exported_records.proofs.record_numbers.Goals as goal

pub finding_numbers-requires : goal.finding_numbers-requires
finding_numbers-requires c = subst (λ a. SmallAnswer (answer_of a)) c.in-Ok.is c.requires

pub returns-in-Ok : goal.returns-in-Ok
returns-in-Ok c = c.finding_numbers.ensures ∙ sym (ap (λ a. record_numbers_of (answer_of a)) c.in-Ok.is)

pub returns-in-Err : goal.returns-in-Err
unfolding record_numbers_of answer_of zeros
returns-in-Err c = sym (ap (λ a. record_numbers_of (answer_of a)) c.in-Err.is)
