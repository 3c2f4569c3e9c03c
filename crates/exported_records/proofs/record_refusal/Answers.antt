-- `exported_records::record_refusal` meets its contract: what is found has the number 0.
use Rattle.std.specs.Prelude.{◌≡◌}
use Rattle.std.proofs.Common.{refl, sym, ap, ◌∙◌, Ok}
use Rattle.records.specs.declared.Finding.{Finding}
use Rattle.records.specs.declared.Finding.TheVariants.{Fits, Equation, Relation}
use Rattle.records.specs.RecordAnswers.{answer_of}
use Rattle.exported_records.specs.RecordNumbers.{record_refusal_of}
use Rattle.exported_records.proofs.record_refusal.Goals as goal

found : (f : Finding) → 0 ≡ record_refusal_of (answer_of (Ok f))
unfolding record_refusal_of answer_of
found (Fits k) = refl
found (Equation i n s) = refl
found (Relation i n s) = refl

pub returns-in-Ok : goal.returns-in-Ok
returns-in-Ok c = found c.in-Ok.field-0 ∙ sym (ap (λ a. record_refusal_of (answer_of a)) c.in-Ok.is)

pub returns-in-Err : goal.returns-in-Err
unfolding record_refusal_of answer_of
returns-in-Err c = c.number.ensures ∙ sym (ap (λ a. record_refusal_of (answer_of a)) c.in-Err.is)
