-- `tokens::field_at` meets its contract: a field is a number, its judgement and its separator.
-- Assumes nothing.
use Rattle.std.proofs.Common.{refl, sym, ◌∙◌, rules}
use Rattle.rules.specs.Sheets.{always}
use Rattle.tokens.specs.Fields.{fails-on, reads, judge-at, judge-err, judge-ok}
use Rattle.tokens.specs.Straight.{digit-closed, closed-refused, closed-field, closed-within}
use Rattle.tokens.proofs.field_at.Goals as goal

pub returns-in_default : goal.returns-in_default
unfolding always
returns-in_default g c = λ j judges. c.any_field_at.ensures j (always c.args.separator) judges (λ v fits b post. search rules)

pub returns-in_err-judge : goal.returns-in_err-judge
returns-in_err-judge g c = λ j judges.
    let e = judge-at judges (search rules) c.judge.result c.judge.ensures in
    let d = digit-closed (sym c.digit_at.ensures ∙ c.in-Some.is) in
    fails-on _ c.in_err-judge.field-0.0 c.from_residual.ensures.1 (closed-refused j (always c.args.separator) d _ (judge-err e c.in_err-judge.was))

pub returns : goal.returns
unfolding always
returns g c = λ j judges.
    let e = judge-at judges (search rules) c.judge.result c.judge.ensures in
    let d = digit-closed (sym c.digit_at.ensures ∙ c.in-Some.is) in
    reads refl (closed-field j (always c.args.separator) d refl (judge-ok e c.in_ok-judge.was)) (closed-within d)
