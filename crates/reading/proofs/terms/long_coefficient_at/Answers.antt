-- `reading::terms::long_coefficient_at` meets its contract: a field is a number, its judgement and its separator. What is read straight
-- is not 0, so that it is judged alike wherever it stands.
-- Assumes nothing.
use Rattle.std.proofs.Common.{refl, sym, ◌∙◌, to_z-of_z, w64, rules, FitsSigned}
use Rattle.rules.specs.Sheets.{always}
use Rattle.tokens.specs.Fields.{fails-on, reads, judge-err, judge-ok}
use Rattle.tokens.specs.Straight.{digits-closed, closed-refused, closed-field, closed-within}
use Rattle.reading.specs.Terms.{judge_coefficient_of, judge-some}
use Rattle.reading.proofs.terms.long_coefficient_at.Goals as goal

pub returns-in_default : goal.returns-in_default
unfolding always
returns-in_default c =
    c.any_field_at.ensures (judge_coefficient_of c.args.left) (always c.args.separator) (λ v fits r post. search rules)
    (λ v fits b post. search rules)

pub returns-in_err-judge_small : goal.returns-in_err-judge_small
returns-in_err-judge_small c =
    let d = digits-closed (sym c.digits_at.ensures ∙ c.in-Some.is) in
    let fits : FitsSigned w64 c.in-Some.d.value = search rules in
    let e = (rw (to_z-of_z {w = w64} fits) at c.judge_small.ensures) ∙ judge-some c.args.left _ d.1 in
    fails-on _ c.in_err-judge_small.field-0.0 c.from_residual.ensures.1
    (closed-refused (judge_coefficient_of c.args.left) (always c.args.separator) d.0 _ (judge-err e c.in_err-judge_small.was))

pub returns : goal.returns
unfolding always
returns c =
    let d = digits-closed (sym c.digits_at.ensures ∙ c.in-Some.is) in
    let fits : FitsSigned w64 c.in-Some.d.value = search rules in
    let e = (rw (to_z-of_z {w = w64} fits) at c.judge_small.ensures) ∙ judge-some c.args.left _ d.1 in
    reads refl (closed-field (judge_coefficient_of c.args.left) (always c.args.separator) d.0 refl (judge-ok e c.in_ok-judge_small.was))
    (closed-within d.0)
