-- `reading::terms::coefficient_at` meets its contract: a field is a number, its judgement and its separator.
-- Assumes nothing.
use Rattle.std.proofs.Common.{refl, sym, ap, ◌∙◌, drop, to_z-of_z, w64, rules, FitsSigned}
use Rattle.rules.specs.Numbers.{field}
use Rattle.rules.specs.Sheets.{always, parting}
use Rattle.tokens.specs.Fields.{fails-on, reads, reads-as, judge-err, judge-ok}
use Rattle.tokens.specs.Straight.{digit-closed, closed-refused, closed-field, closed-within}
use Rattle.reading.specs.Terms.{judge_coefficient_of, read_coefficient}
use Rattle.reading.proofs.terms.coefficient_at.Goals as goal

pub returns-in_default : goal.returns-in_default
unfolding always read_coefficient
returns-in_default c =
    reads-as c.long_coefficient_at.ensures
    (ap (λ m. field (judge_coefficient_of c.args.left) (always m) (drop c.args.at c.args.bytes.now)) c.mark_after-separator.ensures)

pub returns-in_err-judge_coefficient : goal.returns-in_err-judge_coefficient
unfolding read_coefficient
returns-in_err-judge_coefficient c =
    let d = digit-closed (sym c.digit_at.ensures ∙ c.in-Some.is) in
    let fits : FitsSigned w64 c.in-Some.d.value = search rules in
    let e = rw (to_z-of_z {w = w64} fits) at c.judge_coefficient.ensures in
    fails-on _ c.in_err-judge_coefficient.field-0.0 c.from_residual.ensures.1
    (closed-refused (judge_coefficient_of c.args.left) (always (parting c.args.last c.args.left)) d _
    (judge-err e c.in_err-judge_coefficient.was))

pub returns : goal.returns
unfolding always read_coefficient
returns c =
    let d = digit-closed (sym c.digit_at.ensures ∙ c.in-Some.is) in
    let fits : FitsSigned w64 c.in-Some.d.value = search rules in
    let e = rw (to_z-of_z {w = w64} fits) at c.judge_coefficient.ensures in
    reads refl
    (closed-field (judge_coefficient_of c.args.left) (always (parting c.args.last c.args.left)) d c.mark_after-separator.ensures
    (judge-ok e c.in_ok-judge_coefficient.was))
    (closed-within d)
