-- `reading::counts::count_at` meets its contract: a field is a number, its judgement and its separator.
-- Assumes nothing.
use Rattle.std.proofs.Common.{refl, sym, ◌∙◌, pos, to_z-of_z, w64, rules, FitsSigned}
use Rattle.rules.specs.Numbers.{between}
use Rattle.rules.specs.Sheets.{after_count_of}
use Rattle.tokens.specs.Fields.{fails-on, reads, judge-err, judge-ok}
use Rattle.tokens.specs.Straight.{digit-closed, closed-refused, closed-field, closed-within}
use Rattle.reading.proofs.counts.count_at.Goals as goal

pub returns-in_default : goal.returns-in_default
returns-in_default c = rw (to_z-of_z {w = w64} c.ranges.most) at c.any_count_at.ensures

pub returns-then-after_count-ne32 : goal.returns-then-after_count-ne32
returns-then-after_count-ne32 c = rw (to_z-of_z {w = w64} c.ranges.most) at c.any_count_at-then-after_count-ne32.ensures

pub returns-in_err-judge_between : goal.returns-in_err-judge_between
returns-in_err-judge_between c =
    let d = digit-closed (sym c.digit_at.ensures ∙ c.in-Some.is) in
    let fits : FitsSigned w64 c.in-Some.d.value = search rules in
    let e = simp (to_z-of_z {w = w64} c.ranges.most, to_z-of_z {w = w64} fits) at c.judge_between.ensures in
    fails-on _ c.in_err-judge_between.field-0.0 c.from_residual.ensures.1
    (closed-refused (between (pos 0) c.args.most) after_count_of d _ (judge-err e c.in_err-judge_between.was))

pub returns : goal.returns
returns c =
    let d = digit-closed (sym c.digit_at.ensures ∙ c.in-Some.is) in
    let fits : FitsSigned w64 c.in-Some.d.value = search rules in
    let e = simp (to_z-of_z {w = w64} c.ranges.most, to_z-of_z {w = w64} fits) at c.judge_between.ensures in
    reads refl
    (closed-field (between (pos 0) c.args.most) after_count_of d
    (sym c.if-after_count-ne32.false ∙ (rw (to_z-of_z {w = w64} fits) at c.after_count.ensures))
    (judge-ok e c.in_ok-judge_between.was))
    (closed-within d)
