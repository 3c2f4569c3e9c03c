-- `reading::terms::judge_coefficient` meets its contract. The last coefficient is judged as such.
-- Assumes nothing.
use mathlib.Core.Path.{sym, ap, ◌∙◌}
use mir.Facts.{to_z-of_z}
use Rattle.rules.specs.Numbers.{judge_small_of}
use Rattle.rules.specs.Sheets.{judge_last_of}
use Rattle.reading.specs.Terms.{judge_coefficient_of, judge-inner}
use mir.Syntax.{w64}
use Rattle.reading.proofs.terms.judge_coefficient.Goals as goal

pub returns-then-left-eq0 : goal.returns-then-left-eq0
unfolding judge_coefficient_of
returns-then-left-eq0 c =
    c.judge_last.ensures ∙ ap judge_last_of (to_z-of_z {w = w64} c.ranges.value)
    ∙ sym (ap (λ k. judge_coefficient_of k c.args.value) c.if-left-eq0.true)

pub returns : goal.returns
returns c =
    c.judge_small.ensures ∙ ap judge_small_of (to_z-of_z {w = w64} c.ranges.value) ∙ judge-inner c.args.left c.args.value c.if-left-eq0.false
