-- `tokens::any_field_at` meets its contract: a field is a number, its judgement and its separator.
-- Assumes nothing.
use Rattle.std.proofs.Common.{rules}
use Rattle.tokens.specs.Fields.{fails-on, number-err, field-unread, answers-field, judge-at, follow-at}
use Rattle.tokens.proofs.any_field_at.Goals as goal

pub returns-in_err-n : goal.returns-in_err-n
returns-in_err-n g c = λ j follow judges follows.
    fails-on _ c.in_err-n.field-0.0 c.from_residual.ensures.1 (field-unread j follow _ (number-err c.in_err-n.ensures))

pub returns : goal.returns
returns g c = λ j follow judges follows.
    answers-field j follow c.in_ok-n.ensures
    (judge-at judges (search rules) c.judge.result c.judge.ensures)
    (follow-at follows (search rules) c.separator.result c.separator.ensures)
    c.separated.ensures
