-- `tokens::separated` meets its contract. The tests on the way say which case of the definition holds.
-- Assumes nothing.
use Rattle.std.proofs.Common.{sym, ap, ◌∙◌, rules}
use Rattle.refusals.specs.Refusals.{refusal_in, number-nonzero}
use Rattle.rules.specs.Numbers.{fault}
use Rattle.tokens.specs.Fields.{fails, fails-on, reads, closing-refused, closing-judged, closing-wrong, closing-right}
use Rattle.tokens.proofs.separated.Goals as goal

pub returns-in_err-found : goal.returns-in_err-found
returns-in_err-found c = fails-on _ c.in_err-found.field-0.0 c.from_residual.ensures.1 (closing-refused _ _ _ _ c.in_err-found.was)

pub returns-in_err-judgement : goal.returns-in_err-judgement
returns-in_err-judgement c =
    let r = c.in_err-judgement.field-0.0 in
    let e = ap refusal_in c.in_err-judgement.was in
    fails-on _ r c.from_residual-in_err-judgement.ensures.1
    (closing-judged _ _ _ _ c.in_ok-found.was (λ z. number-nonzero r (sym e ∙ z)) ∙ ap (λ n. fault n) e)

pub returns-then-bytes-at : goal.returns-then-bytes-at
returns-then-bytes-at c = fails (closing-wrong _ _ _ _ c.in_ok-found.was (ap refusal_in c.in_ok-judgement.was) (search rules) c.if-bytes-at.true)

pub returns : goal.returns
returns c =
    reads (search rules)
    (closing-right _ _ _ _ c.in_ok-found.was (ap refusal_in c.in_ok-judgement.was) (search rules) c.if-bytes-at.false)
    (search rules)
