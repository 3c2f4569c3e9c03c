-- `tokens::starts_right` meets its contract. The tests on the way say which case of the definition holds.
-- Assumes nothing.
use Rattle.std.proofs.Common.{◌+◌, ◌&&◌, eqb, sym, ap, ◌∙◌, arith}
use Rattle.tokens.specs.Tokens.{starts-empty, starts-nonzero, starts-zero}
use Rattle.tokens.proofs.starts_right.Goals as goal

pub returns-then-from-end : goal.returns-then-from-end
returns-then-from-end c = sym (starts-empty _ _ _ _ c.if-from-end.true)

pub bounds-bytes-from : goal.bounds-bytes-from
bounds-bytes-from c = omega arith

pub returns-then-bytes-from-ne48 : goal.returns-then-bytes-from-ne48
returns-then-bytes-from-ne48 c =
    sym (starts-nonzero _ c.args.from c.args.end _ (omega arith) c.requires.1 c.if-bytes-from-ne48.true)

pub overflow_add-result : goal.overflow_add-result
overflow_add-result c = omega arith

pub returns-then-not-signed : goal.returns-then-not-signed
returns-then-not-signed c =
    sym
    (starts-zero _ c.args.from c.args.end _ (omega arith) c.requires.1 c.if-bytes-from-ne48.false
    ∙ ap (λ t. t && eqb (c.args.from + 1) c.args.end) c.if-not-signed.true-raw)

pub returns-else-not-signed : goal.returns-else-not-signed
returns-else-not-signed c =
    sym
    (starts-zero _ c.args.from c.args.end _ (omega arith) c.requires.1 c.if-bytes-from-ne48.false
    ∙ ap (λ t. t && eqb (c.args.from + 1) c.args.end) c.if-not-signed.false-raw
    ∙ sym c.if-not-signed.false-raw)
