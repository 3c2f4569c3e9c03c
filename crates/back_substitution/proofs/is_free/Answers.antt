-- `back_substitution::is_free` meets its contract. The loop's invariant: the first i columns are other ones.
-- Assumes nothing.
use mathlib.Core.Path.{sym, ◌∙◌, ap}
use mathlib.Core.Bool.{not}
use borrow.Author.Rules.{rules}
use borrow.Author.Tests.{eq-eqb, ne_eqb}
use lib.Dec.{eqb}
use lib.ListN.{get_or}
use lib.Seq.{take_all}
use Rattle.lists.specs.Tests.{every, every-longer, every-false}
use Rattle.back_substitution.proofs.is_free.Goals as goal

pub loop-c-init : goal.loop-c-init
unfolding every
loop-c-init c = search rules

pub returns-then-c-column : goal.returns-then-c-column
returns-then-c-column c =
    let i = c.loop-c.c-index in
    sym (every-false (λ k. not (eqb k c.args.column)) c.args.columns.now i 0 c.loop-c-test.true
    (ap not (eq-eqb (get_or c.args.columns.now i 0) c.args.column c.if-c-column.true)))

pub loop-c-preserved : goal.loop-c-preserved
loop-c-preserved c =
    let i = c.loop-c.c-index in
    every-longer (λ k. not (eqb k c.args.column)) c.args.columns.now i 0 c.loop-c-test.true
    c.loop-c.invariant
    (ap not (ne_eqb (get_or c.args.columns.now i 0) c.args.column c.if-c-column.false))

pub returns : goal.returns
returns c =
    let columns = c.args.columns.now in
    sym (ap (every (λ k. not (eqb k c.args.column))) (sym (take_all c.loop-c.c-index columns c.loop-c-test.false))
    ∙ c.loop-c.invariant)
