-- `stores::validity::relation_right` meets its contract. The integer n0 is tested first, then the row after it.
-- Assumes nothing.
use mathlib.Core.Path.{◌≡◌, sym, ◌∙◌, ap}
use borrow.Author.Rules.{rules}
use lib.IntN.{pos}
use lib.ListN.{take, drop, get_or}
use mir.Syntax.{w64}
use mir.Val.{SFits}
use mir.Facts.{to_z-of_z}
use Rattle.rules.specs.Limits.{relation_length, small}
use Rattle.rules.specs.Stores.{row_of, relation_of}
use Rattle.stores.specs.Validity.{row_test, relation_test, index_at, row-after}
use Rattle.lists.specs.Tests.{and_first, and_second}
use Rattle.stores.proofs.validity.relation_right.Goals as goal
use Rattle.stores.proofs.validity.relation_right.Goals.{After-within_bound}

-- the test of n0
tested : (c : After-within_bound)
    → let args = c.args in
    c.within_bound.result ≡ small (relation_of (take relation_length (drop args.at args.store.now))).index
tested c =
    let args = c.args in
    let read : SFits w64 (get_or args.store.now args.at (pos 0)) = search rules in
    c.within_bound.ensures ∙ ap small (to_z-of_z read ∙ sym (index_at args.store.now args.at))

pub returns-then-not-within_bound : goal.returns-then-not-within_bound
unfolding relation_test
returns-then-not-within_bound c = sym (c.if-not-within_bound.true) ∙ tested c.before ∙ and_first _ _ (sym (tested c.before) ∙ c.if-not-within_bound.true)

pub row_right-requires : goal.row_right-requires
row_right-requires c = c.row_at.ensures.result_len

pub returns : goal.returns
unfolding relation_test row_test
returns c =
    let start = c.before.before.before in
    let args = start.args in
    let row = ap row_of c.row_at.ensures.result_value ∙ sym (row-after args.store.now args.at) in
    c.row_right.ensures ∙ ap (row_test args.m args.span) row
    ∙ and_second _ _ (sym (tested start) ∙ c.if-not-within_bound.false)
