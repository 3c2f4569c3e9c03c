-- `stores::validity::numbers_right` meets its contract. The rows are tested first, then the relations, then the places past them.
-- Assumes nothing.
use mathlib.Core.Path.{sym, ◌∙◌, ap}
use borrow.Author.Rules.{rules}
use Rattle.algebra.specs.Polynomials.{is_zero_of}
use Rattle.rules.specs.Stores.{numbers_right_of, equations}
use Rattle.stores.specs.Validity.{the_sizes_of, unused-part}
use Rattle.lists.specs.Tests.{first-failed, second-failed, both-passed}
use Rattle.stores.proofs.validity.numbers_right.Goals as goal

pub rows_right-requires : goal.rows_right-requires
unfolding equations the_sizes_of
rows_right-requires c = search rules

pub returns-then-not-rows_right : goal.returns-then-not-rows_right
unfolding numbers_right_of equations the_sizes_of
returns-then-not-rows_right c =
    let failed = sym c.rows_right.ensures ∙ c.if-not-rows_right.true in
    first-failed _ _ _ failed

pub returns-then-not-relations_right : goal.returns-then-not-relations_right
unfolding numbers_right_of equations the_sizes_of
returns-then-not-relations_right c =
    let rows-passed = sym c.rows_right.ensures ∙ c.if-not-rows_right.false in
    let failed = sym c.relations_right.ensures ∙ c.if-not-relations_right.true in
    second-failed _ _ _ rows-passed failed

pub returns : goal.returns
unfolding numbers_right_of equations the_sizes_of
returns c =
    let args = c.args in
    let rows-passed = sym c.rows_right.ensures ∙ c.if-not-rows_right.false in
    let relations-passed = sym c.relations_right.ensures ∙ c.if-not-relations_right.false in
    c.unused_zero.ensures ∙ ap is_zero_of (unused-part args.count args.relations.now c.requires.count_bound.0)
    ∙ both-passed _ _ _ rows-passed relations-passed
