-- `differential::terms::first_column` meets its contract. The tests are those of the definition.
-- Assumes nothing.
use mathlib.Core.Path.{sym, ap, ap₂, ◌∙◌}
use mathlib.Core.Bool.{◌||◌, cond}
use Prim.Native.Nat.{suc}
use lib.Dec.{ltb}
use native.Mathlib.Numerals.{add-one}
use native.Mathlib.Omega.{arith}
use borrow.Author.Tests.{lt-ltb, le-ltb}
use Rattle.differential.specs.Grammar.{first_column_of}
use Rattle.differential.specs.Read.{term_of}
use Rattle.differential.proofs.terms.first_column.Goals as goal

pub returns-then-k-before : goal.returns-then-k-before
unfolding first_column_of term_of
returns-then-k-before c =
    let a = c.args in
    sym (ap (λ t. cond (t || ltb a.before.power a.j) 1 (suc a.before.column)) (lt-ltb _ _ c.if-k-before.true))

pub returns-then-before-j : goal.returns-then-before-j
unfolding first_column_of term_of
returns-then-before-j c =
    let a = c.args in
    sym (ap₂ (λ t u. cond (t || u) 1 (suc a.before.column)) (le-ltb _ _ c.if-k-before.false) (lt-ltb _ _ c.if-before-j.true))

pub overflow_add-result : goal.overflow_add-result
unfolding term_of
overflow_add-result c = omega (arith, c.requires.column-small)

pub returns : goal.returns
unfolding first_column_of term_of
returns c =
    let a = c.args in
    add-one a.before.column
    ∙ sym (ap₂ (λ t u. cond (t || u) 1 (suc a.before.column)) (le-ltb _ _ c.if-k-before.false) (le-ltb _ _ c.if-before-j.false))
