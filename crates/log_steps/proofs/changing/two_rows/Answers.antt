-- `log_steps::changing::two_rows` meets its contract.
-- Assumes nothing.
use mathlib.Core.Path.{sym, ◌∙◌, ap, refl}
use mathlib.Core.Bool.{◌&&◌, not, and-false}
use borrow.Author.Tests.{lt-ltb, le-ltb}
use lib.Dec.{ltb, eqb}
use Rattle.log_steps.proofs.changing.two_rows.Goals as goal

pub returns-then-rows-i : goal.returns-then-rows-i
returns-then-rows-i c =
    let a = c.args in sym (ap (λ t. (t && ltb a.j a.rows) && not (eqb a.i a.j)) (le-ltb _ _ c.if-rows-i.true))

pub returns-then-rows-j : goal.returns-then-rows-j
returns-then-rows-j c =
    let a = c.args in
    sym (ap (λ t. (ltb a.i a.rows && t) && not (eqb a.i a.j)) (le-ltb _ _ c.if-rows-j.true)
    ∙ ap (λ t. t && not (eqb a.i a.j)) (and-false (ltb a.i a.rows)))

pub returns : goal.returns
returns c = rw (lt-ltb _ _ c.if-rows-i.false, lt-ltb _ _ c.if-rows-j.false) refl
