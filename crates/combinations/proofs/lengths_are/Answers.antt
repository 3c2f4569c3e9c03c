-- `combinations::lengths_are` meets its contract.
-- Assumes nothing.
use mathlib.Core.Path.{sym, ◌∙◌, ap}
use mathlib.Core.Bool.{◌&&◌}
use borrow.Author.Tests.{eq-eqb, ne_eqb}
use lib.Dec.{eqb}
use lib.ListN.{length}
use Rattle.combinations.proofs.lengths_are.Goals as goal

pub returns-then-g-n : goal.returns-then-g-n
returns-then-g-n c =
    let a = c.args in sym (ap (λ t. t && eqb (length a.h.now) a.n) (eq-eqb (length a.g.now) a.n c.if-g-n.true))

pub returns-else-g-n : goal.returns-else-g-n
returns-else-g-n c =
    let a = c.args in
    let other = ne_eqb (length a.g.now) a.n c.if-g-n.false in other ∙ sym (ap (λ t. t && eqb (length a.h.now) a.n) other)
