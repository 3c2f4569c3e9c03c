-- `tokens::is_between` meets its contract. The two tests are those of the conjunction.
-- Assumes nothing.
use Rattle.std.proofs.Common.{◌&&◌, sym, ap, ◌∙◌, to_z-of_z}
use lib.Signed.{le_z}
use Rattle.tokens.proofs.is_between.Goals as goal

pub returns-then-low-value : goal.returns-then-low-value
returns-then-low-value c =
    let f = c.ranges in
    let a = c.args in
    simp (to_z-of_z f.value, to_z-of_z f.high)
    (sym (ap (λ t. t && le_z a.value a.high) (simp (to_z-of_z f.low, to_z-of_z f.value) at c.if-low-value.true)))

pub returns-else-low-value : goal.returns-else-low-value
returns-else-low-value c =
    let f = c.ranges in
    let a = c.args in
    c.if-low-value.false ∙ sym (ap (λ t. t && le_z a.value a.high) (simp (to_z-of_z f.low, to_z-of_z f.value) at c.if-low-value.false))
