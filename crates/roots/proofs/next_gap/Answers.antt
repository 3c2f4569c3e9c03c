-- `roots::next_gap` meets its contract.
-- Assumes nothing.
use native.Mathlib.Omega.{arith}
use Rattle.roots.specs.Factors.{gap-bounds, gap-early, gap-late}
use Rattle.roots.proofs.next_gap.Goals as goal

pub overflow_sub-result : goal.overflow_sub-result
overflow_sub-result c = omega (arith, gap-bounds c.requires)

pub returns-then-q-lt5 : goal.returns-then-q-lt5
returns-then-q-lt5 c = gap-early c.requires c.if-q-lt5.true

pub returns-else-q-lt5 : goal.returns-else-q-lt5
returns-else-q-lt5 c = gap-late c.requires c.if-q-lt5.false
