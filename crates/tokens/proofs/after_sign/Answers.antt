-- `tokens::after_sign` meets its contract. The test says which case of the definition holds.
-- Assumes nothing.
use Rattle.std.proofs.Common.{arith, eq-eqb, ne_eqb}
use Rattle.tokens.specs.Straight.{digits_from_of}
use Rattle.tokens.proofs.after_sign.Goals as goal

pub returns-then-bytes-at-eq45 : goal.returns-then-bytes-at-eq45
unfolding digits_from_of
returns-then-bytes-at-eq45 c = (rw (eq-eqb _ _ c.if-bytes-at-eq45.true), omega arith, omega arith)

pub returns-else-bytes-at-eq45 : goal.returns-else-bytes-at-eq45
unfolding digits_from_of
returns-else-bytes-at-eq45 c = (rw (ne_eqb _ _ c.if-bytes-at-eq45.false), omega arith, omega arith)
