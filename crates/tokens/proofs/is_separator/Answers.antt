-- `tokens::is_separator` meets its contract. The two tests are those of the definition.
-- Assumes nothing.
use Rattle.std.proofs.Common.{eq-eqb, ne_eqb}
use Rattle.rules.specs.Numbers.{is_separator_of}
use Rattle.tokens.proofs.is_separator.Goals as goal

pub returns-then-b-eq32 : goal.returns-then-b-eq32
unfolding is_separator_of
returns-then-b-eq32 c = rw (eq-eqb _ _ c.if-b-eq32.true)

pub returns-else-b-eq32 : goal.returns-else-b-eq32
unfolding is_separator_of
returns-else-b-eq32 c = rw (ne_eqb _ 32 c.if-b-eq32.false)
