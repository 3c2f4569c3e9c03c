-- `differential::terms::first_power` meets its contract. The test is that of the definition.
-- Assumes nothing.
use mathlib.Core.Path.{sym, ap}
use mathlib.Core.Bool.{cond}
use borrow.Author.Tests.{lt-ltb, le-ltb}
use Rattle.differential.specs.Grammar.{first_power_of}
use Rattle.differential.specs.Read.{term_of}
use Rattle.differential.proofs.terms.first_power.Goals as goal

pub returns-then-k-before : goal.returns-then-k-before
unfolding first_power_of term_of
returns-then-k-before c = sym (ap (λ t. cond t 0 c.args.before.power) (lt-ltb _ _ c.if-k-before.true))

pub returns-else-k-before : goal.returns-else-k-before
unfolding first_power_of term_of
returns-else-k-before c = sym (ap (λ t. cond t 0 c.args.before.power) (le-ltb _ _ c.if-k-before.false))
