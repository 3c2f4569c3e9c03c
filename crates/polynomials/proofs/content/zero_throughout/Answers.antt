-- `polynomials::content::zero_throughout` meets its contract.
-- Assumes nothing.
use mathlib.Core.Path.{sym}
use Rattle.polynomials.specs.Content.{is_zero-false, nonzero-bits}
use Rattle.polynomials.proofs.content.zero_throughout.Goals as goal

pub returns-then-p-ne0 : goal.returns-then-p-ne0
returns-then-p-ne0 c = sym (is_zero-false c.args.p.now 0 (nonzero-bits c.if-p-ne0.true))
