-- `polynomials::content::content` meets its contract.
-- Assumes nothing.
use mathlib.Core.Path.{◌∙◌}
use Rattle.algebra.specs.Gcd.{content, zero-gcd}
use Rattle.polynomials.proofs.content.content.Goals as goal

pub returns : goal.returns
returns c = c.content_with.ensures ∙ zero-gcd (content c.args.p.now)
