-- `polynomials::content::is_zero` meets its contract.
-- Assumes nothing.
use Rattle.std.proofs.Common.{rules}
use Rattle.polynomials.specs.Content.{is_zero-tested}
use Rattle.polynomials.proofs.content.is_zero.Goals as goal

pub returns : goal.returns
returns c = is_zero-tested c.all.result c.args.p.now (search rules)
