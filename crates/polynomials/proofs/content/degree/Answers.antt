-- `polynomials::content::degree` meets its contract.
-- Assumes nothing.
use Rattle.std.specs.Prelude.{take}
use Rattle.std.proofs.Common.{◌∙◌, rules}
use Rattle.polynomials.specs.Content.{degree-found, TopOf}
use Rattle.polynomials.proofs.content.degree.Goals as goal

pub returns : goal.returns
returns c =
    let n = c.without_fours-n in
    let top : TopOf (take n.result c.args.p.now) c.rposition.result = search rules in
    c.unwrap_or.ensures ∙ degree-found c.args.p.now n.result c.rposition.result n.ensures.0 n.ensures.1 top
