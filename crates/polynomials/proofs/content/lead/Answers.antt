-- `polynomials::content::lead` meets its contract. The highest nonzero coefficient stands at the degree; without coefficients it is 0.
-- Assumes nothing.
use mathlib.Core.Path.{sym, ◌∙◌, ap}
use Rattle.algebra.specs.Polynomials.{coeff}
use Rattle.algebra.specs.Coefficients.{coeff-degree, coeff-past-length}
use Rattle.polynomials.specs.Content.{read_back}
use Rattle.polynomials.proofs.content.lead.Goals as goal

pub returns-then-d-p : goal.returns-then-d-p
unfolding coeff
returns-then-d-p c =
    let p = c.args.p.now in
    let d = c.degree-d in
    read_back (coeff p d.result) c.result-1.given ∙ ap (coeff p) d.ensures ∙ coeff-degree p

pub returns-else-d-p : goal.returns-else-d-p
returns-else-d-p c =
    let p = c.args.p.now in
    sym (coeff-past-length p c.degree-d.result c.if-d-p.false) ∙ ap (coeff p) c.degree-d.ensures ∙ coeff-degree p
