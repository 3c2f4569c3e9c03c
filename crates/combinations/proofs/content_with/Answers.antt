-- `combinations::content_with` meets its contract.
-- Assumes nothing.
use mathlib.Core.Path.{sym, ◌∙◌, ap}
use Rattle.algebra.specs.Gcd.{gcd, content, gcd-comm}
use Rattle.polynomials.specs.Content.{one-gcd}
use Rattle.combinations.proofs.content_with.Goals as goal

pub returns-then-d-eq1 : goal.returns-then-d-eq1
returns-then-d-eq1 c =
    let p = content c.args.p.now in
    sym (ap (gcd p) c.if-d-eq1.true ∙ gcd-comm p 1 ∙ one-gcd p)

pub returns : goal.returns
returns c =
    c.content_with.ensures ∙ gcd-comm c.args.d (content c.args.p.now)
