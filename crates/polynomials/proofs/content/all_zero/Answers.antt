-- `polynomials::content::all_zero` meets its contract: the loop joins the bits of the coefficients, read back from the integer they make.
-- Assumes nothing.
use mathlib.Core.Path.{◌≡◌, sym, ◌∙◌, ap}
use mathlib.Core.Bool.{◌&&◌, and-true}
use borrow.Author.Rules.{sfits_of}
use lib.Dec.{eqb}
use lib.IntN.{pos}
use lib.ListN.{get_or, drop, drop_of_length-le}
use mir.Syntax.{w64}
use mir.Val.{SFits}
use mir.Facts.{of_z-to_z, Fits-or, Fits-of_z}
use Rattle.algebra.specs.Polynomials.{is_zero_of}
use Rattle.polynomials.specs.Content.{join-next}
use Rattle.polynomials.proofs.content.all_zero.Goals as goal
use Rattle.polynomials.proofs.content.all_zero.Goals.{At-loop-a}

module _ (c : At-loop-a) where
  now-zero : is_zero_of c.args.p.now ≡ (eqb c.loop-a.joined-bits 0 && is_zero_of (drop c.loop-a.a-index c.args.p.now))
  now-zero = rw (of_z-to_z c.loop-a.auto.joined-fits) at c.loop-a.invariant

pub loop-a-preserved : goal.loop-a-preserved
loop-a-preserved c =
    let at = c.before.before in
    let coefficient : SFits w64 (get_or c.args.p.now c.loop-a.a-index (pos 0)) = sfits_of c.joined-1.given in
    rw (of_z-to_z (Fits-or c.loop-a.auto.joined-fits (Fits-of_z coefficient)))
    (now-zero at ∙ join-next c.loop-a.joined-bits c.args.p.now c.loop-a.a-index c.loop-a-test.true coefficient)

pub returns : goal.returns
unfolding is_zero_of
returns c =
    let p = c.args.p.now in
    let joined = eqb c.loop-a.joined-bits 0 in
    sym (now-zero c.before ∙ ap (λ q. joined && is_zero_of q) (drop_of_length-le p c.loop-a-test.false) ∙ and-true joined)
