-- `combinations::both_within` meets its contract. The loop's invariant: both have only zeros past the first n coefficients exactly if the
-- joined bits are 0 and both have only zeros past the first i.
-- Assumes nothing.
use mathlib.Core.Path.{◌≡◌, sym, ◌∙◌, ap₂}
use mathlib.Core.Bool.{◌&&◌, and-true}
use native.Mathlib.Omega.{arith}
use borrow.Author.Rules.{sfits_of}
use lib.Dec.{eqb}
use lib.IntN.{pos}
use lib.ListN.{get_or, drop_of_length-le}
use mir.Syntax.{w64}
use mir.Val.{SFits}
use mir.Facts.{of_z-to_z, Fits-or, Fits-of_z}
use Rattle.algebra.specs.Polynomials.{is_zero_of}
use Rattle.combinations.specs.Combination.{both_within_of, within-next}
use Rattle.combinations.proofs.both_within.Goals as goal
use Rattle.combinations.proofs.both_within.Goals.{At-loop-i}

module _ (c : At-loop-i) where
  now-within : both_within_of c.args.n c.args.g.now c.args.h.now
      ≡ (eqb c.loop-i.joined-bits 0 && both_within_of c.loop-i.i c.args.g.now c.args.h.now)
  now-within = rw (of_z-to_z c.loop-i.auto.joined-fits) at c.loop-i.invariant

pub loop-i-preserved : goal.loop-i-preserved
loop-i-preserved c =
    let at = (goal.at.loop-i-preserved c).At-loop-i in
    let inside = c.loop-i-test.true in
    let g-fits : SFits w64 (get_or c.args.g.now c.loop-i.i (pos 0)) = sfits_of c.joined-1.given in
    let h-fits : SFits w64 (get_or c.args.h.now c.loop-i.i (pos 0)) = sfits_of c.joined-in-loop-i-1.given in
    rw (of_z-to_z (Fits-or (Fits-or c.loop-i.auto.joined-fits (Fits-of_z g-fits)) (Fits-of_z h-fits)))
    (now-within at
    ∙ within-next c.loop-i.i c.loop-i.joined-bits c.args.g.now c.args.h.now (omega (arith, c.requires, inside))
    (omega (arith, c.requires, inside)) g-fits h-fits)

pub returns : goal.returns
unfolding is_zero_of
returns c =
    let joined = eqb c.loop-i.joined-bits 0 in
    sym (now-within (goal.at.returns c).At-loop-i
    ∙ ap₂ (λ p q. joined && (is_zero_of p && is_zero_of q))
    (drop_of_length-le c.args.g.now {i = c.loop-i.i} (omega (arith, c.requires, c.loop-i-test.false)))
    (drop_of_length-le c.args.h.now {i = c.loop-i.i} (omega (arith, c.requires, c.loop-i-test.false)))
    ∙ and-true joined)
