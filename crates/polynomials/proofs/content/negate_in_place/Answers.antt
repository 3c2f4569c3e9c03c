-- `polynomials::content::negate_in_place` meets its contract. The loop's invariant: the first i coefficients have the other sign and the
-- others are as they were.
-- Assumes nothing.
use mathlib.Core.Path.{◌≡◌, sym, ◌∙◌, ap}
use mathlib.Core.List.{List}
use Prim.Native.Nat.{ℕ}
use native.Mathlib.Omega.{arith}
use lib.IntN.{ℤ, pos, neg_ℤ}
use lib.ListN.{get_or}
use mir.Syntax.{w64}
use mir.Val.{of_z, to_z}
use Rattle.algebra.specs.Polynomials.{coeff, negate, length-negate}
use Rattle.algebra.specs.Coefficients.{coeff-negate}
use Rattle.polynomials.specs.Content.{read_back}
use Rattle.lists.specs.Taken.{overwritten-next, overwritten-all, suffix-next, suffix-first}
use Rattle.polynomials.proofs.content.negate_in_place.Goals as goal
use Rattle.polynomials.proofs.content.negate_in_place.Goals.{After-negated, After-negated-arg-1}

-- coefficient i, as the call reads it
module _ (c : After-negated-arg-1) where
  abbrev p : List ℤ
  p = c.args.p.now

  abbrev i : ℕ
  i = c.loop-a.a-index

  back : to_z w64 (of_z w64 (get_or c.loop-a.p i (pos 0))) ≡ get_or p i (pos 0)
  back =
      let now-p = c.loop-a.p in
      read_back (get_or now-p i (pos 0)) c.negated-arg-1.given ∙ suffix-first now-p p i (pos 0) c.loop-a.invariant.1

stored : (c : After-negated)
    → to_z w64 (of_z w64 c.negated.result) ≡ get_or (negate (p c.before)) (i c.before) (pos 0)
unfolding coeff
stored c =
    let e = c.before in
    read_back c.negated.result c.negated.type_inv ∙ c.negated.ensures ∙ ap neg_ℤ (back e) ∙ sym (coeff-negate (p e) (i e))

pub negated-requires : goal.negated-requires
negated-requires c = rw (back c) (c.requires.1 (i c))

pub loop-a-preserved : goal.loop-a-preserved
loop-a-preserved c =
    let e = c.before in
    let loop = e.loop-a in (
      overwritten-next loop.invariant.0 (omega (arith, length-negate (p e))) (pos 0) e.loop-a-test.true (stored c),
      suffix-next loop.p (p e) (i e) _ loop.invariant.1,
    )

pub returns : goal.returns
returns c =
    overwritten-all c.loop-a.invariant.0 (omega (arith, length-negate c.args.p.now)) (omega arith)
