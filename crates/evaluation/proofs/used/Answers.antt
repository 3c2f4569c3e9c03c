-- `evaluation::used` meets its contract. The invariant: how far the coefficients before i that are not 0 reach.
-- Assumes nothing.
use mathlib.Core.Path.{subst, sym}
use Prim.Native.Nat.{ℕ, ◌+◌}
use borrow.Author.Rules.{rules}
use lib.IntN.{pos}
use lib.ListN.{get_or}
use mir.Syntax.{w64}
use mir.Val.{SFits}
use Rattle.algebra.specs.Polynomials.{Polynomial, coeff}
use Rattle.polynomials.specs.Content.{zero_bits, nonzero-bits}
use Rattle.evaluation.specs.Evaluated.{Reaches, reach-none, reach-same, reach-next, reach-used}
use Rattle.evaluation.proofs.used.Goals as goal
use Rattle.evaluation.proofs.used.Goals.{At-loop-i, Joined-a-ne0, else-a-ne0, then-a-ne0}

pub loop-i-init : goal.loop-i-init
loop-i-init c = reach-none c.args.p.now

-- Coefficient i was looked at.
module _ (c : Joined-a-ne0) where
  abbrev head : At-loop-i
  head = c.before.before.before

  abbrev p : Polynomial
  p = head.args.p.now

  abbrev i : ℕ
  i = head.loop-i.i

  reaches : Reaches p (i + 1) c.if-a-ne0.reached
  unfolding coeff
  reaches =
      let read : SFits w64 (get_or p i (pos 0)) = search rules in
      elim c.if-a-ne0.branch [
        | then-a-ne0 t ↦ subst (Reaches p (i + 1)) (sym t.reached-is) (reach-next p i (nonzero-bits t.if-a-ne0.true))
        | else-a-ne0 t ↦ subst (Reaches p (i + 1)) (sym t.reached-is)
            (reach-same p i head.loop-i.reached head.loop-i.invariant (zero_bits read t.if-a-ne0.false))
      ]

pub loop-i-preserved : goal.loop-i-preserved
loop-i-preserved c = reaches c

pub returns : goal.returns
returns c =
    reach-used c.args.p.now c.loop-i.i c.loop-i.reached c.loop-i-test.false c.loop-i.invariant
