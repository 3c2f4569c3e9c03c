-- `polynomials::content::without_fours` meets its contract. The loop's invariant: the coefficients from n on are zero.
-- Assumes nothing.
use mathlib.Core.Path.{sym, ◌∙◌, subst}
use Prim.Native.Nat.{◌-◌}
use native.Mathlib.Nat.{le_refl}
use native.Mathlib.Omega.{arith}
use borrow.Author.Tests.{not-false}
use lib.Dec.{T}
use lib.ListN.{length, drop_of_length-le}
use Rattle.algebra.specs.Polynomials.{is_zero_of}
use Rattle.polynomials.specs.Content.{zeros-part}
use Rattle.polynomials.proofs.content.without_fours.Goals as goal

pub loop-n-init : goal.loop-n-init
unfolding is_zero_of
loop-n-init c =
    let p = c.args.p.now in
    (omega arith, subst (λ q. T (is_zero_of q)) (sym (drop_of_length-le p (le_refl (length p)))) tt)

pub returns-then-not-all_zero : goal.returns-then-not-all_zero
returns-then-not-all_zero c = c.loop-n.invariant

pub loop-n-preserved : goal.loop-n-preserved
loop-n-preserved c =
    let at = c.before.before.before.before in
    let p = at.args.p.now in
    let zeros = subst T (sym (sym c.all_zero.ensures ∙ not-false _ c.if-not-all_zero.false-raw)) tt in
    (omega (arith, at.loop-n.invariant.0), zeros-part p (at.loop-n.n - 4) at.loop-n.n (omega arith) zeros at.loop-n.invariant.1)

pub returns : goal.returns
returns c = c.loop-n.invariant
