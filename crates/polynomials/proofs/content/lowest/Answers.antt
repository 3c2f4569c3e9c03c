-- `polynomials::content::lowest` meets its contract. The loop's invariant: the coefficients from i on have the lowest nonzero one.
-- Assumes nothing.
use mathlib.Core.Path.{refl, sym, ◌∙◌, ap}
use Prim.Native.Nat.{◌+◌}
use borrow.Author.Rules.{sfits_of}
use lib.IntN.{pos}
use lib.ListN.{get_or, drop, drop_of_length-le}
use Rattle.algebra.specs.Polynomials.{lowest}
use Rattle.polynomials.specs.Content.{read_back, zero_bits, nonzero-bits, skip-zero, lowest-first}
use Rattle.lists.specs.Taken.{drop-next}
use Rattle.polynomials.proofs.content.lowest.Goals as goal

pub returns-then-a-ne0 : goal.returns-then-a-ne0
returns-then-a-ne0 c =
    let p = c.args.p.now in
    let i = c.loop-a.a-index in
    read_back (get_or p i (pos 0)) c.result-1.given
    ∙ sym (c.loop-a.invariant ∙ ap lowest (drop-next p i (pos 0) c.loop-a-test.true)
    ∙ lowest-first _ (drop (i + 1) p) (nonzero-bits c.if-a-ne0.true))

pub loop-a-preserved : goal.loop-a-preserved
unfolding lowest
loop-a-preserved c =
    let p = c.args.p.now in
    let i = c.loop-a.a-index in
    c.loop-a.invariant
    ∙ skip-zero lowest (λ q. refl) p i c.loop-a-test.true
    (zero_bits (sfits_of c.t8-1.given) c.if-a-ne0.false)

pub returns : goal.returns
unfolding lowest
returns c = sym (c.loop-a.invariant ∙ ap lowest (drop_of_length-le c.args.p.now c.loop-a-test.false))
