-- `combinations::passes` meets its contract. The loop's invariant: the coefficients from power 16 on, below k, are zero.
-- Assumes nothing.
use mathlib.Core.Path.{sym, ◌∙◌, ap}
use mathlib.Core.Bool.{not}
use Prim.Native.Nat.{◌+◌}
use native.Mathlib.Omega.{arith}
use borrow.Author.Count.{below_more}
use borrow.Author.Rules.{sfits_of}
use Rattle.polynomials.specs.Content.{zero_bits, nonzero-bits}
use Rattle.combinations.specs.Combination.{high-free, high-found}
use Rattle.combinations.proofs.passes.Goals as goal

pub loop-k-init : goal.loop-k-init
loop-k-init c j below above = absurd (omega arith)

pub combined_coefficient-requires : goal.combined_coefficient-requires
combined_coefficient-requires c =
    record {
      g_len_bound = (c.requires.counted.0.1, c.requires.counted.0.2, c.requires.counted.1.2);
      h_len_bound = (c.requires.counted.2.1, c.requires.counted.2.2, c.requires.counted.3.2);
      k_bound = omega (arith, c.requires.most_value);
    }

pub returns-then-combined_coefficient-ne0 : goal.returns-then-combined_coefficient-ne0
returns-then-combined_coefficient-ne0 c =
    let args = c.args in
    ap not (sym (high-found args.g.now args.p.now args.h.now args.q.now c.loop-k.k (omega arith)
    (λ z. nonzero-bits c.if-combined_coefficient-ne0.true (c.combined_coefficient.ensures.value ∙ z))))

pub loop-k-preserved : goal.loop-k-preserved
loop-k-preserved c =
    let zero = zero_bits (sfits_of c.combined_coefficient.type_inv) c.if-combined_coefficient-ne0.false in
    below_more _ _ c.loop-k.invariant (λ _. sym c.combined_coefficient.ensures.value ∙ zero)

pub returns : goal.returns
returns c =
    let args = c.args in
    ap not (sym (high-free args.g.now args.p.now args.h.now args.q.now c.requires.counted c.loop-k.k
    (omega (arith, c.requires.most_value)) c.loop-k.invariant))

pub returns-else-combined_coefficient-ne0 : goal.returns-else-combined_coefficient-ne0
returns-else-combined_coefficient-ne0 c =
    let args = c.args in
    let zero = zero_bits (sfits_of c.combined_coefficient.type_inv) c.if-combined_coefficient-ne0.false in
    ap not (sym (high-free args.g.now args.p.now args.h.now args.q.now c.requires.counted (c.loop-k.k + 1)
    (omega (arith, c.requires.most_value)) (below_more _ _ c.loop-k.invariant (λ _. sym c.combined_coefficient.ensures.value ∙ zero))))
