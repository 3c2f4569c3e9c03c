-- `number_texts::put_pairs_back` meets its contract. The loop's invariant: the digits of the rest are still to be stored.
-- Assumes nothing.
use mathlib.Core.Path.{refl, ◌∙◌, ap}
use mathlib.Core.List.{◌++◌}
use Prim.Native.Nat.{◌-◌, ◌/◌, ◌%◌}
use native.Mathlib.Nat.{div-lt_self}
use native.Mathlib.Omega.{arith}
use lib.Dec.{lit<}
use lib.ListN.{length}
use lib.Seq.{sets, length-sets}
use Rattle.number_texts.specs.Texts.{digits_of}
use Rattle.number_texts.specs.DigitPairs.{pair_of, digits-some, two-more, pair-back, pair-first}
use Rattle.number_texts.proofs.put_pairs_back.Goals as goal

pub loop-rest-init : goal.loop-rest-init
loop-rest-init c = (refl, omega arith, refl, λ at front e. refl)

pub overflow_sub-i : goal.overflow_sub-i
overflow_sub-i c = omega (arith, two-more c.loop-rest.rest c.loop-rest-test.true)

pub put_pair-requires : goal.put_pair-requires
put_pair-requires c =
    (omega arith, omega (arith, two-more c.loop-rest.rest c.loop-rest-test.true))

pub loop-rest-smaller : goal.loop-rest-smaller
loop-rest-smaller c = div-lt_self {n = c.loop-rest.rest} {k = 100} (omega arith) (lit< tt)

pub loop-rest-preserved : goal.loop-rest-preserved
loop-rest-preserved c =
    let loop = c.loop-rest in
    let big = c.loop-rest-test.true in
    let more = two-more loop.rest big in (
      omega arith,
      omega arith,
      ap length c.put_pair.ensures ∙ length-sets loop.bytes (loop.i - 2) (pair_of (loop.rest % 100)) ∙ loop.invariant.2,
      λ at front e.
          ap (λ l. sets l at (front ++ digits_of (loop.rest / 100))) c.put_pair.ensures
          ∙ pair-back loop.bytes at loop.i loop.rest front big (omega arith)
          ∙ loop.invariant.3 at front e,
    )

pub overflow_sub-i-2 : goal.overflow_sub-i-2
overflow_sub-i-2 c = omega (arith, digits-some c.loop-rest.rest)

pub put_pair-requires-2 : goal.put_pair-requires-2
put_pair-requires-2 c = (omega arith, omega (arith, digits-some c.loop-rest.rest))

pub returns : goal.returns
returns c at front some e =
    let loop = c.loop-rest in
    ap (λ l. sets l at front) c.put_pair-2.ensures
    ∙ pair-first loop.bytes at loop.i loop.rest (omega arith) front some (omega arith)
    ∙ loop.invariant.3 at front e
