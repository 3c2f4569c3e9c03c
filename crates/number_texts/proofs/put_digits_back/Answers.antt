-- `number_texts::put_digits_back` meets its contract. The loop's invariant: the digits of the rest are still to be stored.
-- Assumes nothing.
use mathlib.Core.Path.{◌≡◌, refl, sym, ◌∙◌, ap}
use Prim.Native.Nat.{◌+◌, ◌-◌, ◌/◌, ◌%◌}
use native.Mathlib.Nat.{div-lt_self}
use native.Mathlib.Omega.{arith}
use lib.Dec.{lit<}
use lib.ListN.{length, set}
use lib.Seq.{sets}
use Rattle.number_texts.specs.Runs.{put-length}
use Rattle.number_texts.specs.Texts.{digits_of, digits-one, digits_more, digits-back}
use Rattle.number_texts.proofs.put_digits_back.Goals as goal

pub loop-rest-init : goal.loop-rest-init
loop-rest-init c = (omega arith, omega arith, refl, refl)

pub overflow_sub-i : goal.overflow_sub-i
overflow_sub-i c = omega (arith, digits_more c.loop-rest.rest c.loop-rest-test.true)

pub loop-rest-smaller : goal.loop-rest-smaller
loop-rest-smaller c = div-lt_self {n = c.loop-rest.rest} {k = 10} (omega arith) (lit< tt)

pub loop-rest-preserved : goal.loop-rest-preserved
loop-rest-preserved c =
    let at = c.args.at in
    let loop = c.loop-rest in
    let big = c.loop-rest-test.true in
    let more = digits_more loop.rest big in
    let place : loop.i - 1 ≡ at + length (digits_of (loop.rest / 10)) = omega arith in (
      omega arith,
      place,
      ap (λ l. sets l at (digits_of (loop.rest / 10))) (c.put_byte.ensures.stored ∙ ap (λ i. set loop.bytes i (48 + loop.rest % 10)) place)
          ∙ digits-back loop.bytes at loop.rest big
          ∙ loop.invariant.2,
      put-length c.put_byte.ensures ∙ loop.invariant.3,
    )

pub put_byte-requires-2 : goal.put_byte-requires-2
put_byte-requires-2 c = omega (arith, ap length (digits-one c.loop-rest.rest (omega arith)))

pub returns : goal.returns
returns c =
    let at = c.args.at in
    let loop = c.loop-rest in
    c.put_byte-2.ensures.stored ∙ sym (ap (sets loop.bytes at) (digits-one loop.rest (omega arith)))
    ∙ loop.invariant.2
