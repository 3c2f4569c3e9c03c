-- `number_texts::digit_count` meets its contract. The loop's invariant: the digits of the rest are still to be counted, all but one.
-- Assumes nothing.
use native.Mathlib.Nat.{div-lt_self}
use native.Mathlib.Omega.{arith}
use lib.Dec.{lit<}
use Rattle.number_texts.specs.Texts.{digits_more, digits-length}
use Rattle.number_texts.proofs.digit_count.Goals as goal

pub loop-rest-init : goal.loop-rest-init
loop-rest-init c = (omega arith, omega arith)

pub overflow_add-count : goal.overflow_add-count
overflow_add-count c = omega (arith, digits-length c.args.n (omega arith))

pub loop-rest-smaller : goal.loop-rest-smaller
loop-rest-smaller c = div-lt_self {n = c.loop-rest.rest} {k = 10} (omega arith) (lit< tt)

pub loop-rest-preserved : goal.loop-rest-preserved
loop-rest-preserved c =
    let rest = c.loop-rest.rest in
    (omega (arith, div-lt_self {n = rest} {k = 10} (omega arith) (lit< tt)), omega (arith, digits_more rest (omega arith)))

pub few_digits-requires : goal.few_digits-requires
few_digits-requires c = omega arith

pub overflow_add-result : goal.overflow_add-result
overflow_add-result c = omega (arith, digits-length c.args.n (omega arith))

pub returns : goal.returns
returns c = omega arith
