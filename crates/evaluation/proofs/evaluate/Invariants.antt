-- `evaluation::evaluate` meets its contract. The invariant: what is left is a front of p, and the value is that of the coefficients behind it.
-- Assumes nothing.
use Rattle.std.specs.Prelude.{◌≡◌, ◌≤◌, nat_abs, length, drop}
use Rattle.std.proofs.Math.Option.{some}
use Rattle.evaluation.specs.Evaluated.{Front, horner, value_limit}
use Rattle.evaluation.proofs.evaluate.Given as goal

abbrev pub invariant-loop-a : goal.invariant-loop-a
invariant-loop-a l =
    let left = l.a-iterator.iter.rest.now in
    Front l.p left × (nat_abs l.value ≤ value_limit) × (horner l.n (drop (length left) l.p) ≡ some l.value)
