-- `combinations::trimmed` meets its contract.
-- Assumes nothing.
use mathlib.Core.Path.{sym, ap}
use Prim.Native.Nat.{◌+◌}
use native.Mathlib.Omega.{arith}
use lib.ListN.{take}
use lib.Seq.{length-take-le}
use Rattle.polynomials.specs.Content.{degree-below}
use Rattle.combinations.specs.Combination.{trim}
use Rattle.combinations.proofs.trimmed.Goals as goal

pub overflow_add-n : goal.overflow_add-n
overflow_add-n c =
    let p = c.args.p.now in
    omega (arith, c.degree-n.ensures, degree-below p c.requires)

pub slice_bounds-result-end : goal.slice_bounds-result-end
slice_bounds-result-end c =
    let p = c.args.p.now in
    sym (length-take-le (c.degree-n.result + 1) p
    (omega (arith, c.degree-n.ensures, degree-below p c.requires)))

pub returns : goal.returns
unfolding trim
returns c = ap (λ n. take (n + 1) c.args.p.now) c.degree-n.ensures
