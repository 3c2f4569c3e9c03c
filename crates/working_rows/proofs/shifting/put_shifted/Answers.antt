-- `working_rows::shifting::put_shifted` meets its contract. The loop's invariant: the first k numbers are those of p(n + 1), and the others
-- are as they were.
-- Assumes nothing.
use mathlib.Core.Path.{◌≡◌, refl, sym, ◌∙◌, ap, ap₂}
use mathlib.Core.List.{◌++◌}
use Prim.Native.Nat.{◌+◌, ◌≤◌, ◌<◌}
use native.Mathlib.Omega.{arith}
use lib.IntN.{pos}
use lib.ListN.{length, take, drop, replicate, length-take, length-replicate, take-append-drop}
use lib.Seq.{length-take-le}
use Rattle.algebra.specs.Polynomials.{Polynomial, shift, degree, coeff, length_shift}
use Rattle.lists.specs.Tests.{every_take}
use Rattle.lists.specs.Taken.{overwritten-next, suffix-next}
use Rattle.rules.specs.Limits.{coefficient_count, small}
use Rattle.polynomials.specs.Content.{read_back, degree-below}
use Rattle.stores.specs.OverZeros.{front-over, front-all}
use Rattle.working_rows.specs.Shifting.{coeff-shift-front, shift_past}
use Rattle.working_rows.proofs.shifting.put_shifted.Goals as goal
use Rattle.working_rows.proofs.shifting.put_shifted.Goals.{After-degree-count}

-- the coefficients up to the highest that is not 0
module _ (c : After-degree-count) where
  abbrev p : Polynomial
  p = c.args.p.now

  within : degree p < length p
  within = degree-below p (omega (arith, c.requires.2))

  few : c.degree-count.result + 1 ≤ length p
  few = omega (arith, c.degree-count.ensures, within)

pub overflow_add-count : goal.overflow_add-count
overflow_add-count c = omega (arith, few c, c.requires.2)

pub slice_bounds-front-end : goal.slice_bounds-front-end
slice_bounds-front-end c = sym (length-take-le _ (p c) (few c))

pub loop-k-init : goal.loop-k-init
loop-k-init c = (
  record { within = omega arith; long = ap length c.requires.1 ∙ length-replicate coefficient_count (pos 0); front = refl },
  refl,
)

pub shifted_coefficient-requires : goal.shifted_coefficient-requires
shifted_coefficient-requires c =
    let d = c.before.before in (
      d.requires.0,
      rw length-take (omega (arith, d.requires.2)),
      every_take small (d.degree-count.result + 1) (p d) d.requires.3,
      omega (arith, few d, d.requires.2, c.loop-k-test.true),
    )

pub bounds-place-k : goal.bounds-place-k
bounds-place-k c =
    let d = c.before.before.before in
    omega (arith, c.loop-k.invariant.0.long, few d, d.requires.2, c.loop-k-test.true)

pub loop-k-preserved : goal.loop-k-preserved
unfolding coeff
loop-k-preserved c =
    let d = c.before.before.before in (
      overwritten-next c.loop-k.invariant.0 (length_shift (p d) ∙ d.requires.2) (pos 0)
          (omega (arith, c.loop-k-test.true, few d, d.requires.2))
          (read_back _ c.shifted_coefficient.type_inv ∙ c.shifted_coefficient.ensures.value
          ∙ coeff-shift-front (p d) (d.degree-count.result + 1) c.loop-k.k (few d) (omega (arith, d.degree-count.ensures))),
      suffix-next c.loop-k.place d.args.place.now c.loop-k.k _ c.loop-k.invariant.1,
    )

pub shape_of-place : goal.shape_of-place
shape_of-place c =
    c.loop-k.invariant.0.long ∙ sym (ap length c.requires.1 ∙ length-replicate coefficient_count (pos 0))

pub returns : goal.returns
returns c =
    let loop = c.loop-k in
    let d = c.before.before in
    let l = shift (p d) in
    let long = length_shift (p d) ∙ d.requires.2 in
    let n = d.degree-count.result + 1 in
    let all : loop.k ≡ n = omega (arith, c.loop-k-test.false) in
    sym (take-append-drop loop.k loop.place)
    ∙ ap₂ ◌++◌ loop.invariant.0.front loop.invariant.1
    ∙ ap (λ k. take k l ++ drop k d.args.place.now) all
    ∙ front-over l d.args.place.now n (d.requires.1 ∙ ap (λ m. replicate m (pos 0)) (sym long))
    (omega (arith, long, few d, d.requires.2))
    ∙ front-all l n (shift_past (p d) n (few d) (omega (arith, d.degree-count.ensures)))
