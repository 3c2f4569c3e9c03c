-- `log_steps::combining::divides_combination` meets its contract. The loop's invariant: d divides the first e polynomials.
-- Assumes nothing.
use mathlib.Core.Path.{◌≡◌, sym, ◌∙◌, ap, refl}
use mathlib.Core.List.{List, []}
use Prim.Native.Nat.{ℕ, ◌*◌, ◌+◌, ◌-◌, ◌≤◌, ◌<◌}
use native.Mathlib.Nat.{le_of_eq}
use native.Mathlib.Omega.{arith}
use lib.IntN.{ℤ, nat_abs}
use lib.ListN.{length, get_or, length-take}
use lib.Seq.{take_all}
use mir.Syntax.{w64}
use mir.Val.{of_z, to_z}
use mir.Facts.{to_z-of_z}
use Rattle.algebra.specs.Polynomials.{Polynomial}
use Rattle.lists.specs.Tests.{every, every-false, every-longer, every-part}
use Rattle.rules.specs.Limits.{coefficient_count, small}
use Rattle.stores.specs.Flat.{part_count}
use Rattle.combinations.specs.Combination.{combinations, length-combinations}
use Rattle.log_steps.specs.Logs.{divides_all}
use Rattle.rules.specs.Rows.{coefficients_of}
use Rattle.log_steps.specs.Divisions.{combined, parts-divided, sum-at}
use Rattle.log_steps.proofs.combining.divides_combination.Goals as goal
use Rattle.log_steps.proofs.combining.divides_combination.Goals.{After-divides_sum, At-loop-e, Start}

-- one polynomial
module _ (c : After-divides_sum) where
  abbrev at : At-loop-e
  at = (goal.at.After-divides_sum c).At-loop-e

  abbrev start : Start
  start = (goal.at.At-loop-e at).Start

  abbrev d : ℤ
  d = to_z w64 (of_z w64 start.args.d)

  abbrev ps : List Polynomial
  ps = let a = start.args in combinations part_count a.g.now a.h.now a.target.now a.pivot.now

  abbrev e : ℕ
  e = at.loop-e.e

  below : e < length ps
  below = let a = start.args in
      omega (
        arith,
        length-combinations part_count a.g.now a.h.now a.target.now a.pivot.now,
        c.loop-e-test.true,
      )

  tested : divides_all (nat_abs d) (get_or ps e []) ≡ c.divides_sum.result
  tested =
      let a = start.args in
      ap (divides_all (nat_abs d))
      (sum-at a.g.now a.h.now a.target.now a.pivot.now e
      (e * coefficient_count + coefficient_count - e * coefficient_count)
      (omega (arith, c.loop-e-test.true)) (omega arith))
      ∙ sym c.divides_sum.ensures

pub loop-e-init : goal.loop-e-init
unfolding every
loop-e-init c = refl

pub divides_sum-requires : goal.divides_sum-requires
divides_sum-requires c =
    let from = c.loop-e.e * coefficient_count in
    let width = from + coefficient_count - from in record {
      d_nonzero = rw (to_z-of_z {w = w64} c.ranges.d) c.requires.d_nonzero;
      g_len_bound = (
        le_of_eq c.requires.g_len.0,
        c.requires.g_len.1,
        rw length-take (omega arith),
        every-part small from width c.args.target.now c.requires.target_len.2,
      );
      h_len_bound = (
        le_of_eq c.requires.g_len.2,
        c.requires.g_len.3,
        rw length-take (omega arith),
        every-part small from width c.args.pivot.now c.requires.target_len.3,
      );
    }

pub returns-then-not-divides_sum : goal.returns-then-not-divides_sum
returns-then-not-divides_sum c =
    let b = (goal.at.returns-then-not-divides_sum c).After-divides_sum in
    let a = (start b).args in
    sym (ap (λ x. divides_all (nat_abs x) (coefficients_of (combined a.g.now a.h.now a.target.now a.pivot.now)))
    (sym (to_z-of_z {w = w64} (start b).ranges.d))
    ∙ parts-divided a.g.now a.h.now a.target.now a.pivot.now (nat_abs (d b))
    ∙ every-false (divides_all (nat_abs (d b))) (ps b) (e b) [] (below b) (tested b ∙ c.if-not-divides_sum.true))

pub loop-e-preserved : goal.loop-e-preserved
loop-e-preserved c =
    let b = (goal.at.loop-e-preserved c).After-divides_sum in
    every-longer (divides_all (nat_abs (d b))) (ps b) (e b) [] (below b) (at b).loop-e.invariant
    (tested b ∙ c.if-not-divides_sum.false)

pub returns : goal.returns
returns c =
    let a = c.args in
    let d = nat_abs (to_z w64 (of_z w64 a.d)) in
    let ps = combinations part_count a.g.now a.h.now a.target.now a.pivot.now in
    let all : length ps ≤ c.loop-e.e =
    omega (arith, length-combinations part_count a.g.now a.h.now a.target.now a.pivot.now) in
    sym (ap (λ x. divides_all (nat_abs x) (coefficients_of (combined a.g.now a.h.now a.target.now a.pivot.now)))
    (sym (to_z-of_z {w = w64} c.ranges.d))
    ∙ parts-divided a.g.now a.h.now a.target.now a.pivot.now d
    ∙ ap (every (divides_all d)) (sym (take_all c.loop-e.e ps all)) ∙ c.loop-e.invariant)
