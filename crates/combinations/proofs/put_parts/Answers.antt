-- `combinations::put_parts` meets its contract. The loop's invariant is `PartsBegun`.
-- Assumes nothing.
use mathlib.Core.Path.{◌≡◌, refl, sym, ◌∙◌, ap, subst, subst₂}
use mathlib.Core.List.{List}
use Rattle.std.proofs.Common.{Option}
use native.Mathlib.Omega.{arith}
use borrow.Rule.Slice.PartMut.{put_mid, same_len_mid}
use lib.IntN.{ℤ}
use lib.ListN.{length, take, drop}
use Rattle.algebra.specs.Polynomials.{Polynomial}
use Rattle.rules.specs.Limits.{coefficient_count}
use Rattle.rules.specs.Layout.{coefficients_at_of}
use Rattle.combinations.specs.declared.Known.{Known}
use Prim.Native.Nat.{ℕ, ◌+◌, ◌*◌, ◌-◌, ◌/◌, ◌<◌}
use Rattle.combinations.specs.Parts.{sum_of, PartFits, PartMade, PartsFit, PartsMade, PartsBegun, parts-start, parts_next, parts-beyond, parts-end, part-is, part-fits}
use Rattle.combinations.proofs.put_parts.Goals as goal
use Rattle.combinations.proofs.put_parts.Goals.{At-loop-e, In-loop-e, Start}

-- polynomial e
module _ (c : In-loop-e) where
  abbrev at : At-loop-e
  at = (goal.at.In-loop-e c).At-loop-e

  abbrev start : Start
  start = (goal.at.At-loop-e at).Start

  abbrev k : ℕ
  k = at.loop-e.e * coefficient_count

  abbrev width : ℕ
  width = k + coefficient_count - k

  abbrev g : Polynomial
  g = start.args.g.now

  abbrev h : Polynomial
  h = start.args.h.now

  abbrev target : List ℤ
  target = start.args.place.now

  abbrev pivot : List ℤ
  pivot = start.args.pivot.now

  wide : width ≡ coefficient_count
  wide = omega arith

  fits : PartsFit start.args.count g h target pivot
  fits = start.requires.parts_fit

  begun : PartsBegun g h target pivot start.args.before at.loop-e.place at.loop-e.known at.loop-e.e
  begun = at.loop-e.invariant.1

  left : at.loop-e.e < length target / coefficient_count
  left = omega (arith, fits.whole, start.requires.count_le_polynomial_count.1, c.loop-e-test.true)

  -- as the code takes it
  part : take width (drop k at.loop-e.place) ≡ coefficients_at_of target at.loop-e.e
  part = ap (λ n. take n (drop k at.loop-e.place)) wide ∙ part-is fits begun left

  other : take width (drop k pivot) ≡ coefficients_at_of pivot at.loop-e.e
  other = ap (λ n. take n (drop k pivot)) wide

  next_fits : PartFits g h (take width (drop k at.loop-e.place)) (take width (drop k pivot))
  next_fits = subst₂ (PartFits g h) (sym part) (sym other) (part-fits fits begun left)

  made : {after : List ℤ} {r : Option Known}
      → PartMade (sum_of g h (take width (drop k at.loop-e.place)) (take width (drop k pivot))) at.loop-e.known
      (take width (drop k at.loop-e.place)) after r
      → PartMade (sum_of g h (coefficients_at_of target at.loop-e.e) (coefficients_at_of pivot at.loop-e.e)) at.loop-e.known
      (take width (drop k at.loop-e.place)) after r
  made {after} {r} m =
      subst₂ (λ p q. PartMade (sum_of g h p q) at.loop-e.known (take width (drop k at.loop-e.place)) after r)
      part other m

pub loop-e-init : goal.loop-e-init
loop-e-init c =
    let a = c.args in
    (refl, parts-start a.g.now a.h.now a.place.now a.pivot.now a.before)

pub put_part-requires : goal.put_part-requires
put_part-requires c = next_fits (goal.at.put_part-requires c).In-loop-e

pub returns-in_err-known : goal.returns-in_err-known
returns-in_err-known c =
    let w = (goal.at.returns-in_err-known c).In-loop-e in
    subst (PartsMade _ c.args.before _) (sym c.from_residual.ensures) (parts-beyond (fits w) (begun w) (left w) (made w c.in_err-known.ensures))

pub loop-e-preserved : goal.loop-e-preserved
loop-e-preserved c =
    let w = (goal.at.loop-e-preserved c).In-loop-e in (
      same_len_mid (k w) (width w) (at w).loop-e.place c.put_part.new.place c.put_part.auto.place ∙ (at w).loop-e.invariant.0,
      subst (λ n. PartsBegun (g w) (h w) (target w) (pivot w) (start w).args.before
          (put_mid (k w) n (at w).loop-e.place c.put_part.new.place) c.in_ok-known.known ((at w).loop-e.e + 1)) (sym (wide w))
          (parts_next (fits w) (begun w) (left w) (made w c.in_ok-known.ensures)),
    )

pub shape_of-place : goal.shape_of-place
shape_of-place c = c.loop-e.invariant.0

pub returns : goal.returns
returns c = parts-end c.requires.parts_fit c.loop-e.invariant.1 c.loop-e-test.false (omega (arith, c.requires, c.requires.parts_fit.whole))
