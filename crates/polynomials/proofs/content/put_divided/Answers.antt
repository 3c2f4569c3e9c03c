-- `polynomials::content::put_divided` meets its contract. By 1 nothing is divided.
-- Assumes nothing.
use mathlib.Core.Path.{◌≡◌, sym, ◌∙◌, ap, ap₂, subst}
use mathlib.Core.List.{List}
use Prim.Native.Nat.{◌^◌}
use lib.IntN.{ℤ, pos, nat_abs}
use mir.Syntax.{w64}
use mir.Val.{of_z, to_z}
use mir.Facts.{sfits_lit, to_z-of_z}
use Rattle.algebra.specs.Gcd.{divide_by, divide_by-one}
use Rattle.integers.specs.Ranges.{of_z-inj}
use Rattle.polynomials.specs.Content.{Below}
use Rattle.polynomials.proofs.content.put_divided.Goals as goal
use Rattle.polynomials.proofs.content.put_divided.Goals.{Start}

-- the divisor, as the call reads it
module _ (c : Start) where
  abbrev p : List ℤ
  p = c.args.p.now

  back : to_z w64 (of_z w64 c.args.d) ≡ c.args.d
  back = to_z-of_z c.ranges.d

pub divide_in_place-requires : goal.divide_in_place-requires
divide_in_place-requires c =
    let copy = c.before.before.before in
    let start = copy.before.before in
    (subst (Below (2 ^ 63)) (sym copy.copy_from_slice.ensures.after) start.requires.2, rw (back start) start.requires.3)

pub returns-then-d-ne1 : goal.returns-then-d-ne1
returns-then-d-ne1 c =
    let copy = c.before.before.before.before.before in
    let start = copy.before.before in
    c.divide_in_place.ensures ∙ ap₂ (λ z q. divide_by (nat_abs z) q) (back start) copy.copy_from_slice.ensures.after

pub returns-else-d-ne1 : goal.returns-else-d-ne1
returns-else-d-ne1 c =
    let copy = c.before.before in
    let start = copy.before.before in
    let one : start.args.d ≡ pos 1 = of_z-inj {z = pos 1} start.ranges.d (sfits_lit tt) c.if-d-ne1.false in
    copy.copy_from_slice.ensures.after ∙ sym (divide_by-one (p start)) ∙ ap (λ z. divide_by (nat_abs z) (p start)) (sym one)
