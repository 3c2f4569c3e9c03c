-- `echelon::divide_by_content` meets its contract. The content is at most as large as the numbers, so it fits an i64.
-- Assumes nothing.
use mathlib.Core.Path.{◌≡◌, sym, ◌∙◌, ap}
use mathlib.Core.List.{List}
use Prim.Native.Nat.{◌^◌, ◌≤◌, ◌<◌}
use native.Mathlib.Nat.{le_refl}
use native.Mathlib.Omega.{arith}
use lib.Dec.{T, lt→ltb, lit<}
use lib.IntN.{ℤ, pos, nat_abs}
use lib.Signed.{lt_z}
use mir.Syntax.{w64}
use mir.Val.{SFits, to_z}
use mir.Facts.{to_z-of_z}
use Rattle.algebra.specs.Gcd.{content, divide_by}
use Rattle.combinations.specs.Primitive.{content-below}
use Rattle.integers.specs.Ranges.{sfits-size}
use Rattle.echelon.specs.RowWork.{whole-divided, whole-kept}
use Rattle.echelon.proofs.divide_by_content.Goals as goal
use Rattle.echelon.proofs.divide_by_content.Goals.{After-content-d, Start}

-- the divisor, as a number and as an i64
module _ (c : After-content-d) where
  abbrev start : Start
  start = (goal.at.After-content-d c).Start

  abbrev row : List ℤ
  row = start.args.row.now

  fits : SFits w64 (pos c.content-d.result)
  fits =
      let below = content-below (2 ^ 63) row (lit< tt) start.requires in
      rw c.content-d.ensures (sfits-size (pos (content row)) (le_refl (content row)) below)

  divisor : to_z w64 c.content-d.result ≡ pos (content row)
  divisor = to_z-of_z {w = w64} fits ∙ ap pos c.content-d.ensures

  positive : 0 < c.content-d.result → T (lt_z (pos 0) (to_z w64 c.content-d.result))
  positive h =
      let some : 0 < content row = omega (arith, h, c.content-d.ensures) in rw divisor (lt→ltb 0 (content row) some)

pub overflow_cast-d : goal.overflow_cast-d
overflow_cast-d c = fits (goal.at.overflow_cast-d c).After-content-d

pub divide_in_place-requires : goal.divide_in_place-requires
divide_in_place-requires c =
    let here = (goal.at.divide_in_place-requires c).After-content-d in ((start here).requires, positive here (omega (arith, c.if-d-gt1.true)))

pub returns-then-d-gt1 : goal.returns-then-d-gt1
returns-then-d-gt1 c =
    let here = (goal.at.returns-then-d-gt1 c).After-content-d in
    let many : 1 < content (row here) = omega (arith, c.if-d-gt1.true, here.content-d.ensures) in
    c.divide_in_place.ensures ∙ ap (λ z. divide_by (nat_abs z) (row here)) (divisor here) ∙ sym (whole-divided (row here) many)

pub returns-else-d-gt1 : goal.returns-else-d-gt1
returns-else-d-gt1 c =
    let here = (goal.at.returns-else-d-gt1 c).After-content-d in
    let one : content (row here) ≤ 1 = omega (arith, c.if-d-gt1.false, here.content-d.ensures) in sym (whole-kept (row here) one)
