-- `combinations::combined` meets its contract.
-- Assumes nothing.
use mathlib.Core.Path.{◌≡◌, sym, ◌∙◌, ap, subst}
use Rattle.std.proofs.Common.{Some}
use mathlib.Core.List.{List}
use Prim.Native.Nat.{◌^◌, ◌≤◌, ◌<◌}
use native.Mathlib.Nat.{le_refl}
use native.Mathlib.Omega.{arith}
use lib.Dec.{lit<}
use lib.IntN.{ℤ, pos}
use mir.Syntax.{w64}
use mir.Val.{SFits, to_z}
use mir.Facts.{to_z-of_z}
use Rattle.algebra.specs.Gcd.{content}
use Rattle.integers.specs.Ranges.{sfits-size}
use Rattle.lists.specs.Tests.{every}
use Rattle.rules.specs.Limits.{small}
use Rattle.rules.specs.Rows.{width}
use Rattle.rules.specs.Stores.{row_of}
use Rattle.rules.specs.Elimination.{limit_coefficients, consistent}
use Rattle.stores.specs.Flat.{part_count}
use Rattle.working_rows.specs.Working.{numbers_held, Full}
use Rattle.working_rows.specs.Worked.{refusal_of, Shown}
use Rattle.combinations.specs.Combination.{low_numbers}
use Rattle.combinations.specs.Primitive.{content-below}
use Rattle.combinations.specs.Undivided.{undivided_of, whole_row, Divisible, divided_row_of, combined-past, undivided-whole, all-below}
use Rattle.combinations.specs.Undivided.{wholly-full, wholly-held, wholly-divisible, new-divided, new-kept}
use Rattle.combinations.proofs.combined.Goals as goal
use Rattle.combinations.proofs.combined.Goals.{In-Some}

-- the combination, where no degree is past 15
module _ (w : In-Some) where
  abbrev numbers : List ℤ
  numbers = let a = w.args in low_numbers part_count a.g.now a.h.now (numbers_held a.target) a.pivot.now

  made : (let a = w.args in undivided_of a.g.now a.h.now (numbers_held a.target) a.pivot.now) ≡ Some w.in-Some.u
  made = sym w.in-Some.ensures

  whole : w.in-Some.u ≡ whole_row numbers
  whole = undivided-whole w.requires made

  content-fits : SFits w64 (pos (content numbers))
  content-fits =
      sfits-size (pos (content numbers)) (le_refl (content numbers))
      (content-below (2 ^ 63) numbers (lit< tt) (all-below w.requires made))

  cast_fits : SFits w64 (pos w.in-Some.u.content)
  cast_fits = subst (λ r. SFits w64 (pos r.content)) (sym whole) content-fits

  divisor : to_z w64 (content numbers) ≡ pos (content numbers)
  divisor = to_z-of_z {w = w64} content-fits

  many : 1 < w.in-Some.u.content → 1 < content numbers
  many h = omega (arith, h, ap (λ r. r.content) whole)

pub returns-in_default : goal.returns-in_default
unfolding refusal_of
returns-in_default c = let e = combined-past c.requires (sym c.in_default.ensures) in (sym (ap refusal_of e), tt)

pub overflow_cast-d : goal.overflow_cast-d
overflow_cast-d c = cast_fits (goal.at.overflow_cast-d c).In-Some

pub divided-requires : goal.divided-requires
divided-requires c =
    let w = (goal.at.divided-requires c).In-Some in
    subst (λ r. Divisible r.row (to_z w64 r.content)) (sym (whole w))
    (wholly-divisible w.requires (made w) (to_z w64 (content (numbers w))) (divisor w) (many w c.if-d-gt1.true))

pub returns-then-d-gt1 : goal.returns-then-d-gt1
returns-then-d-gt1 c =
    let w = (goal.at.returns-then-d-gt1 c).In-Some in
    let e = ap (λ r. limit_coefficients (divided_row_of r.row (to_z w64 r.content))) (whole w)
    ∙ new-divided w.requires (made w) (to_z w64 (content (numbers w))) (divisor w) (many w c.if-d-gt1.true) in
    subst (λ x. Shown c.divided.result (consistent x)) e c.divided.ensures

pub limited-requires : goal.limited-requires
limited-requires c =
    let w = (goal.at.limited-requires c).In-Some in
    let same = whole w in (
      subst (λ r. Full r.row) (sym same) (wholly-full c.requires (made w)),
      ap (λ r. r.row.width) same ∙ sym (ap (λ r. width (row_of r.row.entries)) same),
      ap (λ r. r.within) same
          ∙ sym (ap (every small) (ap (λ r. numbers_held r.row) same ∙ wholly-held c.requires (made w))),
    )

pub returns : goal.returns
returns c =
    let w = (goal.at.returns c).In-Some in
    let few : content (numbers w) ≤ 1 = omega (arith, c.if-d-gt1.false, ap (λ r. r.content) (whole w)) in
    let e = ap (λ r. limit_coefficients (row_of (numbers_held r.row))) (whole w) ∙ new-kept w.requires (made w) few in
    subst (λ x. Shown c.limited.result (consistent x)) e c.limited.ensures
