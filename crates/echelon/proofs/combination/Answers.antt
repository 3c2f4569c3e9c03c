-- `echelon::combination` meets its contract. Each product is at most C² in size, so the sum is in the range of an i64.
-- Assumes nothing.
use lib.Dec.{lit<}
use lib.IntN.{ℤ, ◌+ℤ◌, ◌*ℤ◌}
use mir.Syntax.{w64}
use mir.Val.{SFits}
use mir.Facts.{to_z-of_z}
use Rattle.integers.specs.Ranges.{sfits-size}
use Rattle.echelon.specs.RowWork.{product-size, sum-size}
use Rattle.echelon.proofs.combination.Goals as goal
use Rattle.echelon.proofs.combination.Goals.{Start}

-- the two products and their sum
module _ (c : Start) where
  abbrev first : ℤ
  first = c.args.g *ℤ c.args.a

  abbrev second : ℤ
  second = c.args.h *ℤ c.args.b

  first_fits : SFits w64 first
  first_fits = sfits-size first (product-size c.args.g c.args.a c.requires.0 c.requires.1) (lit< tt)

  second_fits : SFits w64 second
  second_fits = sfits-size second (product-size c.args.h c.args.b c.requires.2 c.requires.3) (lit< tt)

  sum_fits : SFits w64 (first +ℤ second)
  sum_fits =
      sfits-size (first +ℤ second)
      (sum-size c.args.g c.args.a c.args.h c.args.b c.requires.0 c.requires.1 c.requires.2 c.requires.3) (lit< tt)

pub overflow_mul-result : goal.overflow_mul-result
overflow_mul-result c = simp (to_z-of_z {w = w64} c.ranges.g, to_z-of_z {w = w64} c.ranges.a) (first_fits (goal.at.overflow_mul-result c).Start)

pub overflow_mul-result-2 : goal.overflow_mul-result-2
overflow_mul-result-2 c = simp (to_z-of_z {w = w64} c.ranges.h, to_z-of_z {w = w64} c.ranges.b) (second_fits (goal.at.overflow_mul-result-2 c).Start)

pub overflow_add-result : goal.overflow_add-result
overflow_add-result c =
    simp (
      to_z-of_z {w = w64} c.ranges.g,
      to_z-of_z {w = w64} c.ranges.a,
      to_z-of_z {w = w64} c.ranges.h,
      to_z-of_z {w = w64} c.ranges.b,
      to_z-of_z {w = w64} (first_fits (goal.at.overflow_add-result c).Start),
      to_z-of_z {w = w64} (second_fits (goal.at.overflow_add-result c).Start),
    ) (sum_fits (goal.at.overflow_add-result c).Start)

pub returns : goal.returns
returns c =
    simp (
      to_z-of_z {w = w64} c.ranges.g,
      to_z-of_z {w = w64} c.ranges.a,
      to_z-of_z {w = w64} c.ranges.h,
      to_z-of_z {w = w64} c.ranges.b,
      to_z-of_z {w = w64} (first_fits (goal.at.returns c).Start),
      to_z-of_z {w = w64} (second_fits (goal.at.returns c).Start),
      to_z-of_z {w = w64} (sum_fits (goal.at.returns c).Start),
    )
