-- `records::inside` meets its contract. All sums are small.
-- Assumes nothing.
use mathlib.Core.Path.{◌≡◌}
use native.Mathlib.Omega.{arith}
use lib.Dec.{lit<}
use lib.IntN.{ℤ, pos, ◌+ℤ◌}
use lib.Signed.{le_z, lt_z}
use mir.Syntax.{w64}
use mir.Val.{SFits, to_z}
use mir.Facts.{to_z-of_z, to_z_pos}
use Rattle.algebra.specs.Integers.{nat_abs-+ℤ}
use Rattle.integers.specs.Ranges.{sfits-size}
use Rattle.lists.specs.Tests.{and_second, and_first}
use Rattle.records.proofs.inside.Goals as goal
use Rattle.records.proofs.inside.Goals.{Start}

module _ (s : Start) where
  abbrev low : ℤ
  low = s.args.n +ℤ s.args.t

  abbrev high : ℤ
  high = s.args.n +ℤ s.args.l

  abbrev end : ℤ
  end = s.args.first +ℤ pos s.args.vectors

  vectors-is : to_z w64 s.args.vectors ≡ pos s.args.vectors
  vectors-is = to_z_pos w64 (omega (arith, s.requires.3))

  low_fits : SFits w64 low
  low_fits = sfits-size low {k = 300000000} (omega (arith, nat_abs-+ℤ s.args.n s.args.t, s.requires.1, s.requires.4)) (lit< tt)

  high_fits : SFits w64 high
  high_fits = sfits-size high {k = 300000000} (omega (arith, nat_abs-+ℤ s.args.n s.args.l, s.requires.0, s.requires.4)) (lit< tt)

  end_fits : SFits w64 end
  end_fits =
      sfits-size end {k = 300000000}
      (omega (arith, nat_abs-+ℤ s.args.first (pos s.args.vectors), s.requires.2, s.requires.3)) (lit< tt)

pub overflow_add-n : goal.overflow_add-n
overflow_add-n c = simp (to_z-of_z c.ranges.n, to_z-of_z c.ranges.t) (low_fits (goal.at.overflow_add-n c).Start)

pub overflow_add-result : goal.overflow_add-result
overflow_add-result c =
    let s = (goal.at.overflow_add-result c).Start in simp (to_z-of_z s.ranges.n, to_z-of_z s.ranges.l) (high_fits (goal.at.Start s).Start)

pub overflow_add-result-then-first-n : goal.overflow_add-result-then-first-n
overflow_add-result-then-first-n c =
    let s = (goal.at.overflow_add-result-then-first-n c).Start in
    simp (to_z-of_z s.ranges.first, vectors-is (goal.at.Start s).Start) (end_fits (goal.at.Start s).Start)

-- The first test, of the numbers as they are.
pub returns-then-first-n : goal.returns-then-first-n
returns-then-first-n c =
    let s = (goal.at.returns-then-first-n c).Start in
    let taken : le_z s.args.first (low (goal.at.Start s).Start) ≡ _ =
    simp (to_z-of_z s.ranges.first, to_z-of_z s.ranges.n, to_z-of_z s.ranges.t, to_z-of_z {w = w64} (low_fits s)) at c.if-first-n.true in
    simp (
      to_z-of_z s.ranges.n,
      to_z-of_z s.ranges.l,
      to_z-of_z {w = w64} (high_fits s),
      to_z-of_z s.ranges.first,
      vectors-is (goal.at.Start s).Start,
      to_z-of_z {w = w64} (end_fits s),
    )
    (and_second (le_z s.args.first (low (goal.at.Start s).Start)) (lt_z (high s) (end (goal.at.Start s).Start)) taken)

pub returns-else-first-n : goal.returns-else-first-n
returns-else-first-n c =
    let s = (goal.at.returns-else-first-n c).Start in
    let left : le_z s.args.first (low (goal.at.Start s).Start) ≡ _ =
    simp (to_z-of_z s.ranges.first, to_z-of_z s.ranges.n, to_z-of_z s.ranges.t, to_z-of_z {w = w64} (low_fits s)) at c.if-first-n.false in
    simp (to_z-of_z s.ranges.first, to_z-of_z s.ranges.n, to_z-of_z s.ranges.t, to_z-of_z {w = w64} (low_fits s))
    (and_first (le_z s.args.first (low (goal.at.Start s).Start)) (lt_z (high s) (end (goal.at.Start s).Start)) left)
