-- `sides::report::diagonal_at` meets its contract.
-- Assumes nothing.
use mathlib.Core.Path.{◌≡◌, ap}
use Prim.Native.Nat.{◌+◌, ◌*◌, ◌<◌}
use native.Mathlib.Omega.{arith}
use Rattle.rules.specs.Limits.{row_length, coefficient_count, block_length, block_count}
use Rattle.rules.specs.Elimination.{diagonal_place}
use Rattle.sides.specs.Lent.{side_of}
use Rattle.sides.specs.ReportLaws.{diagonal_at_of, place-below}
use Rattle.sides.proofs.report.diagonal_at.Goals as goal
use Rattle.sides.proofs.report.diagonal_at.Goals.{Joined-side, in-Leading, in-Trailing}

-- the block of the diagonal
block : (c : Joined-side) → c.match-side.block ≡ diagonal_place (side_of c.args.side) c.args.span
unfolding diagonal_place
block c = elim c.match-side.branch [ in-Leading w ↦ rw w.in-Leading.is w.block-is | in-Trailing w ↦ rw w.in-Trailing.is w.block-is ]

block-below : (c : Joined-side) → c.match-side.block < block_count
block-below c = rw (block c) (place-below (side_of c.args.side) c.args.span c.requires.2)

pub overflow_mul-result-2 : goal.overflow_mul-result-2
overflow_mul-result-2 c = omega (arith, block-below (goal.at.overflow_mul-result-2 c).Joined-side)

pub overflow_add-result : goal.overflow_add-result
overflow_add-result c = omega (arith, block-below (goal.at.overflow_add-result c).Joined-side)

pub overflow_add-result-2 : goal.overflow_add-result-2
overflow_add-result-2 c = omega (arith, block-below (goal.at.overflow_add-result-2 c).Joined-side)

pub returns : goal.returns
unfolding diagonal_at_of
returns c =
    let args = c.args in
    ap (λ b. args.j * row_length + b * block_length + args.column * coefficient_count) (block (goal.at.returns c).Joined-side)
