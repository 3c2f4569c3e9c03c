-- `sides::report::is_beyond` meets its contract.
-- Assumes nothing.
use mir.Facts.{to_z-of_z}
use Rattle.sides.specs.FurthestRoots.{is_beyond_of}
use Rattle.sides.proofs.report.is_beyond.Goals as goal

pub returns-in-Leading : goal.returns-in-Leading
unfolding is_beyond_of
returns-in-Leading c = rw (to_z-of_z c.ranges.a, to_z-of_z c.ranges.b, c.in-Leading.is)

pub returns-in-Trailing : goal.returns-in-Trailing
unfolding is_beyond_of
returns-in-Trailing c = rw (to_z-of_z c.ranges.a, to_z-of_z c.ranges.b, c.in-Trailing.is)
