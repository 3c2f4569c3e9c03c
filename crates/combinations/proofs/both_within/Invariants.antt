-- `combinations::both_within` meets its contract. The loop's invariant: both have only zeros past the first n coefficients exactly if the
-- joined bits are 0 and both have only zeros past the first i.
-- Assumes nothing.
use mathlib.Core.Path.{◌≡◌}
use mathlib.Core.Bool.{◌&&◌}
use lib.Dec.{eqb}
use Rattle.combinations.specs.Combination.{both_within_of}
use mir.Val.{of_z}
use mir.Syntax.{w64}
use Rattle.combinations.proofs.both_within.Given as goal

abbrev pub invariant-loop-i : goal.invariant-loop-i
invariant-loop-i l = both_within_of l.n l.g l.h ≡ (eqb (of_z w64 l.joined) 0 && both_within_of l.i l.g l.h)
