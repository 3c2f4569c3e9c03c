-- `combinations::put_parts` meets its contract. The loop's invariant is `PartsBegun`.
-- Assumes nothing.
use mathlib.Core.Path.{◌≡◌}
use lib.ListN.{length}
use Rattle.combinations.specs.Parts.{PartsBegun}
use Rattle.combinations.proofs.put_parts.Given as goal

abbrev pub invariant-loop-e : goal.invariant-loop-e
invariant-loop-e l =
    (length l.place ≡ length l.initial.place) × PartsBegun l.g l.h l.initial.place l.pivot l.fn.before l.place l.known l.e
