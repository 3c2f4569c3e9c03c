-- `reading::sides::sides_at` meets its contract. The loop's invariant: the first i sides are in the store, and the others are read from
-- `next`.
-- Assumes nothing.
use Rattle.reading.specs.Sides.{SidesTo}
use Rattle.reading.proofs.sides.sides_at.Given as goal

abbrev pub invariant-loop-i : goal.invariant-loop-i
invariant-loop-i l =
    SidesTo l.width l.from l.count l.others l.none l.initial.store l.bytes l.at l.store l.i l.next l.zero
