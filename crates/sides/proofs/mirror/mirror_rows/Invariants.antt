-- `sides::mirror::mirror_rows` meets its contract. The loop's invariant: the first i rows are mirrored.
-- Assumes nothing.
use Prim.Native.Nat.{◌≤◌}
use Rattle.rules.specs.Limits.{row_length}
use Rattle.sides.specs.MirrorLaws.{Changed, mirror_numbers}
use Rattle.sides.proofs.mirror.mirror_rows.Given as goal

abbrev pub invariant-loop-i : goal.invariant-loop-i
invariant-loop-i l = (l.i ≤ l.equations) × Changed row_length l.equations 0 l.i (mirror_numbers l.span) l.initial.store l.store
