-- `number_texts::put_numbers` meets its contract. The loop's invariant: the numbers from an index on are still to be written.
-- Assumes nothing.
use Prim.Native.Nat.{◌*◌}
use lib.ListN.{drop}
use Rattle.number_texts.specs.TextBytes.{number_bytes}
use Rattle.number_texts.specs.Runs.{Going}
use Rattle.number_texts.specs.Texts.{spaced}
use Rattle.number_texts.proofs.put_numbers.Given as goal

abbrev pub invariant-loop-a : goal.invariant-loop-a
invariant-loop-a l =
    Going l.initial.bytes l.at (spaced l.numbers) l.bytes l.next (spaced (drop l.a-index l.numbers)) (number_bytes * l.a-index)
