-- `frames::put_tally` meets its contract. The loop's invariant: the lines of the clients from i on are still to be written.
-- Assumes nothing.
use Prim.Native.Nat.{◌≤◌, ◌-◌, ◌*◌}
use Rattle.rules.specs.Numbers.{lines}
use Rattle.rules.specs.Batch.{Tally, client_count, tally_lines}
use Rattle.number_texts.specs.Runs.{Going}
use Rattle.frames.specs.Lines.{pair_bytes, lines_from}
use Rattle.frames.proofs.put_tally.Given as goal

abbrev pub invariant-loop-i : goal.invariant-loop-i
invariant-loop-i l =
    let y : Tally = record { accepted = l.accepted; refused = l.refused } in
    Going l.initial.bytes 0 (lines (tally_lines y)) l.bytes l.at (lines_from y l.i) (l.i * pair_bytes)
