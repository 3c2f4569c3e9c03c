-- `replays::replay_on` meets its contract.
-- Assumes nothing.
use mathlib.Core.Path.{refl}
use native.Mathlib.Omega.{arith}
use Rattle.refusals.specs.Refusals.{number-nonzero}
use Rattle.replays.specs.ReplayWork.{left-held, left-cleared}
use Rattle.replays.proofs.replay_on.Goals as goal

pub work-requires : goal.work-requires
work-requires c = record { ready = c.requires.ready; m_le_column_count = c.requires.m_le_column_count }

pub returns-in-Ok : goal.returns-in-Ok
returns-in-Ok c = left-held c.requires.ready.0 c.in-Ok.ensures refl

pub clear-requires : goal.clear-requires
clear-requires c =
    let reached = c.in-Err.ensures.reached in (
      c.requires.ready.0.few-rows,
      omega (arith, c.requires.ready.0.rows-within.long, reached.rows-kept.same_length),
      reached.ready.listing.few,
      omega (arith, reached.ready.listing.few, reached.ready.listing.within.long),
    )

pub returns-in-Err : goal.returns-in-Err
returns-in-Err c =
    left-cleared c.requires.ready.0 c.in-Err.ensures (number-nonzero c.in-Err.stop.refusal) c.clear.ensures.rows_after c.clear.ensures.relations_after
