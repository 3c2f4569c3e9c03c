-- `steps::moving::run_on` meets its contract: a run without a refusal leaves the stores as its steps do; after a refused one both are
-- cleared.
-- Assumes nothing.
use native.Mathlib.Omega.{arith}
use Rattle.rules.specs.Stores.{row_need}
use Rattle.steps.specs.Moving.{moved-held, moved-cleared, halted}
use Rattle.steps.proofs.moving.run_on.Goals as goal

pub returns-in-Ok : goal.returns-in-Ok
returns-in-Ok c = moved-held c.requires.0 c.in-Ok.is c.take_steps-moved.ensures

pub clear-requires : goal.clear-requires
unfolding row_need
clear-requires c =
    let came = halted c.requires.0 c.in-Err.is c.take_steps-moved.ensures in (
      omega (arith, c.requires.0.few-rows),
      omega (arith, c.requires.0.few-rows, c.requires.0.rows-within.long, came.rows-kept.same_length),
      came.ready.listing.few,
      omega (arith, came.ready.listing.few, came.ready.listing.within.long),
    )

pub returns-in-Err : goal.returns-in-Err
returns-in-Err c =
    moved-cleared c.requires.0 c.in-Err.is c.take_steps-moved.ensures c.clear.ensures.rows_after c.clear.ensures.relations_after
