-- `own_logs::run` meets its contract: a run without a refusal leaves the stores as its steps do; after a refused one all three are
-- cleared.
-- Assumes nothing.
use mathlib.Core.Path.{refl}
use native.Mathlib.Omega.{arith}
use Rattle.refusals.specs.Refusals.{number-nonzero}
use Rattle.reduction.specs.Ran.{ran-held, ran-cleared}
use Rattle.own_logs.specs.LogStores.{left-kept, left-cleared}
use Rattle.own_logs.proofs.run.Goals as goal

pub returns-in-Ok : goal.returns-in-Ok
returns-in-Ok c =
    record {
      ran = ran-held c.requires.1.long c.in-Ok.ensures.came refl;
      log_left = left-kept refl c.in-Ok.ensures.noted;
    }

pub clear-requires : goal.clear-requires
clear-requires c =
    let came = c.in-Err.ensures.came in (
      c.requires.0,
      omega (arith, c.requires.1.long, came.rows-kept.same_length),
      came.ready.listing.few,
      omega (arith, came.ready.listing.few, came.ready.listing.within.long),
    )

pub returns-in-Err : goal.returns-in-Err
returns-in-Err c =
    let refused = number-nonzero c.in-Err.stop.refusal in record {
      ran = ran-cleared c.requires.0 c.requires.1.long c.in-Err.ensures.came refused c.clear.ensures.rows_after c.clear.ensures.relations_after;
      log_left = left-cleared refused c.in-Err.ensures.noted c.clear-in-Err.ensures (omega (arith, c.in-Err.ensures.noted.kept.same_length));
    }
