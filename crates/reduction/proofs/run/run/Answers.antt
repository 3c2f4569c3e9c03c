-- `reduction::run::run` meets its contract: a run without a refusal leaves the stores as its steps do; after a refused one both
-- are cleared.
-- Assumes nothing.
use mathlib.Core.Path.{refl}
use native.Mathlib.Omega.{arith}
use Rattle.refusals.specs.Refusals.{number-nonzero}
use Rattle.reduction.specs.Ran.{ran-held, ran-cleared}
use Rattle.reduction.proofs.run.run.Goals as goal

pub returns-in-Ok : goal.returns-in-Ok
returns-in-Ok c =
    let ran = ran-held c.requires.equations_le_most_equations.1.long c.in-Ok.ensures refl in
    record {
      value = ran.answer;
      rows_after = ran.rows-after;
      relations_after = ran.relations-after;
      reached = ran.reached;
    }

pub clear-requires : goal.clear-requires
clear-requires c =
    let needs = c.requires.equations_le_most_equations in
    let came = c.in-Err.ensures in (
      needs.0,
      omega (arith, needs.1.long, came.rows-kept.same_length),
      came.ready.listing.few,
      omega (arith, came.ready.listing.few, came.ready.listing.within.long),
    )

pub returns-in-Err : goal.returns-in-Err
returns-in-Err c =
    let needs = c.requires.equations_le_most_equations in
    let ran = ran-cleared needs.0 needs.1.long c.in-Err.ensures (number-nonzero c.in-Err.stop.refusal) c.clear.ensures.rows_after
    c.clear.ensures.relations_after in
    record {
      value = ran.answer;
      rows_after = ran.rows-after;
      relations_after = ran.relations-after;
      reached = ran.reached;
    }
