-- `combinations::undivided_stored` meets its contract.
-- Assumes nothing.
use mathlib.Core.Path.{sym, ◌∙◌, ap}
use native.Mathlib.Nat.{le_of_eq}
use native.Mathlib.Omega.{arith}
use lib.Seq.{take_all}
use Rattle.rules.specs.Limits.{row_length}
use Rattle.rules.specs.Rows.{width}
use Rattle.rules.specs.Stores.{row_of}
use Rattle.working_rows.specs.Working.{numbers_held, left-long, width-left}
use Rattle.combinations.specs.Undivided.{undivided_of, loaded-held, stored-fits}
use Rattle.combinations.proofs.undivided_stored.Goals as goal

pub slice_bounds-width-end : goal.slice_bounds-width-end
slice_bounds-width-end c = sym (left-long c.args.target.now c.requires.target-long)

pub width-width-requires : goal.width-width-requires
width-width-requires c = left-long c.args.target.now c.requires.target-long

pub slice_bounds-width-end-2 : goal.slice_bounds-width-end-2
slice_bounds-width-end-2 c = sym (left-long c.args.pivot.now c.requires.pivot-long)

pub width-other-requires : goal.width-other-requires
width-other-requires c = left-long c.args.pivot.now c.requires.pivot-long

pub load-row-requires : goal.load-row-requires
load-row-requires c =
    let long = c.requires.target-long in (
      omega (arith, long),
      c.width-width.ensures ∙ width-left c.args.target.now long
          ∙ ap (λ l. width (row_of l)) (sym (take_all row_length c.args.target.now (le_of_eq long))),
    )

pub undivided-requires : goal.undivided-requires
undivided-requires c =
    stored-fits c.requires c.load-row.ensures (c.width-other.ensures ∙ width-left c.args.pivot.now c.requires.pivot-long)

pub returns : goal.returns
returns c =
    c.undivided.ensures
    ∙ ap (λ t. undivided_of c.args.g.now c.args.h.now t c.args.pivot.now)
    (ap numbers_held c.load-row.ensures ∙ loaded-held c.args.target.now c.requires.target-long)
