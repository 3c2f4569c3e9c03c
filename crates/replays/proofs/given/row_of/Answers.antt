-- `replays::given::row_of` meets its contract.
-- Assumes nothing.
use mathlib.Core.Path.{sym, ◌∙◌}
use native.Mathlib.Omega.{arith}
use Rattle.replays.specs.Given.{row-counted}
use Rattle.replays.proofs.given.row_of.Goals as goal

pub place_at-requires : goal.place_at-requires
place_at-requires c =
    (omega (arith, c.requires), row-counted c.args.x.now (sym c.row_formed.ensures ∙ c.if-not-row_formed.false))
