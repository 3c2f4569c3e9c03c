-- `combinations::put_part` meets its contract.
-- Assumes nothing.
use mathlib.Core.Path.{sym, ◌∙◌}
use Rattle.combinations.specs.Parts.{zero-made}
use Rattle.combinations.proofs.put_part.Goals as goal

pub returns-then-both_zero : goal.returns-then-both_zero
returns-then-both_zero c =
    zero-made c.args.g.now c.args.h.now c.args.place.now c.args.q.now c.requires
    (sym c.both_zero.ensures ∙ c.if-both_zero.true) c.args.before

pub short_part-requires : goal.short_part-requires
short_part-requires c = (c.requires, sym c.both_within.ensures ∙ c.if-both_within.true)
