-- `working_rows::mirroring::mirrored` meets its contract: the signs of both parts, and then the blocks of the left one.
-- Assumes nothing.
use mathlib.Core.Path.{sym, ◌∙◌, ap₂, subst}
use Rattle.working_rows.specs.Working.{working_of, small-apart}
use Rattle.working_rows.specs.Mirroring.{Turned, turned_left, mirrored-side}
use Rattle.working_rows.proofs.mirroring.mirrored.Goals as goal

pub alternate_signs-requires : goal.alternate_signs-requires
alternate_signs-requires c = (small-apart c.args.row c.requires.2).0

pub alternate_signs-requires-2 : goal.alternate_signs-requires-2
alternate_signs-requires-2 c =
    (small-apart c.args.row c.requires.2).1

pub returns : goal.returns
returns c =
    let span = c.args.span in
    c.working.ensures
    ∙ ap₂ working_of
    (turned_left span c.args.row c.requires.0 c.requires.1 c.turn.new.entries
    (subst (λ l. Turned span l c.turn.new.entries) c.alternate_signs.ensures c.turn.ensures))
    (c.alternate_signs-2.ensures ∙ sym (mirrored-side span c.args.row c.requires.0 c.requires.1))
