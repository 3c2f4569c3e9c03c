-- `working_rows::stored::save` meets its contract. The right side comes behind the entries.
-- Assumes nothing.
use mathlib.Core.Path.{◌∙◌, ap, ap₂}
use Prim.Native.Nat.{◌+◌}
use native.Mathlib.Omega.{arith}
use lib.Seq.{paste}
use Rattle.rules.specs.Limits.{coefficient_count, entries_length}
use Rattle.working_rows.specs.Working.{paste-joined}
use Rattle.working_rows.proofs.stored.save.Goals as goal

pub returns : goal.returns
returns c =
    let store = c.args.store.now in
    let at = c.args.at in
    let row = c.args.row in
    c.save-2.ensures
    ∙ ap₂ (λ d n. paste d (at + entries_length) row.right n) (c.save.ensures ∙ ap (paste store at row.entries)
    c.requires.1.entries-long)
    c.requires.1.right-long
    ∙ paste-joined store row.entries row.right at entries_length coefficient_count c.requires.1.entries-long c.requires.1.right-long (omega arith)
