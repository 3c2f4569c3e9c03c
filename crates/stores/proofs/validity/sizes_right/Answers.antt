-- `stores::validity::sizes_right` meets its contract.
-- Assumes nothing.
use mathlib.Core.Path.{sym, ◌∙◌}
use borrow.Author.Rules.{rules}
use mir.Syntax.{w64}
use mir.Val.{SFits}
use mir.Facts.{to_z-of_z}
use Rattle.rules.specs.Stores.{sizes_right_of, equations}
use Rattle.stores.specs.Validity.{the_sizes_of}
use Rattle.lists.specs.Tests.{and_second, and_first}
use Rattle.stores.proofs.validity.sizes_right.Goals as goal

pub returns-then-counts_right : goal.returns-then-counts_right
unfolding sizes_right_of the_sizes_of equations
returns-then-counts_right c =
    let counts = sym c.counts_right.ensures ∙ c.if-counts_right.true in
    let fits_l : SFits w64 c.args.sizes.l = search rules in
    let fits_t : SFits w64 c.args.sizes.t = search rules in
    rw (to_z-of_z {w = w64} {z = c.args.sizes.l} fits_l, to_z-of_z {w = w64} {z = c.args.sizes.t} fits_t) at c.blocks_right.ensures
    ∙ and_second _ _ counts

pub returns-else-counts_right : goal.returns-else-counts_right
unfolding sizes_right_of the_sizes_of equations
returns-else-counts_right c =
    c.counts_right.ensures ∙ and_first _ _ (sym c.counts_right.ensures ∙ c.if-counts_right.false)
