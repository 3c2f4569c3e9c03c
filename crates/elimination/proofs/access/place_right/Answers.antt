-- `elimination::access::place_right` meets its contract. The row is tested first, then the block, then the column.
-- Assumes nothing.
use mathlib.Core.Path.{◌≡◌, sym, ◌∙◌}
use mathlib.Core.Bool.{true, ◌&&◌}
use borrow.Author.Rules.{sfits_of}
use lib.Dec.{leb}
use lib.Signed.{le_z}
use mir.Syntax.{w64}
use mir.Facts.{to_z-of_z}
use Rattle.rules.specs.Stores.{equations}
use Rattle.rules.specs.Calls.{place_right_of}
use Rattle.stores.specs.declared.validity.Sizes.{Sizes}
use Rattle.stores.specs.Validity.{the_sizes_of}
use Rattle.lists.specs.Tests.{first-failed, second-failed, both-passed}
use Rattle.elimination.proofs.access.place_right.Goals as goal
use Rattle.elimination.proofs.access.place_right.Goals.{After-between, Start}

-- the row has passed, and the block is tested
module _ (c : After-between) where
  abbrev before : Start
  before = (goal.at.After-between c).Start

  abbrev sizes : Sizes
  sizes = before.args.sizes

  row-passed : (leb 1 before.args.row && leb before.args.row sizes.equations) ≡ true
  row-passed = sym c.counted.ensures ∙ c.if-not-counted.false

  tested : c.between.result ≡ (le_z sizes.t before.args.block && le_z before.args.block sizes.l)
  tested =
      rw (
        to_z-of_z {w = w64} before.ranges.block,
        to_z-of_z {w = w64} {z = sizes.l} (sfits_of c.struct_told-2-1.given.1.1.0.1),
        to_z-of_z {w = w64} {z = sizes.t} (sfits_of c.struct_told-2-1.given.1.1.1.0.1),
      )
      at c.between.ensures

pub returns-then-not-counted : goal.returns-then-not-counted
unfolding place_right_of equations the_sizes_of
returns-then-not-counted c = first-failed _ _ _ (sym c.counted.ensures ∙ c.if-not-counted.true)

pub returns-then-not-between : goal.returns-then-not-between
unfolding place_right_of equations the_sizes_of
returns-then-not-between c = second-failed _ _ _ (row-passed (goal.at.returns-then-not-between c).After-between) (sym (tested (goal.at.returns-then-not-between c).After-between) ∙ c.if-not-between.true)

pub returns : goal.returns
unfolding place_right_of equations the_sizes_of
returns c =
    let block-passed = sym (tested (goal.at.returns c).After-between) ∙ c.if-not-between.false in
    c.counted-2.ensures ∙ both-passed _ _ _ (row-passed (goal.at.returns c).After-between) block-passed
