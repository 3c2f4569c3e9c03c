-- `sides::listing::root_at` meets its contract.
-- Assumes nothing.
use mathlib.Core.Path.{sym, ◌∙◌}
use Prim.Native.Nat.{◌-◌}
use borrow.Author.Rules.{sfits_of}
use lib.ListN.{get_or}
use mir.Syntax.{w64}
use mir.Val.{SFits}
use mir.Facts.{to_z-of_z}
use Rattle.multiplicities.specs.Counts.{no_root}
use Rattle.sides.specs.Relations.{held-first, held-last}
use Rattle.sides.proofs.listing.root_at.Goals as goal

pub returns-in-Leading : goal.returns-in-Leading
returns-in-Leading c =
    let w = c.args.found in
    let read : SFits w64 (get_or w.roots c.args.k no_root).value = sfits_of c.result-1.given in
    rw c.in-Leading.is (to_z-of_z read ∙ sym (held-first w c.requires.2 c.requires.1 c.args.k c.requires.0))

pub returns-in-Trailing : goal.returns-in-Trailing
returns-in-Trailing c =
    let w = c.args.found in
    let read : SFits w64 (get_or w.roots (w.count - 1 - c.args.k) no_root).value = sfits_of c.result-in-Trailing-1.given in
    rw c.in-Trailing.is (to_z-of_z read ∙ sym (held-last w c.requires.2 c.requires.1 c.args.k c.requires.0))
