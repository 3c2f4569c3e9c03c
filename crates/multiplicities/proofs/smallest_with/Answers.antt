-- `multiplicities::smallest_with` meets its contract.
-- Assumes nothing.
use mathlib.Core.Path.{◌∙◌, ap}
use native.Mathlib.Nat.{le_of_eq}
use Rattle.rules.specs.Elimination.{trailing}
use Rattle.multiplicities.specs.Counts.{with_times_of, furthest-small}
use Rattle.multiplicities.proofs.smallest_with.Goals as goal

pub smallest_root-requires : goal.smallest_root-requires
smallest_root-requires c = (le_of_eq c.requires.0, c.requires.1)

pub with_times-requires : goal.with_times-requires
with_times-requires c =
    (c.requires.0, c.requires.1, rw c.smallest_root.ensures (furthest-small trailing c.args.p.now c.requires.1))

pub returns : goal.returns
returns c = c.with_times.ensures ∙ ap (with_times_of c.args.p.now) c.smallest_root.ensures
