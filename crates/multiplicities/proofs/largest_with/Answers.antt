-- `multiplicities::largest_with` meets its contract.
-- Assumes nothing.
use mathlib.Core.Path.{◌∙◌, ap}
use native.Mathlib.Nat.{le_of_eq}
use Rattle.rules.specs.Elimination.{leading}
use Rattle.multiplicities.specs.Counts.{with_times_of, furthest-small}
use Rattle.multiplicities.proofs.largest_with.Goals as goal

pub largest_root-requires : goal.largest_root-requires
largest_root-requires c = (le_of_eq c.requires.0, c.requires.1)

pub with_times-requires : goal.with_times-requires
with_times-requires c =
    (c.requires.0, c.requires.1, rw c.largest_root.ensures (furthest-small leading c.args.p.now c.requires.1))

pub returns : goal.returns
returns c = c.with_times.ensures ∙ ap (with_times_of c.args.p.now) c.largest_root.ensures
