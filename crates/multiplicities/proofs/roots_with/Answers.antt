-- `multiplicities::roots_with` meets its contract.
-- Assumes nothing.
use mathlib.Core.Path.{◌≡◌, ◌∙◌, ap}
use mathlib.Core.List.{List}
use native.Mathlib.Omega.{arith}
use lib.IntN.{ℤ}
use Rattle.algebra.specs.Roots.{roots}
use Rattle.rules.specs.Elimination.{roots_with_of}
use Rattle.roots.specs.RootSearch.{held, held_of, listed-held, roots_few}
use Rattle.multiplicities.specs.Counts.{listed_with, times_in, roots-within}
use Rattle.multiplicities.proofs.roots_with.Goals as goal
use Rattle.multiplicities.proofs.roots_with.Goals.{After-roots}

-- The roots that were found.
module _ (c : After-roots) where
  abbrev p : List ℤ
  p = c.args.p.now

  found-is : held c.roots.result ≡ roots p
  found-is = held_of (roots p) c.roots.ensures

pub roots-requires : goal.roots-requires
roots-requires c = (omega (arith, c.requires.0), c.requires.1)

pub each_with_times-requires : goal.each_with_times-requires
each_with_times-requires c =
    record {
      p_len = c.requires;
      found_value = (
        listed-held (roots (p c)) c.roots.ensures,
        rw (found-is c) (omega (arith, roots_few (p c) (omega (arith, c.requires.0)))),
        rw (found-is c) (roots-within (p c) c.requires.1),
      );
    }

pub returns : goal.returns
unfolding roots_with_of
returns c = c.each_with_times.ensures ∙ ap (λ l. listed_with (times_in (p c.before) l)) (found-is c.before)
