-- The side of a run, and what is asked of the lent stores.
--
-- Main definitions
--   side_of side                  the side of a run, as the rules name it
--   Within need store            the store is long enough, and its needed part is within ±C
--   Listing count relations      a relation store in which `count` places are used and the others hold 0
--   Kept need store store'       the length and the numbers past the needed part are the same
use Rattle.std.specs.Prelude.{ℕ, ◌*◌, ◌≤◌, ◌≡◌, List, T, ℤ, length, take, drop}
use Rattle.algebra.specs.Polynomials.{is_zero_of}
use Rattle.rules.specs.Limits.{small, relation_length, most_relations}
use Rattle.lists.specs.Tests.{every}
use Rattle.rules.specs.Elimination.{Side, leading, trailing}
use Rattle.rules.specs.Stores.{relation_need}
use Rattle.sides.specs.declared.Side as declared
use Rattle.sides.specs.declared.Side.TheVariants.{Leading, Trailing}

abbrev pub side_of : declared.Side → Side
side_of Leading = leading
side_of Trailing = trailing

pub record Within (need : ℕ) (store : List ℤ) : Type 0 where
  pub long : need ≤ length store
  pub numbers : T (every small (take need store))

pub record Listing (count : ℕ) (relations : List ℤ) : Type 0 where
  pub few : count ≤ most_relations
  pub within : Within relation_need relations
  pub unused : T (is_zero_of (drop (count * relation_length) (take relation_need relations)))

pub record Kept (need : ℕ) (store store' : List ℤ) : Type 0 where
  pub same_length : length store' ≡ length store
  pub same_rest : drop need store' ≡ drop need store
