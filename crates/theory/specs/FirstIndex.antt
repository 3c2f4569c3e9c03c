-- Sequences with a first index: what the steps of a run do to those that satisfy a system from an index on (SCOPE 2.123 to 2.125).
--
-- A series that begins at an index k + t is looked at as a two-sided sequence: by `from-same` nothing below k + t is used, so whatever a
-- two-sided sequence has there says the same of it.
--
-- Main definitions
--   EquationFrom, RelationFrom   an equation holds at every n from an index on; a relation holds if its n0 is not below an index
--   SatisfiesFrom l j k rows relations z   every equation from j on, and every relation with n0 from k on
use Rattle.std.specs.Prelude.{◌≡◌, ℤ, ◌≤ℤ◌}
use mathlib.Core.List.{List}
use Rattle.std.proofs.Math.IntN.{pos}
use Rattle.lists.specs.Everywhere.{All}
use Rattle.rules.specs.Rows.{Row, Relation}
use Rattle.rules.specs.Sequences.{Sequence, value_of}

-- The equation holds at every n from j on (SCOPE 1.25).
unfoldable pub EquationFrom : ℤ → Sequence → ℤ → Row → Type 0
EquationFrom l z j r = (n : ℤ) → j ≤ℤ n → value_of l r z n ≡ pos 0

-- The relation holds, if its n0 is k or above it (SCOPE 1.25).
unfoldable pub RelationFrom : ℤ → Sequence → ℤ → Relation → Type 0
RelationFrom l z k e = k ≤ℤ e.index → value_of l e.row z e.index ≡ pos 0

unfoldable pub SatisfiesFrom : ℤ → ℤ → ℤ → List Row → List Relation → Sequence → Type 0
unfolding All EquationFrom RelationFrom
SatisfiesFrom l j k rows relations z = All (EquationFrom l z j) rows × All (RelationFrom l z k) relations
