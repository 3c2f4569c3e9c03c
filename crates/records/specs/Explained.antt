-- What the answer to a record promises.
--
-- Main definitions
--   named                   the row of an equation or a relation, by its number
--   Explains y              the equations hold of y wherever all their blocks lie in the record, and so do the relations there
--
-- Main statements
--   satisfied-explains      a sequence that satisfies the system and agrees with the record explains it, so it never fails
use Prim.Native.Nat.{ℕ, pred}
use Rattle.std.specs.Prelude.{◌≡◌, get_or, ℤ}
use mathlib.Core.List.{List}
use Rattle.std.proofs.Math.Dec.{T}
use Rattle.std.proofs.Math.IntN.{pos}
use Rattle.lists.specs.Everywhere.{All, all-mono}
use Rattle.rules.specs.Rows.{Row, Relation, no_row}
use Rattle.rules.specs.Sequences.{Sequence, value_of, Satisfies, SatisfiesEquation, SatisfiesRelation}
use Rattle.rules.specs.Stores.{Sizes}
use Rattle.records.specs.Records.{Which, equation, relation}
use Rattle.records.specs.Records.{inside}

abbrev pub no_relation : Relation
no_relation = record { index = pos 0; row = no_row }

-- Equations and relations are counted from 1.
unfoldable pub named : List Row → List Relation → Which → Row
named rows relations (equation i) = get_or rows (pred i) no_row
named rows relations (relation i) = (get_or relations (pred i) no_relation).row

-- The equations hold of y wherever all their blocks lie in the record, and so does each relation whose n0 is there (SCOPE 12.25).
pub record Explains (z : Sizes) (first : ℤ) (vectors : ℕ) (rows : List Row) (relations : List Relation) (y : Sequence) : Type 0 where
  pub equations-hold : (n : ℤ) → T (inside z first vectors n) → All (λ r. value_of z.l r y n ≡ pos 0) rows
  pub relations-hold : All (λ e. T (inside z first vectors e.index) → value_of z.l e.row y e.index ≡ pos 0) relations

-- A sequence that satisfies the system does so there too.
pub satisfied-explains : (z : Sizes) (first : ℤ) (vectors : ℕ) (rows : List Row) (relations : List Relation) (y : Sequence)
    → Satisfies z.l rows relations y → Explains z first vectors rows relations y
unfolding Satisfies SatisfiesEquation SatisfiesRelation
satisfied-explains z first vectors rows relations y s =
    record {
      equations-hold =
          λ n there. all-mono (λ r. (n : ℤ) → value_of z.l r y n ≡ pos 0) (λ r. value_of z.l r y n ≡ pos 0) (λ r f. f n) rows s.0;
      relations-hold =
          all-mono (λ e. value_of z.l e.row y e.index ≡ pos 0)
          (λ e. T (inside z first vectors e.index) → value_of z.l e.row y e.index ≡ pos 0) (λ e h there. h) relations s.1;
    }
