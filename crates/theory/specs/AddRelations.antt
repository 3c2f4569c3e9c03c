-- Relations added to a system. The rows stay as they are, and with them their values, their dependence, the triangular form
-- and the widths.
--
-- Main statements
--   added-satisfied          a sequence satisfies the system with relations added exactly if it satisfies the system and them
--   root_relations-all        what the relations of rule 3 have, each a row with a root of g
--   root_relations-satisfied  they are satisfied exactly if the row's value is zero at every root of g
--   equation-relations       a sequence that satisfies the equation satisfies them
use Rattle.std.specs.Prelude.{◌≡◌, ◌↔◌, ℤ}
use mathlib.Core.List.{List, ◌++◌, Mem}
use Rattle.std.proofs.Math.IntN.{pos}
use Rattle.algebra.specs.Polynomials.{Polynomial}
use Rattle.algebra.specs.Roots.{roots}
use Rattle.rules.specs.Rows.{Row, Relation}
use Rattle.lists.specs.Everywhere.{All, all-always, all_append, all_map, all-reverse, member-all}
use Rattle.rules.specs.Elimination.{Side, leading, trailing, listing, root_relations}
use Rattle.rules.specs.Sequences.{Sequence, value_of, SatisfiesEquation, SatisfiesRelation, Satisfies}

pub added-satisfied : (l : ℤ) (z : Sequence) (rows : List Row) (relations added : List Relation)
    → Satisfies l rows (relations ++ added) z ↔ (Satisfies l rows relations z × All (SatisfiesRelation l z) added)
unfolding Satisfies
added-satisfied l z rows relations added =
    let parts = all_append (SatisfiesRelation l z) relations added in
    (λ s. ((s.0, (parts.0 s.1).0), (parts.0 s.1).1), λ s. (s.0.0, parts.1 (s.0.1, s.1)))

-- ---- the relations of rule 3: row r at n0, for every integer root n0 of g

-- The order in which the roots are listed does not count.
listed-all : (P : ℤ → Type 0) (side : Side) (l : List ℤ) → All P (listing side l) ↔ All P l
unfolding listing
listed-all P leading l = (λ a. a, λ a. a)
listed-all P trailing l = all-reverse P l

pub root_relations-iff : (P : Relation → Type 0) (side : Side) (g : Polynomial) (r : Row)
    → All P (root_relations side g r) ↔ All (λ n. P (record { index = n; row = r })) (roots g)
unfolding root_relations
root_relations-iff P side g r =
    let m = all_map P (λ n. record { index = n; row = r }) (listing side (roots g)) in
    let o = listed-all (λ n. P (record { index = n; row = r })) side (roots g) in
    (λ a. o.0 (m.0 a), λ a. m.1 (o.1 a))

pub root_relations-all : (P : Relation → Type 0) (side : Side) (g : Polynomial) (r : Row)
    → ((n : ℤ) → Mem n (roots g) → P (record { index = n; row = r })) → All P (root_relations side g r)
root_relations-all P side g r h =
    (root_relations-iff P side g r).1 (member-all (λ n. P (record { index = n; row = r })) (roots g) (λ n m. h n ∣ m ∣₁))

module _ (l : ℤ) (z : Sequence) (side : Side) (g : Polynomial) (r : Row) where
  pub root_relations-satisfied : All (SatisfiesRelation l z) (root_relations side g r) ↔ All (λ n. value_of l r z n ≡ pos 0) (roots g)
  unfolding SatisfiesRelation
  root_relations-satisfied = root_relations-iff (SatisfiesRelation l z) side g r

  pub equation-relations : SatisfiesEquation l z r → All (SatisfiesRelation l z) (root_relations side g r)
  unfolding SatisfiesEquation
  equation-relations s = root_relations-satisfied.1 (all-always (λ n. value_of l r z n ≡ pos 0) s (roots g))
