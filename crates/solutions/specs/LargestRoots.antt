-- The largest of several roots, as the root search answers: whether there is one, and which.
--
-- Main definitions
--   option_of r             the root that an answer has, if there is one
--
-- Main statements
--   option-of, answered-option   an answer and its root
--   answered-value         an answer with how often its root occurs, the root alone
--   first-missing, second-missing, second-larger, first-larger     the larger of two answers, by the tests that tell it
--   furthest-more          one list of roots more
--   diagonals-small        the diagonal polynomials are within ±C as the store is
use Rattle.std.specs.Prelude.{ℕ, ◌≤◌, ◌<◌, ◌≡◌, true, false, cond, T, ℤ, length}
use Rattle.std.proofs.Common.{sym, ◌∙◌, subst}
use Rattle.std.proofs.Math.Path.{ap}
use mathlib.Core.List.{List, [], ◌∷◌, ◌++◌, map, map-append, flatten, append-nil}
use Rattle.std.proofs.Math.Option.{Option, none, some}
use Rattle.std.specs.Prelude as Prelude
use Rattle.std.specs.Prelude.{None, Some, refl, option_map}
use Rattle.std.specs.Int.Signed.{le_z}
use Rattle.algebra.specs.Polynomials.{Polynomial}
use Rattle.lists.specs.Everywhere.{All, get_or-all}
use Rattle.lists.specs.Joined.{flatten-append}
use Rattle.lists.specs.Tests.{every}
use Rattle.rules.specs.Limits.{small, most_span}
use Rattle.rules.specs.Stores.{row_need}
use Rattle.rules.specs.Elimination.{Side, leading, further, furthest}
use Rattle.roots.specs.RootSearch.{answered}
use Rattle.multiplicities.specs.Counts.{answered_with}
use Rattle.sides.specs.FurthestRoots.{further_of, furthest-append}
use Rattle.sides.specs.Lent.{Within}
use Rattle.sides.specs.ReportLaws.{diagonals, length-diagonals, diagonal-at, diagonal-small}
use Rattle.working_rows.specs.Found.{Columns}

abbrev pub option_of : Prelude.Option ℤ → Option ℤ
option_of None = none
option_of (Some r) = some r

pub answered-option : (a : Prelude.Option ℤ) → answered (option_of a) ≡ a
answered-option None = refl
answered-option (Some r) = refl

pub option-of : (o : Option ℤ) → option_of (answered o) ≡ o
option-of none = refl
option-of (some r) = refl

pub answered-value : (p : Polynomial) (o : Option ℤ) → option_map (λ r. r.value) (answered_with p o) ≡ answered o
answered-value p none = refl
answered-value p (some r) = refl

module _ (a b : ℤ) where
  pub second-larger : le_z a b ≡ true → Some b ≡ answered (further_of leading (some a) (some b))
  unfolding further_of further
  second-larger t = ap (λ u. Some (cond u b a)) (sym t)

  pub first-larger : le_z a b ≡ false → Some a ≡ answered (further_of leading (some a) (some b))
  unfolding further_of further
  first-larger t = ap (λ u. Some (cond u b a)) (sym t)

pub first-missing : (b : Prelude.Option ℤ) → b ≡ answered (further_of leading none (option_of b))
unfolding further_of
first-missing b = sym (answered-option b)

pub second-missing : (a : ℤ) → Some a ≡ answered (further_of leading (some a) none)
unfolding further_of further
second-missing a = refl

pub furthest-more : {A : Type 0} (side : Side) (f : A → List ℤ) (xs : List A) (x : A)
    → furthest side (flatten (map f (xs ++ x ∷ []))) ≡ further_of side (furthest side (flatten (map f xs))) (furthest side (f x))
unfolding flatten
furthest-more side f xs x =
    ap (λ l. furthest side (flatten l)) (map-append f xs (x ∷ []))
    ∙ ap (furthest side) (flatten-append (map f xs) (f x ∷ []) ∙ ap (λ l. flatten (map f xs) ++ l) (append-nil (f x)))
    ∙ furthest-append side (flatten (map f xs)) (f x)

-- The diagonal polynomials are within ±C as the store is.
module _ (side : Side) (D settled : ℕ) (store : List ℤ) (order : List ℕ) (enough : settled ≤ length order) where
  pub diagonals-small : D ≤ most_span → Columns order → Within (row_need settled) store
      → All (λ p. T (every small p)) (diagonals side D settled store order)
  diagonals-small few columns w =
      get_or-all (λ p. T (every small p)) (diagonals side D settled store order) []
      (λ j h. let below = subst (λ n. j < n) (length-diagonals side D settled store order enough) h in
      subst (λ p. T (every small p)) (sym (diagonal-at side D settled store order enough few columns j below))
      (diagonal-small side D settled store order enough few columns j below w))
