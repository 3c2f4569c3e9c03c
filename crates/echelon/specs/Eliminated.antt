-- The elimination of constant rows by rules 2, 4 and 5 (SCOPE 14.4).
--
-- Main definitions
--   Pivot                 a settled row with its column
--   Factors, the_factors_of    rule 2's g and h of two integers
--   combined, whole       g × row i + h × row j; a row divided by the greatest whole number that divides it
--   reduce_by_of, reduce_all_of   rule 2 and 4 with one settled row, and with all of them
--   first_at               the first column with a nonzero entry
--   eliminate             the rows one after another, zero rows dropped
use Rattle.std.specs.Prelude.{ℕ, zero, suc, cond, get_or, ℤ, pos, neg_ℤ, nat_abs, ◌+ℤ◌, ◌*ℤ◌}
use mathlib.Core.List.{List, [], ◌∷◌, ◌++◌, zip_with}
use Rattle.std.proofs.Math.Option.{Option, none, some, map}
use Rattle.std.specs.Int.Signed.{lt_z, quot_z}
use Rattle.algebra.specs.Gcd.{gcd, content, divide_by}
use Rattle.algebra.specs.Polynomials.{is_zero_ℤ}
use Rattle.lists.specs.Tests.{every}
use Rattle.rules.specs.Limits.{small}
use Rattle.constant_rows.specs.Constants.{Judged, fine, passed, and_on}

pub record Pivot : Type 0 where
  pub numbers : List ℤ
  pub column : ℕ

unfoldable pub at : List ℤ → ℕ → ℤ
at r c = get_or r c (pos 0)

-- The entry of a settled row at its own column.
unfoldable pub pivot_of : Pivot → ℤ
unfolding at
pivot_of p = at p.numbers p.column

pub record Factors : Type 0 where
  pub g : ℤ
  pub h : ℤ

-- g = a/d and h = -b/d, d the greatest whole number that divides both; where g is negative both change their signs (SCOPE 14.42).
unfoldable pub the_factors_of : ℤ → ℤ → Factors
unfolding gcd
the_factors_of a b =
    let d : ℤ = pos (gcd (nat_abs a) (nat_abs b)) in
    cond (lt_z a (pos 0)) (record { g = neg_ℤ (quot_z a d); h = quot_z b d }) (record { g = quot_z a d; h = neg_ℤ (quot_z b d) })

unfoldable pub combined : Factors → List ℤ → List ℤ → List ℤ
unfolding zip_with
combined x r q = zip_with (λ a b. x.g *ℤ a +ℤ x.h *ℤ b) r q

-- A zero row is not divided (SCOPE 14.43).
unfoldable pub whole : List ℤ → List ℤ
unfolding content divide_by
whole r = elim (content r) [ zero ↦ r | suc d ↦ divide_by (suc d) r ]

unfoldable pub limited : List ℤ → Judged (List ℤ)
unfolding every small
limited r = cond (every small r) (fine r) (passed 8)

-- Where the row has a nonzero entry at the settled row's column, the combination takes its place (SCOPE 14.42, 14.43).
unfoldable pub reduce_by_of : Pivot → List ℤ → Judged (List ℤ)
unfolding at pivot_of is_zero_ℤ the_factors_of combined whole limited
reduce_by_of p r =
    let b : ℤ = at r p.column in
    let reduced = limited (whole (combined (the_factors_of (pivot_of p) b) r p.numbers)) in
    cond (is_zero_ℤ b) (fine r) reduced

-- With each settled row, in their order.
unfoldable pub reduce_all_of : List Pivot → List ℤ → Judged (List ℤ)
unfolding and_on reduce_by_of
reduce_all_of [] r = fine r
reduce_all_of (p ∷ ps) r = and_on (reduce_by_of p r) (reduce_all_of ps)

unfoldable pub first_at : List ℤ → Option ℕ
unfolding is_zero_ℤ
first_at [] = none
first_at (a ∷ r) = cond (is_zero_ℤ a) (map suc (first_at r)) (some 0)

-- The row is settled at its first column with a nonzero entry, or dropped where there is none (SCOPE 14.44).
unfoldable pub settle_at : List Pivot → List ℤ → Option ℕ → List Pivot
settle_at ps r none = ps
settle_at ps r (some c) = ps ++ (record { numbers = r; column = c } ∷ [])

-- The rows in their order; the settled ones are those before (SCOPE 14.41).
unfoldable pub eliminate : List Pivot → List (List ℤ) → Judged (List Pivot)
unfolding and_on reduce_all_of settle_at first_at
eliminate ps [] = fine ps
eliminate ps (r ∷ rs) = and_on (reduce_all_of ps r) (λ q. eliminate (settle_at ps q (first_at q)) rs)
