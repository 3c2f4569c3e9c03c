-- The elimination of constant rows passes no limit but 8 (SCOPE 14.43).
--
-- Main statements
--   limited-limits      a row within ±C, or 8
--   eliminate-limits    all rows
use Rattle.std.specs.Prelude.{refl, List, [], ◌∷◌, ℤ}
use Rattle.std.proofs.Common.{inl}
use Rattle.algebra.specs.Polynomials.{is_zero_ℤ}
use Rattle.lists.specs.Tests.{every}
use Rattle.rules.specs.Limits.{small}
use Rattle.constant_rows.specs.Constants.{fine, passed}
use Rattle.constant_rows.specs.RowLimits.{Limits, and_on-limits, cond-limits}
use Rattle.echelon.specs.Eliminated.{Pivot, at, pivot_of, the_factors_of, combined, whole, limited, reduce_by_of, reduce_all_of, settle_at}
use Rattle.echelon.specs.Eliminated.{first_at, eliminate}

pub limited-limits : (r : List ℤ) → Limits (limited r)
unfolding limited
limited-limits r = cond-limits (every small r) (fine r) (passed 8) tt (inl refl)

reduce_by-limits : (p : Pivot) (r : List ℤ) → Limits (reduce_by_of p r)
unfolding reduce_by_of
reduce_by-limits p r =
    cond-limits (is_zero_ℤ (at r p.column)) (fine r)
    (limited (whole (combined (the_factors_of (pivot_of p) (at r p.column)) r p.numbers))) tt
    (limited-limits (whole (combined (the_factors_of (pivot_of p) (at r p.column)) r p.numbers)))

reduce_all-limits : (ps : List Pivot) (r : List ℤ) → Limits (reduce_all_of ps r)
unfolding reduce_all_of
reduce_all-limits [] r = tt
reduce_all-limits (p ∷ ps) r = and_on-limits (reduce_by_of p r) (reduce_all_of ps) (reduce_by-limits p r) (reduce_all-limits ps)

pub eliminate-limits : (rows : List (List ℤ)) (ps : List Pivot) → Limits (eliminate ps rows)
unfolding eliminate
eliminate-limits [] ps = tt
eliminate-limits (r ∷ rows) ps =
    and_on-limits (reduce_all_of ps r) (λ q. eliminate (settle_at ps q (first_at q)) rows) (reduce_all-limits ps r)
    (λ q. eliminate-limits rows (settle_at ps q (first_at q)))
