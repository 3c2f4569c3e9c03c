-- The multipliers of rule 2 and their roots are within ±C.
--
-- Main definitions
--   Sixteen p           p has 16 coefficients, all within ±C
--
-- Main statements
--   multipliers-fit     the multipliers of two polynomials of 16 coefficients within ±C
--   roots-small         the integer roots of a polynomial within ±C
use Rattle.std.specs.Prelude.{◌≤◌, ◌≡◌, Bool, true, false, not, T, ℤ, nat_abs, length}
use Rattle.std.proofs.Common.{le_trans, lt_of_not-le, sym, ◌∙◌, subst, le→leb}
use Rattle.std.proofs.Math.Decide.{dec_le}
use Rattle.std.proofs.Math.Logic.{by_cases}
use mathlib.Core.List.{Mem}
use Rattle.algebra.specs.Polynomials.{Polynomial, is_zero_of, lowest, degree}
use Rattle.lists.specs.Tests.{every, every-member}
use Rattle.algebra.specs.Coefficients.{degree-is_zero}
use Rattle.algebra.specs.Vanishing.{nonzero-past-lowest}
use Rattle.algebra.specs.Roots.{roots, roots-sound}
use Rattle.rules.specs.Limits.{bound, small, coefficient_count}
use Rattle.rules.specs.Elimination.{multipliers}
use Rattle.theory.specs.Multipliers.{multipliers-small, length-multipliers-g, length-multipliers-h}
use Rattle.roots.specs.RootSearch.{roots-constant, lowest-small}

abbrev pub Sixteen : Polynomial → Type 0
Sixteen p = (length p ≡ coefficient_count) × T (every small p)

-- ---- the multipliers

pub multipliers-fit : (a b : Polynomial) → Sixteen a → Sixteen b → Sixteen (multipliers a b).g × Sixteen (multipliers a b).h
multipliers-fit a b s t =
    let small = multipliers-small a b s.1 t.1 in
    ((length-multipliers-g a b ∙ s.0, small.0), (length-multipliers-h a b ∙ t.0, small.1))

-- ---- the roots

-- A root is not larger than the lowest nonzero coefficient.
pub roots-small : (p : Polynomial) → T (every small p) → T (every small (roots p))
unfolding small every
roots-small p h = cases (is_zero_of p) (degree-is_zero p) (λ n. every-member small (roots p) (λ r m. le→leb (nat_abs r) bound (size n r m)))
  where
    size : T (not (is_zero_of p)) → (r : ℤ) → Mem r (roots p) → nat_abs r ≤ bound
    size n r m =
        by_cases (dec_le (nat_abs r) (nat_abs (lowest p))) (λ b. le_trans b (lowest-small p n h))
        (λ b. absurd (nonzero-past-lowest p r n (lt_of_not-le b) (roots-sound p m)))

    cases : (t : Bool) → (T t → degree p ≡ 0) → (T (not t) → T (every small (roots p))) → T (every small (roots p))
    cases true z _ = subst (λ l. T (every small l)) (sym (roots-constant p (z tt))) tt
    cases false _ g = g tt
