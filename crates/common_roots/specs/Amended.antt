-- Rule 2's multipliers of two leading entries that were divided by their common roots.
--
-- Main definitions
--   both a b              the entries a, of row j, and b, of row i
--
-- Main statements
--   reduced-each          the division at the common roots is the division at the roots of a, for 16 coefficients
--   multipliers-plain         where no root is common, the ratio of a and b as they are
--   found-pivot           where a has a root, it is not zero
--   multipliers-roots         the roots of g are those of a that what is left of a still has, as often as it has them
use Rattle.std.specs.Prelude.{◌<◌, ◌≡◌, refl, not, List, [], ◌∷◌, ◌++◌, map, T, pos, neg_ℤ, length}
use Rattle.std.proofs.Math.Path.{sym, ap}
use Rattle.std.proofs.Common.{◌∙◌, arith, T_not}
use Rattle.std.proofs.Math.Dec.{not_T}
use Rattle.std.specs.Float.Ieee.Fits.{and_l}
use Rattle.algebra.specs.Coefficients.{degree-is_zero}
use Rattle.algebra.specs.Polynomials.{Polynomial, is_zero_of, is_zero-append}
use Rattle.algebra.specs.Roots.{roots}
use Rattle.lists.specs.Sifted.{keep}
use Rattle.lists.specs.Taken.{length_none}
use Rattle.rules.specs.Limits.{bound, coefficient_count}
use Rattle.rules.specs.Elimination.{Multipliers, ratio, multipliers, roots_with_of}
use Rattle.rules.specs.CommonRoots.{Entries, divide_each, common_roots_of, reduced}
use Rattle.theory.specs.Reduced.{reduced-nonzero, length-reduced}
use Rattle.roots.specs.RootSearch.{roots-constant}
use Rattle.multiplicities.specs.Counts.{times_in}
use Rattle.common_roots.specs.DividedTimes.{divide_each-common}
use Rattle.common_roots.specs.Kept.{occurs, occurring-times, roots-reduced, roots_with-ratio}

abbrev pub both : Polynomial → Polynomial → Entries
both a b = record { pivot = a; target = b }

module _ (a b : Polynomial) where
  pub reduced-each : length a ≡ coefficient_count → divide_each coefficient_count (roots a) (both a b) ≡ reduced (both a b)
  unfolding reduced common_roots_of
  reduced-each e =
      divide_each-common coefficient_count (roots a) b (both a b) (λ x root. root)
      ∙ ap (λ k. divide_each k (common_roots_of (both a b)) (both a b)) (sym e)

  pub multipliers-plain : length (common_roots_of (both a b)) ≡ 0 → multipliers a b ≡ ratio a b
  unfolding multipliers reduced divide_each
  multipliers-plain none =
      ap (λ l. let e = divide_each (length a) l (both a b) in ratio e.pivot e.target) (length_none (common_roots_of (both a b)) none)

  pub found-pivot : 0 < length (roots a) → T (not (is_zero_of a))
  found-pivot some = not_T (is_zero_of a) (λ z. omega (arith, ap length (roots-constant a (degree-is_zero a z))))

  module _ (nonzero : T (not (is_zero_of a))) where
    pub reduced-not-both : T (not (is_zero_of ((reduced (both a b)).pivot ++ (reduced (both a b)).target)))
    reduced-not-both =
        let p = (reduced (both a b)).pivot in
        let q = (reduced (both a b)).target in
        not_T (is_zero_of (p ++ q))
        (λ z. T_not (is_zero_of p) (reduced-nonzero (both a b) nonzero) (and_l (is_zero_of p) (is_zero_of q) (rw (is_zero-append p q) at z)))

    pub multipliers-roots : 0 < length a → roots_with_of (multipliers a b).g ≡ keep occurs (times_in (reduced (both a b)).pivot (roots a))
    unfolding multipliers roots_with_of
    multipliers-roots some =
        let p = (reduced (both a b)).pivot in
        roots_with-ratio p (reduced (both a b)).target reduced-not-both (reduced-nonzero (both a b) nonzero)
        ∙ ap (times_in p) (roots-reduced (both a b) nonzero)
        ∙ sym (occurring-times p (roots a) (omega (arith, (length-reduced (both a b)).0)))

-- ---- examples

abbrev examples : List (Polynomial × Polynomial × Multipliers)
examples =
    -- n²(n - 3) and n²(n + 1): a root that both have twice
    (
      pos 0 ∷ pos 0 ∷ neg_ℤ (pos 3) ∷ pos 1 ∷ [],
      pos 0 ∷ pos 0 ∷ pos 1 ∷ pos 1 ∷ [],
      record { g = neg_ℤ (pos 3) ∷ pos 1 ∷ pos 0 ∷ pos 0 ∷ []; h = neg_ℤ (pos 1) ∷ neg_ℤ (pos 1) ∷ pos 0 ∷ pos 0 ∷ [] },
    ) ∷
    -- (n - 1)(n + 1) and n - 1: a root that only one of both has stays
    (
      neg_ℤ (pos 1) ∷ pos 0 ∷ pos 1 ∷ [],
      neg_ℤ (pos 1) ∷ pos 1 ∷ pos 0 ∷ [],
      record { g = pos 1 ∷ pos 1 ∷ pos 0 ∷ []; h = neg_ℤ (pos 1) ∷ pos 0 ∷ pos 0 ∷ [] },
    ) ∷
    -- C (n - 1)(n + 1)² and n - 1: the quotient of the first would have the coefficient 2 C
    (
      neg_ℤ (pos bound) ∷ neg_ℤ (pos bound) ∷ pos bound ∷ pos bound ∷ [],
      neg_ℤ (pos 1) ∷ pos 1 ∷ pos 0 ∷ pos 0 ∷ [],
      record {
        g = neg_ℤ (pos bound) ∷ neg_ℤ (pos bound) ∷ pos bound ∷ pos bound ∷ [];
        h = pos 1 ∷ neg_ℤ (pos 1) ∷ pos 0 ∷ pos 0 ∷ [];
      },
    ) ∷
    []

multipliers-examples : map (λ x. multipliers x.0 x.1) examples ≡ map (λ x. x.2) examples
unfolding multipliers
multipliers-examples = refl
