-- Systems with known lists, computed in the definitions.
--
-- Main definitions
--   Gives z es a    what the definitions answer to a system by its terms, columns counted from 1
-- Main statements
--   hermite     (n + 2)(n + 3) z(n + 3) + (12 - 2 n) z(n + 1) = 0: 8 x^7 - 84 x^5 + 210 x^3 - 105 x
--   legendre, legendre-five   (n + 1)(n + 2) z(n + 2) + (d (d + 1) - n (n + 1)) z(n) = 0: x, and 63 x^5 - 70 x^3 + 15 x
--   chebyshev   (n + 1)(n + 2) z(n + 2) + (16 - n^2) z(n) = 0: 8 x^4 - 8 x^2 + 1
--   binomial    (n + 1) z(n + 1) + (10 - n) z(n) = 0: (x - 1)^10
--   three       a system of three unknowns with four listed sequences
--   past_value  a system of one unknown is refused with 12
--   no-root     z(n) = 0 has no root: none
--   past-list   (n + 1)^2 z(n + 1) + (12 - n) z(n) = 0 is refused with 8
--   past_index, below-rank   (n - 16) z(n) = 0 is refused with 14, and so is a system without equations
use Rattle.std.specs.Prelude.{ℕ, suc, ◌*◌, ◌≡◌, refl, List, [], ◌∷◌, map, ℤ, pos, negsuc}
use Rattle.algebra.specs.Polynomials.{Polynomial}
use Rattle.rules.specs.Stores.{Sizes}
use Rattle.rules.specs.Sheets.{Term, row_of_terms}
use Rattle.rules.specs.Opened.{opened}
use Rattle.solutions.specs.SolutionAnswers.{Answer, refused_with, none_listed, listed, answer}

abbrev term : ℤ → ℕ → Polynomial → Term
term s c p = record { block = s; column = c; polynomial = p }

abbrev the_sizes_of : ℕ → ℕ → ℤ → ℤ → Sizes
the_sizes_of m equations l t = record { m = m; equations = equations; l = l; t = t }

abbrev Gives : Sizes → List (List Term) → Answer → Type 0
Gives z es a = answer z (map (row_of_terms z.l) es) [] ≡ a

-- Hermite's equation of degree 7.
pub hermite : Gives (the_sizes_of 1 1 (pos 4) (pos 0))
    ((term (pos 3) 1 (pos 6 ∷ pos 5 ∷ pos 1 ∷ []) ∷ term (pos 1) 1 (pos 12 ∷ negsuc 1 ∷ []) ∷ []) ∷ [])
    (listed 7 ((pos 0 ∷ negsuc 104 ∷ pos 0 ∷ pos 210 ∷ pos 0 ∷ negsuc 83 ∷ pos 0 ∷ pos 8 ∷ []) ∷ []))
unfolding opened answer row_of_terms
hermite = refl

-- Legendre's equation of degree d (SCOPE 14.81).
abbrev legendre_of : ℕ → List (List Term)
legendre_of d =
    (term (pos 2) 1 (pos 2 ∷ pos 3 ∷ pos 1 ∷ []) ∷ term (pos 0) 1 (pos (d * suc d) ∷ negsuc 0 ∷ negsuc 0 ∷ []) ∷ []) ∷ []

pub legendre : Gives (the_sizes_of 1 1 (pos 2) (pos 0)) (legendre_of 1) (listed 1 ((pos 0 ∷ pos 1 ∷ []) ∷ []))
unfolding opened answer row_of_terms
legendre = refl

pub legendre-five : Gives (the_sizes_of 1 1 (pos 2) (pos 0)) (legendre_of 5)
    (listed 5 ((pos 0 ∷ pos 15 ∷ pos 0 ∷ negsuc 69 ∷ pos 0 ∷ pos 63 ∷ []) ∷ []))
unfolding opened answer row_of_terms
legendre-five = refl

-- Chebyshev's equation of degree 4 (SCOPE 14.81).
pub chebyshev : Gives (the_sizes_of 1 1 (pos 2) (pos 0))
    ((term (pos 2) 1 (pos 2 ∷ pos 3 ∷ pos 1 ∷ []) ∷ term (pos 0) 1 (pos 16 ∷ pos 0 ∷ negsuc 0 ∷ []) ∷ []) ∷ [])
    (listed 4 ((pos 1 ∷ pos 0 ∷ negsuc 7 ∷ pos 0 ∷ pos 8 ∷ []) ∷ []))
unfolding opened answer row_of_terms
chebyshev = refl

pub binomial : Gives (the_sizes_of 1 1 (pos 3) (pos 0))
    ((term (pos 1) 1 (pos 1 ∷ pos 1 ∷ []) ∷ term (pos 0) 1 (pos 10 ∷ negsuc 0 ∷ []) ∷ []) ∷ [])
    (listed 10
    ((pos 1 ∷ negsuc 9 ∷ pos 45 ∷ negsuc 119 ∷ pos 210 ∷ negsuc 251 ∷ pos 210 ∷ negsuc 119 ∷ pos 45 ∷ negsuc 9 ∷ pos 1 ∷ []) ∷ []))
unfolding opened answer row_of_terms
binomial = refl

pub no-root : Gives (the_sizes_of 1 1 (pos 2) (pos 0)) ((term (pos 0) 1 (negsuc 0 ∷ []) ∷ []) ∷ []) none_listed
unfolding opened answer row_of_terms
no-root = refl

-- Three unknowns.
pub three : Gives (the_sizes_of 3 3 (pos 1) (negsuc 0))
    ((term (pos 1) 1 (pos 1 ∷ pos 2 ∷ pos 1 ∷ []) ∷ term (pos 0) 1 (pos 2 ∷ negsuc 0 ∷ []) ∷ [])
    ∷ (term (pos 1) 2 (pos 0 ∷ pos 1 ∷ pos 1 ∷ []) ∷ []) ∷ (term (pos 1) 3 (pos 1 ∷ pos 1 ∷ []) ∷ []) ∷ [])
    (listed 2
    ((pos 0 ∷ pos 1 ∷ pos 0 ∷ pos 0 ∷ pos 0 ∷ pos 0 ∷ pos 0 ∷ pos 0 ∷ pos 0 ∷ [])
    ∷ (pos 0 ∷ pos 0 ∷ pos 1 ∷ pos 0 ∷ pos 0 ∷ pos 0 ∷ pos 0 ∷ pos 0 ∷ pos 0 ∷ [])
    ∷ (pos 0 ∷ pos 0 ∷ pos 0 ∷ pos 0 ∷ pos 1 ∷ pos 0 ∷ pos 0 ∷ pos 0 ∷ pos 0 ∷ [])
    ∷ (pos 2 ∷ pos 0 ∷ pos 0 ∷ negsuc 3 ∷ pos 0 ∷ pos 0 ∷ pos 1 ∷ pos 0 ∷ pos 0 ∷ []) ∷ []))
unfolding opened answer row_of_terms
three = refl

-- A value of Horner's rule is past ±2^40.
pub past_value : Gives (the_sizes_of 1 1 (pos 58) (pos 54))
    ((term (pos 56) 1
    (pos 2754 ∷ pos 105 ∷ pos 1 ∷ pos 0 ∷ pos 0 ∷ pos 0 ∷ pos 0 ∷ pos 0 ∷ pos 0 ∷ pos 0 ∷ pos 19278 ∷ pos 735 ∷ pos 7 ∷ []) ∷ []) ∷ [])
    (refused_with 12)
unfolding opened answer row_of_terms
past_value = refl

-- A value of the list is past ±C.
pub past-list : Gives (the_sizes_of 1 1 (pos 4) (pos 0))
    ((term (pos 1) 1 (pos 1 ∷ pos 2 ∷ pos 1 ∷ []) ∷ term (pos 0) 1 (pos 12 ∷ negsuc 0 ∷ []) ∷ []) ∷ []) (refused_with 8)
unfolding opened answer row_of_terms
past-list = refl

pub past_index : Gives (the_sizes_of 1 1 (pos 4) (pos 0)) ((term (pos 0) 1 (negsuc 15 ∷ pos 1 ∷ []) ∷ []) ∷ []) (refused_with 14)
unfolding opened answer row_of_terms
past_index = refl

-- The rank is below m.
pub below-rank : Gives (the_sizes_of 1 0 (pos 1) (pos 0)) [] (refused_with 14)
unfolding opened answer row_of_terms
below-rank = refl
