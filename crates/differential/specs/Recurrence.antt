-- The recurrence that the coefficients of a series satisfy when the series satisfies a differential sheet.
--
-- Main definitions
--   rising b k             (n + b + 1)(n + b + 2)..(n + b + k)
--   term_polynomial t       a × (n - j + 1)(n - j + 2)..(n - j + k), as a row of a store holds a polynomial
--   add_term_of K t r          that polynomial added at block k - j and column c of a row whose first block is K
--   add_terms, recurrence_row   the terms of an equation, each added to what the ones before it left; from a row of zeros
--   recurrence_sizes m n K J   the sizes of a recurrence of n equations, l = K and t = -J
--   plain_sheet z rows      a sheet without relations and order
--   recurrence_of d         the recurrence, a row for each equation
use Rattle.std.specs.Prelude.{ℕ, zero, suc, ◌+◌, ◌-◌, pred, List, [], ◌∷◌, map, length, get_or, set, ℤ, pos, neg_ℤ, ◌+ℤ◌}
use Rattle.algebra.specs.Polynomials.{Polynomial, add, scale, mul}
use Rattle.lists.specs.Padded.{pad_to}
use Rattle.rules.specs.Limits.{coefficient_count}
use Rattle.rules.specs.Rows.{Row}
use Rattle.rules.specs.Stores.{Sizes}
use Rattle.rules.specs.Sheets.{Sheet, blank_row}
use Rattle.differential.specs.Differential.{DifferentialTerm, DifferentialSheet}

unfoldable pub rising : ℤ → ℕ → Polynomial
unfolding mul
rising b zero = pos 1 ∷ []
rising b (suc k) = mul ((b +ℤ pos 1) ∷ pos 1 ∷ []) (rising (b +ℤ pos 1) k)

-- The variable is one index down, a derivative n + 1 times one index up: of variable^j times the k-th derivative the
-- coefficient at n is that of the unknown at n - j + k, times one factor for each derivative (SCOPE 10.22).
unfoldable pub term_polynomial : DifferentialTerm → Polynomial
unfolding pad_to scale rising
term_polynomial t = pad_to coefficient_count (pos 0) (scale t.factor (rising (neg_ℤ (pos t.power)) t.derivative))

-- Block k - j stands K + j - k places behind the first, which is block K (SCOPE 10.22).
unfoldable pub place_of : ℕ → DifferentialTerm → ℕ
place_of K t = K + t.power - t.derivative

-- Terms with one block and column add up (SCOPE 10.23).
unfoldable pub add_term_of : ℕ → DifferentialTerm → Row → Row
unfolding add term_polynomial place_of
add_term_of K t r =
    let place = place_of K t in
    let block = get_or r.blocks place [] in
    let column = pred t.column in
    record {
      blocks = set r.blocks place (set block column (add (get_or block column []) (term_polynomial t)));
      right = r.right;
    }

unfoldable pub add_terms : ℕ → Row → List DifferentialTerm → Row
unfolding add_term_of
add_terms K r [] = r
add_terms K r (t ∷ ts) = add_terms K (add_term_of K t r) ts

-- A place without a term holds zero (SCOPE 10.23).
unfoldable pub recurrence_row : ℕ → List DifferentialTerm → Row
unfolding add_terms blank_row
recurrence_row K ts = add_terms K blank_row ts

-- The sizes of the recurrence: l = K and t = -J (SCOPE 10.21).
abbrev pub recurrence_sizes : ℕ → ℕ → ℕ → ℕ → Sizes
recurrence_sizes m n K J = record { m = m; equations = n; l = pos K; t = neg_ℤ (pos J) }

-- No relations and no column order (SCOPE 10.21).
abbrev pub plain_sheet : Sizes → List Row → Sheet
plain_sheet z rows = record { sizes = z; rows = rows; relations = []; order = [] }

-- As many equations as the differential sheet has; right sides are zero (SCOPE 10.21).
unfoldable pub recurrence_of : DifferentialSheet → Sheet
unfolding recurrence_row
recurrence_of d =
    plain_sheet (recurrence_sizes d.unknowns (length d.equations) d.order d.degree)
    (map (recurrence_row d.order) d.equations)
