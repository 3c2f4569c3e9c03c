-- Differential sheets: equations in the variable, before they become recurrences.
--
-- Main definitions
--   DifferentialTerm    a × variable^j × (k-th derivative of unknown c)
--   DifferentialSheet   m unknowns, derivatives up to K, powers up to J, and equations, each a list of terms
--   most_derivative, most_power   K and J are 0 to 2 (SCOPE 10.2)
--   factor_bound         no factor passes it in size (SCOPE 10.5)
--   most_terms_of m K J     an equation has no more terms than there are different k, j and c (SCOPE 10.4)
--   ValidTerm, ValidDifferential   the numbers are within their ranges
use Rattle.std.specs.Prelude.{ℕ, suc, ◌*◌, ◌≤◌, List, length, ℤ, nat_abs}
use Rattle.lists.specs.Everywhere.{All}
use Rattle.rules.specs.Limits.{column_count, most_equations}

abbrev pub most_derivative : ℕ
most_derivative = 2

abbrev pub most_power : ℕ
most_power = 2

abbrev pub factor_bound : ℕ
factor_bound = 1048576

abbrev pub most_terms_of : ℕ → ℕ → ℕ → ℕ
most_terms_of m K J = m * suc K * suc J

-- The numbers k, j, c and a of a term, in the order of the sheet (SCOPE 10.5). The unknown is counted from 1.
pub record DifferentialTerm : Type 0 where
  pub derivative : ℕ
  pub power : ℕ
  pub column : ℕ
  pub factor : ℤ

-- m, K, J and the equations (SCOPE 10.2, 10.3); an equation says that its terms add up to zero (SCOPE 10.4).
pub record DifferentialSheet : Type 0 where
  pub unknowns : ℕ
  pub order : ℕ
  pub degree : ℕ
  pub equations : List (List DifferentialTerm)

-- ---- the ranges

-- That factors are not zero is left out: nothing needs it (SCOPE 10.5).
pub record ValidTerm (m K J : ℕ) (t : DifferentialTerm) : Type 0 where
  pub derivative-most : t.derivative ≤ K
  pub power-most : t.power ≤ J
  pub column-least : 1 ≤ t.column
  pub column-most : t.column ≤ m
  pub factor-most : nat_abs t.factor ≤ factor_bound

-- Within their ranges, and with no more terms than the first line allows (SCOPE 10.2 to 10.4).
pub record ValidDifferential (d : DifferentialSheet) : Type 0 where
  pub unknowns-least : 1 ≤ d.unknowns
  pub unknowns-most : d.unknowns ≤ column_count
  pub order-most : d.order ≤ most_derivative
  pub degree-most : d.degree ≤ most_power
  pub equations-most : length d.equations ≤ most_equations
  pub term-counts : All (λ e. length e ≤ most_terms_of d.unknowns d.order d.degree) d.equations
  pub terms : All (All (ValidTerm d.unknowns d.order d.degree)) d.equations
