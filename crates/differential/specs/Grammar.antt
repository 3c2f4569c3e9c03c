-- Differential sheets, read: two sections, the line `3 m K J` and then, after their count, the equations, each a term count and its
-- terms `k j c a`. Tokens are judged as those of a sheet are: form (3), range (2, of a factor 5), order or a zero factor (3), separator.
--
-- Main definitions
--   Extent                m, K, J and the number of equations
--   judge_ordered_of          a number of a term that has a range, and in it those numbers that keep the order of terms
--   first_power_of, first_column_of   the order of terms: falling k, rising j, rising c
--   read_differential_of      the sheet, or the number of its first fault in byte order
use Rattle.std.specs.Prelude.{ℕ, zero, suc, ◌&&◌, ◌||◌, cond, List, [], ◌∷◌, leb, ltb, ℤ, pos, nat_abs}
use Rattle.std.specs.Int.Signed.{le_z}
use Rattle.algebra.specs.Polynomials.{is_zero_ℤ}
use Rattle.rules.specs.Limits.{column_count, most_equations}
use Rattle.rules.specs.Stores.{Sizes}
use Rattle.rules.specs.Numbers.{space, newline, Read, got, fault, then_read, field, between}
use Rattle.rules.specs.Sheets.{always, after_count_of, parting}
use Rattle.differential.specs.Differential.{DifferentialTerm, DifferentialSheet, most_derivative, most_power, factor_bound, most_terms_of}
use Rattle.differential.specs.Recurrence.{recurrence_sizes}

-- The numbers of the first two lines: m unknowns, derivatives up to K, powers of the variable up to J, and so many equations.
pub record Extent : Type 0 where
  pub unknowns : ℕ
  pub order : ℕ
  pub degree : ℕ
  pub equations : ℕ

-- The sizes of the recurrence (SCOPE 10.21).
unfoldable pub sizes_for_of : Extent → Sizes
sizes_for_of x = recurrence_sizes x.unknowns x.equations x.order x.degree

-- The line `3 m K J`, and the line with the number of equations (SCOPE 10.2, 10.3).
unfoldable pub read_extent : List ℕ → Read Extent
unfolding then_read field between always
read_extent bytes =
    then_read (field (between (pos 3) (pos 3)) (always space) bytes) λ _ bytes₁.
    then_read (field (between (pos 1) (pos column_count)) (always space) bytes₁) λ m bytes₂.
    then_read (field (between (pos 0) (pos most_derivative)) (always space) bytes₂) λ K bytes₃.
    then_read (field (between (pos 0) (pos most_power)) (always newline) bytes₃) λ J bytes₄.
    then_read (field (between (pos 0) (pos most_equations)) (always newline) bytes₄) λ n bytes₅.
    got (record { unknowns = nat_abs m; order = nat_abs K; degree = nat_abs J; equations = nat_abs n }) bytes₅

-- A number that is not from `low` to `high` is 2 (SCOPE 10.12); then one that is not from `first` to `last` breaks the order of terms:
-- 3 (SCOPE 10.13).
unfoldable pub judge_ordered_of : ℕ → ℕ → ℕ → ℕ → ℤ → ℕ
judge_ordered_of low high first last v =
    cond (le_z (pos low) v && le_z v (pos high)) (cond (le_z (pos first) v && le_z v (pos last)) 0 3) 2

-- A factor past its bound is 5 (SCOPE 10.12), and one that is 0 is 3 (SCOPE 10.13).
unfoldable pub judge_factor_of : ℤ → ℕ
unfolding is_zero_ℤ
judge_factor_of a = cond (leb (nat_abs a) factor_bound) (cond (is_zero_ℤ a) 3 0) 5

-- The lowest power that may follow the term before, at derivative k: its own power, or any where the derivative falls (SCOPE 10.6).
unfoldable pub first_power_of : DifferentialTerm → ℕ → ℕ
first_power_of before k = cond (ltb k before.derivative) 0 before.power

-- The lowest column that may follow it, at derivative k and power j: the one after its own, or any where the derivative falls or the
-- power rises.
unfoldable pub first_column_of : DifferentialTerm → ℕ → ℕ → ℕ
first_column_of before k j = cond (ltb k before.derivative || ltb before.power j) 1 (suc before.column)

-- What an equation's first term follows: any derivative, any power and any column may come.
unfoldable pub no_term_of : Extent → DifferentialTerm
no_term_of x = record { derivative = x.order; power = 0; column = 0; factor = pos 0 }

-- A term, `last` standing behind it (SCOPE 10.5).
unfoldable pub read_term : Extent → DifferentialTerm → ℕ → List ℕ → Read DifferentialTerm
unfolding then_read field judge_ordered_of judge_factor_of first_power_of first_column_of always
read_term x before last bytes =
    then_read (field (judge_ordered_of 0 x.order 0 before.derivative) (always space) bytes) λ k bytes₁.
    then_read (field (judge_ordered_of 0 x.degree (first_power_of before (nat_abs k)) x.degree) (always space) bytes₁) λ j bytes₂.
    then_read (field (judge_ordered_of 1 x.unknowns (first_column_of before (nat_abs k) (nat_abs j)) x.unknowns) (always space) bytes₂)
    λ c bytes₃.
    then_read (field judge_factor_of (always last) bytes₃) λ a bytes₄.
    got (record { derivative = nat_abs k; power = nat_abs j; column = nat_abs c; factor = a }) bytes₄

unfoldable pub read_terms : Extent → ℕ → DifferentialTerm → List ℕ → Read (List DifferentialTerm)
unfolding then_read read_term parting
read_terms x zero before bytes = got [] bytes
read_terms x (suc k) before bytes =
    then_read (read_term x before (parting newline k) bytes) λ e rest.
    then_read (read_terms x k e rest) λ l more. got (e ∷ l) more

-- An equation has at most m × (K + 1) × (J + 1) terms (SCOPE 10.4).
abbrev pub most_of : Extent → ℕ
most_of x = most_terms_of x.unknowns x.order x.degree

unfoldable pub read_equation : Extent → List ℕ → Read (List DifferentialTerm)
unfolding then_read field between after_count_of read_terms no_term_of
read_equation x bytes =
    then_read (field (between (pos 0) (pos (most_of x))) after_count_of bytes) λ k rest. read_terms x (nat_abs k) (no_term_of x) rest

unfoldable pub read_equations : Extent → ℕ → List ℕ → Read (List (List DifferentialTerm))
unfolding then_read read_equation
read_equations x zero bytes = got [] bytes
read_equations x (suc k) bytes =
    then_read (read_equation x bytes) λ e rest.
    then_read (read_equations x k rest) λ l more. got (e ∷ l) more

-- Bytes behind the last equation are 4 (SCOPE 10.7, 10.14).
unfoldable pub read_end : DifferentialSheet → List ℕ → Read DifferentialSheet
read_end d [] = got d []
read_end d (b ∷ bytes) = fault 4

abbrev pub sheet_of : Extent → List (List DifferentialTerm) → DifferentialSheet
sheet_of x es = record { unknowns = x.unknowns; order = x.order; degree = x.degree; equations = es }

-- The two sections, and nothing behind them (SCOPE 10.1, 10.7).
unfoldable pub read_differential_of : List ℕ → Read DifferentialSheet
unfolding then_read read_extent read_equations read_end
read_differential_of bytes =
    then_read (read_extent bytes) λ x bytes₁.
    then_read (read_equations x x.equations bytes₁) λ es bytes₂.
    read_end (sheet_of x es) bytes₂
