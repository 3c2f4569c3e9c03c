-- What the combination of a log's step gives on the lent stores.
--
-- Main definitions
--   new_row d g h target pivot   the new row with its limits, from the numbers of both rows
--   judged_row d g h target pivot   the new row, or 13 where the integer does not divide every coefficient
--   Judged o x                   o is x as the code gives it: none is 13
--   quotient_of d row            a row divided by the integer with its limit, or 13
--
-- Main statements
--   judged-exact, judged-inexact, quotient-exact, quotient-inexact   the two cases
--   exact-judged, inexact-judged   the refusal tells whether the integer divides every coefficient
use Rattle.std.specs.Prelude.{ℕ, ◌≡◌, ◌≢◌, Bool, List, ℤ, Option, Result}
use Rattle.std.proofs.Common.{Some, None, arith, ◌∙◌}
use Rattle.std.proofs.Math.Path.{refl, sym, ap}
use Rattle.std.proofs.Math.Bool.{true, false, cond}
use Rattle.algebra.specs.Gcd.{divide_by}
use Rattle.algebra.specs.Polynomials.{Polynomial}
use Rattle.rules.specs.Rows.{Row, map_row, coefficients_of, combine, low_degrees, small_row, cut}
use Rattle.rules.specs.Stores.{row_of}
use Rattle.rules.specs.Elimination.{Limited, within, beyond, limit_degrees, limit_coefficients}
use Rattle.refusals.specs.declared.Refusal.{Refusal}
use Rattle.working_rows.specs.declared.WorkingRow.{WorkingRow}
use Rattle.working_rows.specs.Working.{numbers_held}
use Rattle.working_rows.specs.Worked.{refusal_of, Shown}
use Rattle.log_steps.specs.Logs.{divides_all}

abbrev pub new_row : ℕ → Polynomial → Polynomial → List ℤ → List ℤ → Limited
new_row d g h target pivot = limit_degrees (map_row (divide_by d) (combine g h (row_of target) (row_of pivot)))

-- ---- the integer divides every coefficient, and the new row is within the limits

unfoldable pub judged_row : ℕ → Polynomial → Polynomial → List ℤ → List ℤ → Limited
unfolding divides_all coefficients_of combine row_of limit_degrees map_row divide_by
judged_row d g h target pivot =
    cond (divides_all d (coefficients_of (combine g h (row_of target) (row_of pivot)))) (new_row d g h target pivot) (beyond 13)

-- A row divided by d, or 13.
unfoldable pub quotient_of : ℕ → WorkingRow → Limited
unfolding divides_all limit_coefficients row_of divide_by
quotient_of d row = cond (divides_all d (numbers_held row)) (limit_coefficients (row_of (divide_by d (numbers_held row)))) (beyond 13)

-- What the code makes of it: nothing where the integer does not divide every coefficient, otherwise the row, or the limit that it breaks.
abbrev pub Judged : Option (Result WorkingRow Refusal) → Limited → Type 0
Judged None x = refusal_of x ≡ 13
Judged (Some w) x = (refusal_of x ≢ 13) × Shown w x

pub quotient-exact : (d : ℕ) (row : WorkingRow) → divides_all d (numbers_held row) ≡ true
    → quotient_of d row ≡ limit_coefficients (row_of (divide_by d (numbers_held row)))
unfolding quotient_of
quotient-exact d row e = ap (λ t. cond t (limit_coefficients (row_of (divide_by d (numbers_held row)))) (beyond 13)) e

pub quotient-inexact : (d : ℕ) (row : WorkingRow) → divides_all d (numbers_held row) ≡ false → quotient_of d row ≡ beyond 13
unfolding quotient_of
quotient-inexact d row e = ap (λ t. cond t (limit_coefficients (row_of (divide_by d (numbers_held row)))) (beyond 13)) e

-- No limit of a new row has the number 13.
limited-not : (q : Row) → refusal_of (limit_degrees q) ≢ 13
unfolding refusal_of limit_degrees limit_coefficients
limited-not q = cases (low_degrees q) (small_row (cut q))
  where
    cases : (t u : Bool) → refusal_of (cond t (cond u (within (cut q)) (beyond 8)) (beyond 7)) ≢ 13
    cases true true e = omega (arith, e)
    cases true false e = omega (arith, e)
    cases false u e = omega (arith, e)

module _ (d : ℕ) (g h : Polynomial) (target pivot : List ℤ) where
  abbrev exact : Bool
  exact = divides_all d (coefficients_of (combine g h (row_of target) (row_of pivot)))

  pub judged-exact : exact ≡ true → judged_row d g h target pivot ≡ new_row d g h target pivot
  unfolding judged_row
  judged-exact e = ap (λ t. cond t (new_row d g h target pivot) (beyond 13)) e

  pub judged-inexact : exact ≡ false → judged_row d g h target pivot ≡ beyond 13
  unfolding judged_row
  judged-inexact e = ap (λ t. cond t (new_row d g h target pivot) (beyond 13)) e

  pub inexact-judged : refusal_of (judged_row d g h target pivot) ≡ 13 → exact ≡ false
  inexact-judged e = cases exact refl
    where
      cases : (t : Bool) → exact ≡ t → exact ≡ false
      cases false f = f
      cases true f =
          absurd (limited-not (map_row (divide_by d) (combine g h (row_of target) (row_of pivot)))
          (sym (ap refusal_of (judged-exact f)) ∙ e))

  pub exact-judged : refusal_of (judged_row d g h target pivot) ≢ 13 → exact ≡ true
  unfolding refusal_of
  exact-judged n = cases exact refl
    where
      cases : (t : Bool) → exact ≡ t → exact ≡ true
      cases true f = f
      cases false f = absurd (n (ap refusal_of (judged-inexact f)))
