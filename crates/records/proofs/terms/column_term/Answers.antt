-- `records::terms::column_term` meets its contract.
-- Assumes nothing.
use mathlib.Core.Path.{◌≡◌, ◌∙◌, ap, subst}
use mathlib.Core.List.{List}
use Prim.Native.Nat.{ℕ, ◌+◌, ◌-◌, ◌≤◌}
use native.Mathlib.Omega.{arith}
use lib.Dec.{T}
use lib.IntN.{ℤ}
use lib.ListN.{take, drop, length-set, length-take}
use Rattle.algebra.specs.Polynomials.{Polynomial, is_zero_of}
use Rattle.rules.specs.Limits.{coefficient_count}
use Rattle.evaluation.specs.Evaluated.{used, used-length, used-zero}
use Rattle.records.specs.Terms.{column-skipped, column-listed}
use Rattle.records.proofs.terms.column_term.Goals as goal
use Rattle.records.proofs.terms.column_term.Goals.{After-used-used, Start}

-- How many coefficients the polynomial has.
module _ (w : After-used-used) where
  abbrev s : Start
  s = (goal.at.After-used-used w).Start

  abbrev row : List ℤ
  row = s.args.row.now

  abbrev shape : List ℕ
  shape = s.args.shape.now

  abbrev column : Polynomial
  column = take coefficient_count (drop s.args.from row)

  used-is : w.used-used.result ≡ used column
  used-is =
      let width : s.args.from + coefficient_count - s.args.from ≡ coefficient_count = omega arith in
      w.used-used.ensures ∙ ap (λ k. used (take k (drop s.args.from row))) width

  used-few : w.used-used.result ≤ coefficient_count
  used-few = omega (arith, used-is, used-length column, length-take coefficient_count (drop s.args.from row))

pub overflow_add-shape : goal.overflow_add-shape
overflow_add-shape c = omega (arith, used-few c, (s c).requires.coefficient_count_in_bounds)

pub bounds-shape-at-2 : goal.bounds-shape-at-2
bounds-shape-at-2 c = simp length-set (omega (arith, (s c).requires.shape_len))

pub bounds-shape-at-3 : goal.bounds-shape-at-3
bounds-shape-at-3 c = simp length-set (omega (arith, (s c).requires.shape_len))

pub returns-then-used-eq0 : goal.returns-then-used-eq0
returns-then-used-eq0 c =
    let w = (goal.at.returns-then-used-eq0 c).After-used-used in
    let none-used : used (column w) ≡ 0 = omega (arith, used-is w, c.if-used-eq0.true) in
    simp (used-is w)
    (column-skipped (row w) (shape w) (s w).args.count (s w).args.from (s w).args.number
    (subst (λ k. T (is_zero_of (drop k (column w)))) none-used (used-zero (column w))))

pub returns-else-used-eq0 : goal.returns-else-used-eq0
returns-else-used-eq0 c =
    let w = (goal.at.returns-else-used-eq0 c).After-used-used in
    simp (used-is w)
    (column-listed (row w) (shape w) (s w).args.count (s w).args.from (s w).args.number (omega (arith, (s w).requires.shape_len))
    (s w).requires.coefficient_count_in_bounds.0)
