-- The constant rows of a system: what its equations and relations say of the sequences within 0 to N (SCOPE 14.3).
--
-- Main definitions
--   Judged A, and_on, each    what is made, or the number of the first limit that is passed; one after another
--   entry_at n p              the value of an entry, judged
--   the_columns_of m N            the number of the columns: N + 1 indices of m unknowns each
--   constant_row_of m l N r n    the row that an equation makes at n
--   row_indices z N           the integers n from -l to N - t
--   constant_rows_of z N rows relations   the rows of the equations, by rising n and then by number, and behind them those of the relations
use Rattle.std.specs.Prelude.{ℕ, suc, ◌+◌, ◌*◌, ◌/◌, ◌%◌, cond, ℤ, pos, ◌-ℤ◌}
use mathlib.Core.List.{List, [], ◌∷◌, ◌++◌, map, flatten}
use Rattle.std.proofs.Math.Option.{Option, none, some}
use Rattle.algebra.specs.Sums.{count_from}
use Rattle.algebra.specs.Polynomials.{Polynomial}
use Rattle.evaluation.specs.Evaluated.{horner}
use Rattle.rules.specs.Limits.{small}
use Rattle.rules.specs.Rows.{Row, Relation}
use Rattle.rules.specs.Stores.{Sizes, span}
use Rattle.rules.specs.Sequences.{polynomial_at_of}

-- ---- what is made, or the first limit that is passed

pub data Judged (A : Type 0) : Type 0 where
  fine : A → Judged A
  passed : ℕ → Judged A

unfoldable pub and_on : {A B : Type 0} → Judged A → (A → Judged B) → Judged B
and_on (fine a) f = f a
and_on (passed n) f = passed n

-- One after another; the first limit that is passed counts (SCOPE 14.34).
unfoldable pub each : {A B : Type 0} → (A → Judged B) → List A → Judged (List B)
unfolding and_on
each f [] = fine []
each f (x ∷ l) = and_on (f x) (λ y. and_on (each f l) (λ ys. fine (y ∷ ys)))

-- ---- the rows

-- 12 where Horner's rule passes its limit, then 8 where the value is past ±C (SCOPE 14.33, 14.34).
unfoldable pub judge_value : Option ℤ → Judged ℤ
unfolding small
judge_value none = passed 12
judge_value (some v) = cond (small v) (fine v) (passed 8)

unfoldable pub entry_at : ℤ → Polynomial → Judged ℤ
unfolding horner judge_value
entry_at n p = judge_value (horner n p)

-- The columns of the indices 0 to N, m to an index (SCOPE 14.32).
unfoldable pub the_columns_of : ℕ → ℕ → ℕ
the_columns_of m N = suc N * m

-- Column j is that of index j / m and unknown j % m, which the equation meets at n in block j / m - n (SCOPE 14.32).
unfoldable pub column_polynomial : ℕ → ℤ → Row → ℤ → ℕ → Polynomial
unfolding polynomial_at_of
column_polynomial m l r n j = polynomial_at_of l r (pos (j / m) -ℤ n) (j % m)

-- Entry by entry in the order of the columns; entries at indices outside 0 to N are left out (SCOPE 14.32, 14.34).
unfoldable pub constant_row_of : ℕ → ℤ → ℕ → Row → ℤ → Judged (List ℤ)
unfolding each entry_at column_polynomial count_from the_columns_of
constant_row_of m l N r n = each (λ j. entry_at n (column_polynomial m l r n j)) (count_from 0 (the_columns_of m N))

-- From -l to N - t: at any other n all indices of an equation lie outside 0 to N (SCOPE 14.31).
unfoldable pub row_indices : Sizes → ℕ → List ℤ
unfolding count_from span
row_indices z N = map (λ k. pos k -ℤ z.l) (count_from 0 (suc (N + span z)))

-- The equations that are asked for, each at its n: by rising n, then by number, and behind them the relations (SCOPE 14.31).
unfoldable pub asked : Sizes → ℕ → List Row → List Relation → List Relation
unfolding flatten row_indices
asked z N rows relations = flatten (map (λ n. map (λ r. record { index = n; row = r }) rows) (row_indices z N)) ++ relations

unfoldable pub constant_rows_of : Sizes → ℕ → List Row → List Relation → Judged (List (List ℤ))
unfolding each constant_row_of asked
constant_rows_of z N rows relations = each (λ e. constant_row_of z.m z.l N e.row e.index) (asked z N rows relations)
