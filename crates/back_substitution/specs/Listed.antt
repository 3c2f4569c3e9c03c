-- The listed sequences: one for each column that is left without a pivot (SCOPE 14.5).
--
-- Main definitions
--   dot r v               the sum of the products of a row's entries with the numbers of a vector
--   free_columns n ps      the columns below n that are not the column of a settled row
--   unit n f              1 at column f and 0 at the others, n columns
--   substitute p v        the vector times a positive number, with the value at the pivot's column at which the row's sum is 0
--   vector_at n ps f       the sequence of the free column f
--   sequences n ps        the list
--   list_store_of l         the list in its store, one sequence a row
use Rattle.std.specs.Prelude.{ℕ, Bool, not, cond, eqb, set, replicate, ℤ, pos, neg_ℤ, nat_abs, ◌+ℤ◌, ◌*ℤ◌}
use mathlib.Core.List.{List, [], ◌∷◌, map, flatten}
use Rattle.std.specs.Int.Signed.{lt_z, quot_z}
use Rattle.algebra.specs.Sums.{count_from}
use Rattle.algebra.specs.Gcd.{gcd}
use Rattle.algebra.specs.Polynomials.{scale}
use Rattle.lists.specs.Padded.{pad_to}
use Rattle.lists.specs.Sifted.{keep}
use Rattle.lists.specs.Tests.{every}
use Rattle.constant_rows.specs.Constants.{Judged, each}
use Rattle.constant_rows.specs.ListLengths.{list_columns, list_need}
use Rattle.echelon.specs.Eliminated.{Pivot, pivot_of, limited}

unfoldable pub dot : List ℤ → List ℤ → ℤ
dot [] v = pos 0
dot (a ∷ r) [] = pos 0
dot (a ∷ r) (x ∷ v) = a *ℤ x +ℤ dot r v

unfoldable pub is_free_of : List Pivot → ℕ → Bool
unfolding every
is_free_of ps c = every (λ p. not (eqb p.column c)) ps

unfoldable pub free_columns : ℕ → List Pivot → List ℕ
unfolding keep is_free_of count_from
free_columns n ps = keep (is_free_of ps) (count_from 0 n)

unfoldable pub unit : ℕ → ℕ → List ℤ
unit n f = set (replicate n (pos 0)) f (pos 1)

-- The value at the pivot's column: S / gcd (d, S), its sign turned where d is positive.
unfoldable pub solved : ℤ → ℤ → ℤ
unfolding gcd
solved d S =
    let q : ℤ = quot_z S (pos (gcd (nat_abs d) (nat_abs S))) in
    cond (lt_z d (pos 0)) q (neg_ℤ q)

-- With d the pivot and S the sum over the other columns, the vector is taken |d| / gcd (d, S) times, so that it stays without a common
-- divisor and no number on the way is larger than the one that it leads to.
unfoldable pub substitute : Pivot → List ℤ → List ℤ
unfolding dot pivot_of scale solved gcd
substitute p v =
    let d : ℤ = pivot_of p in
    let S : ℤ = dot p.numbers v in
    set (scale (quot_z (pos (nat_abs d)) (pos (gcd (nat_abs d) (nat_abs S)))) v) p.column (solved d S)

-- Back through the settled rows, from the last (SCOPE 14.52).
unfoldable pub substitute_all_of : List Pivot → List ℤ → List ℤ
unfolding substitute
substitute_all_of [] v = v
substitute_all_of (p ∷ ps) v = substitute p (substitute_all_of ps v)

unfoldable pub vector_at : ℕ → List Pivot → ℕ → List ℤ
unfolding substitute_all_of unit
vector_at n ps f = substitute_all_of ps (unit n f)

-- In the order of the columns; a value past ±C is refused with 8 (SCOPE 14.51, 14.53).
unfoldable pub sequences : ℕ → List Pivot → Judged (List (List ℤ))
unfolding each limited vector_at free_columns
sequences n ps = each (λ f. limited (vector_at n ps f)) (free_columns n ps)

-- One sequence a row, 0 elsewhere (SCOPE 14.63).
unfoldable pub list_store_of : List (List ℤ) → List ℤ
unfolding pad_to flatten
list_store_of l = pad_to list_need (pos 0) (flatten (map (pad_to list_columns (pos 0)) l))
