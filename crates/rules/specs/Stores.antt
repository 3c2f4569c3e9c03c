-- Systems in stores of 64-bit signed numbers, and the checks of a call on stores.
--
-- Main definitions
--   Sizes, span              m, the number of equations, l and t; D = l - t
--   equations, with_equations_of the number of equations; the same sizes with another
--   row_of, rows_of            the row held by 336 numbers, the rows held by a row store
--   relation_of, relations_of  the relation held by 337 numbers, the relations held by a relation store
--   row_need, largest_rows, relation_need   the numbers of a row store, of the largest one, and of a relation store
--   row_store_of, row_store_for, relation_store_of   the numbers that hold rows; those in a store for more rows, and those that hold
--                            relations, unused places 0
--   sizes_right_of, lengths_right_of, numbers_right_of   the checks for refusals 2, 1 and 5
--   check_stores_of              their order
--   Shaped, Valid            rows as a store holds them; the systems that the checks let through
use Rattle.std.specs.Prelude.{ℕ, suc, ◌*◌, ◌-◌, ◌≡◌, Bool, ◌&&◌, cond, T, leb, length, take, drop, get_or, replicate, ℤ, pos, neg_ℤ, nat_abs, ◌-ℤ◌}
use mathlib.Core.List.{List, ◌∷◌, ◌++◌, map, flatten}
use Rattle.std.specs.Int.Signed.{le_z}
use Rattle.algebra.specs.Polynomials.{is_zero_of}
use Rattle.lists.specs.Parts.{parts}
use Rattle.rules.specs.Limits.{coefficient_count, column_count, most_equations, most_span, block_count, block_length, entries_length, row_length}
use Rattle.rules.specs.Limits.{relation_length}
use Rattle.rules.specs.Limits.{most_relations, block_bound, small}
use Rattle.rules.specs.Rows.{Row, Relation, zero_block, coefficients_of, small_row}
use Rattle.lists.specs.Everywhere.{All}
use Rattle.lists.specs.Tests.{every}

-- m unknowns, so many equations, blocks from t to l (SCOPE 1.1, 1.2).
pub record Sizes : Type 0 where
  pub m : ℕ
  pub equations : ℕ
  pub l : ℤ
  pub t : ℤ

-- What counts rows says this name, what counts columns says m.
unfoldable pub equations : Sizes → ℕ
equations z = z.equations

-- The sizes of a system that differs in its rows.
unfoldable pub with_equations_of : ℕ → Sizes → Sizes
with_equations_of n z = record { m = z.m; equations = n; l = z.l; t = z.t }

-- D = l - t (SCOPE 1.2).
unfoldable pub span : Sizes → ℕ
span z = nat_abs (z.l -ℤ z.t)

-- ---- the layout: from block l down, four columns a block, 16 coefficients a column from power 0 up, and 16 of
-- the right side behind them (SCOPE 3.2)

unfoldable pub row_of : List ℤ → Row
unfolding parts
row_of l =
    record {
      blocks = map (parts coefficient_count column_count) (parts block_length block_count l);
      right = take coefficient_count (drop entries_length l);
    }

unfoldable pub rows_of : ℕ → List ℤ → List Row
unfolding parts row_of
rows_of n l = map row_of (parts row_length n l)

-- n0 stands before the row (SCOPE 3.4).
unfoldable pub relation_of : List ℤ → Relation
unfolding row_of
relation_of l = record { index = get_or l 0 (pos 0); row = row_of (drop 1 l) }

unfoldable pub relations_of : ℕ → List ℤ → List Relation
unfolding parts relation_of
relations_of count l = map relation_of (parts relation_length count l)

unfoldable pub relation_numbers : Relation → List ℤ
unfolding coefficients_of
relation_numbers e = e.index ∷ coefficients_of e.row

-- The needed part of a row store, and of a relation store whatever its count is (SCOPE 3.11).
unfoldable pub row_need : ℕ → ℕ
row_need n = n * row_length

-- the largest row store
abbrev pub largest_rows : ℕ
largest_rows = most_equations * row_length

abbrev pub relation_need : ℕ
relation_need = most_relations * relation_length

unfoldable pub row_store_of : List Row → List ℤ
unfolding flatten coefficients_of
row_store_of rows = flatten (map coefficients_of rows)

-- The rows in a store for n of them: the places behind those that are left hold 0 (SCOPE 3.14).
unfoldable pub row_store_for : ℕ → List Row → List ℤ
unfolding row_store_of
row_store_for n rows = row_store_of rows ++ replicate ((n - length rows) * row_length) (pos 0)

-- The places behind the relations hold 0 (SCOPE 3.13).
unfoldable pub relation_store_of : List Relation → List ℤ
unfolding flatten relation_numbers
relation_store_of l =
    flatten (map relation_numbers l) ++ replicate ((most_relations - length l) * relation_length) (pos 0)

-- ---- the checks: sizes (2), then lengths (1), then numbers (5) (SCOPE 3.31)

-- m, the number of equations, l and t are within their ranges (SCOPE 1.1, 1.2, 3.32).
unfoldable pub sizes_right_of : Sizes → Bool
sizes_right_of z =
    (leb 1 z.m && leb z.m column_count)
    && leb (equations z) most_equations
    && (le_z (neg_ℤ (pos block_bound)) z.t && le_z z.t z.l && le_z z.l (pos block_bound) && le_z (z.l -ℤ z.t) (pos most_span))

-- A relation count above 16 is refused with the sizes (SCOPE 1.23, 3.32).
unfoldable pub count_right : ℕ → Bool
count_right count = leb count most_relations

-- Both stores have their needed parts (SCOPE 3.33).
unfoldable pub lengths_right_of : ℕ → List ℤ → List ℤ → Bool
unfolding row_need
lengths_right_of n row_store relation_store =
    leb (row_need n) (length row_store) && leb relation_need (length relation_store)

-- Blocks below t and columns above m are unused and zero (SCOPE 3.3).
unfoldable pub unused_zero_of : ℕ → ℕ → Row → Bool
unfolding every zero_block
unused_zero_of m D r =
    every (λ b. zero_block (drop m b)) r.blocks && every zero_block (drop (suc D) r.blocks)

-- No coefficient is past ±C, and unused positions hold 0 (SCOPE 3.34).
unfoldable pub row_right_of : Sizes → Row → Bool
unfolding small_row unused_zero_of span
row_right_of z r = small_row r && unused_zero_of z.m (span z) r

-- n0 is within ±C too (SCOPE 1.22, 3.34).
unfoldable pub relation_right_of : Sizes → Relation → Bool
unfolding small row_right_of
relation_right_of z e = small e.index && row_right_of z e.row

-- The rows of the equations and the relations in use; the places behind those hold 0 (SCOPE 3.13, 3.34).
unfoldable pub numbers_right_of : Sizes → ℕ → List ℤ → List ℤ → Bool
unfolding every row_right_of rows_of relation_right_of relations_of is_zero_of
numbers_right_of z count row_store relation_store =
    every (row_right_of z) (rows_of (equations z) row_store)
    && every (relation_right_of z) (relations_of count relation_store)
    && is_zero_of (drop (count * relation_length) (take relation_need relation_store))

-- The number of the first check that fails, or 0 (SCOPE 3.31).
unfoldable pub check_stores_of : Sizes → ℕ → List ℤ → List ℤ → ℕ
unfolding sizes_right_of count_right lengths_right_of numbers_right_of
check_stores_of z count row_store relation_store =
    let numbers : ℕ = cond (numbers_right_of z count row_store relation_store) 0 5 in
    let lengths : ℕ = cond (lengths_right_of (equations z) row_store relation_store) numbers 1 in
    cond (sizes_right_of z && count_right count) lengths 2

-- ---- valid systems

-- A row of b blocks, each of c columns, each of k coefficients, and as many in the right side.
unfoldable pub Shaped : ℕ → ℕ → ℕ → Row → Type 0
unfolding All
Shaped b c k r =
    (length r.blocks ≡ b) × All (λ block. (length block ≡ c) × All (λ p. length p ≡ k) block) r.blocks × (length r.right ≡ k)

-- A row as a store holds it.
abbrev pub StoreRow : Row → Type 0
StoreRow = Shaped block_count column_count coefficient_count

-- What the checks of a call let through, as rows and relations (SCOPE 3.32, 3.34).
pub record Valid (z : Sizes) (rows : List Row) (relations : List Relation) : Type 0 where
  pub sizes : T (sizes_right_of z)
  pub row_count : length rows ≡ equations z
  pub row-shapes : All StoreRow rows
  pub rows_right : T (every (row_right_of z) rows)
  pub relation-count : T (count_right (length relations))
  pub relation-shapes : All (λ e. StoreRow e.row) relations
  pub relations-right : T (every (relation_right_of z) relations)
