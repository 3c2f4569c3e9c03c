-- How many columns and constant rows there are (SCOPE 14.31, 14.32, 14.61).
--
-- Main statements
--   columns-bound      no more than 64 columns
--   asked-length       the equations at each n, and the relations
use Rattle.std.specs.Prelude.{ℕ, suc, ◌+◌, ◌*◌, ◌≤◌, ◌≡◌, length, ℤ, pos, ◌-ℤ◌}
use Rattle.std.proofs.Common.{suc-le-suc, sym, ◌∙◌, ap, ap₂, zero-mul, add_comm, suc-mul, mul-le-mul, length-append}
use mathlib.Core.List.{List, [], ◌∷◌, map, flatten}
use Rattle.std.proofs.lemmas.List.{length-map}
use Rattle.algebra.specs.Sums.{count_from, length-count_from}
use Rattle.rules.specs.Limits.{column_count}
use Rattle.rules.specs.Rows.{Row, Relation}
use Rattle.rules.specs.Stores.{Sizes, span}
use Rattle.constant_rows.specs.Constants.{the_columns_of, row_indices, asked}
use Rattle.constant_rows.specs.ListLengths.{largest_index, list_columns}

pub columns-bound : (m N : ℕ) → m ≤ column_count → N ≤ largest_index → the_columns_of m N ≤ list_columns
unfolding the_columns_of
columns-bound m N h k = mul-le-mul (suc-le-suc k) h

-- The equations at N + D + 1 indices, and the relations (SCOPE 14.61).
pub asked-length : (z : Sizes) (N : ℕ) (rows : List Row) (relations : List Relation)
    → length (asked z N rows relations) ≡ suc (N + span z) * length rows + length relations
unfolding asked row_indices
asked-length z N rows relations =
    length-append (flatten (map f ns)) relations ∙ ap (λ k. k + length relations)
    (all-rows ns ∙ ap (λ k. k * length rows)
    (length-map (count_from 0 (suc (N + span z))) (λ k. pos k -ℤ z.l) ∙ length-count_from 0 (suc (N + span z))))
  where
    ns : List ℤ
    ns = map (λ k. pos k -ℤ z.l) (count_from 0 (suc (N + span z)))

    f : ℤ → List Relation
    f n = map (λ r. record { index = n; row = r }) rows

    all-rows : (l : List ℤ) → length (flatten (map f l)) ≡ length l * length rows
    all-rows [] = sym (zero-mul (length rows))
    all-rows (n ∷ l) =
        length-append (f n) (flatten (map f l)) ∙ ap₂ ◌+◌ (length-map rows (λ r. record { index = n; row = r })) (all-rows l)
        ∙ add_comm (length rows) (length l * length rows) ∙ sym (suc-mul (length l) (length rows))
