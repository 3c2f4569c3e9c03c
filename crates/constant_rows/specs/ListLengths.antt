-- How many numbers the matrix of constant rows and the list of sequences have (SCOPE 14.22, 14.61).
--
-- Main definitions
--   largest_index               the largest N
--   list_columns, most_rows      the numbers of a constant row and of a listed sequence; the most constant rows
--   list_need, matrix_need       the numbers of the list store and of the work matrix
use Rattle.std.specs.Prelude.{ℕ, suc, ◌+◌, ◌*◌}
use Rattle.rules.specs.Limits.{column_count, most_span, most_equations, most_relations}

-- The largest N (SCOPE 14.22).
abbrev pub largest_index : ℕ
largest_index = 15

-- 16 indices of four unknowns (SCOPE 14.61).
abbrev pub list_columns : ℕ
list_columns = suc largest_index * column_count

-- 64 × 64 numbers: there are no more sequences than columns (SCOPE 14.61).
abbrev pub list_need : ℕ
list_need = list_columns * list_columns

-- Six equations at N - t + l + 1 indices, 20 at most, and 16 relations: 136 rows of 64 numbers (SCOPE 14.61).
abbrev pub most_rows : ℕ
most_rows = (suc largest_index + most_span) * most_equations + most_relations

abbrev pub matrix_need : ℕ
matrix_need = most_rows * list_columns
