-- How many bytes each part of a sheet takes at most, and how far below 2 ^ 64 the place has to be at which it is written.
--
-- Main definitions
--   term_bytes, block_bytes, terms_bytes   one term, the terms of a block, and those of a row, with a space before each number
--   equation_bytes, relation_bytes        the line of an equation, and that of a relation
--   sizes_bytes, order_bytes, side_bytes   the line of the sizes, that of the order, and that of a right side
--   sides_bytes equations count   the fifth section, for so many equations and relations
--   sheet_bytes written equations count   a sheet of so many equations and relations, whose lines take so many bytes
--   sizes_room, term_room, block_room, terms_room, equation_room, relation_room, side_room   the same parts, with that room
use Rattle.std.specs.Prelude.{ℕ, ◌+◌, ◌*◌}
use Rattle.number_texts.specs.TextBytes.{number_bytes, count_bytes, number_room}
use Rattle.rules.specs.Limits.{coefficient_count, column_count, block_count}

-- the block, the column, the number of coefficients, and these
abbrev pub term_bytes : ℕ
term_bytes = number_bytes + count_bytes + count_bytes + number_bytes * coefficient_count

abbrev pub block_bytes : ℕ
block_bytes = column_count * term_bytes

abbrev pub terms_bytes : ℕ
terms_bytes = block_count * block_bytes

-- the number of terms, the terms and a newline
abbrev pub equation_bytes : ℕ
equation_bytes = count_bytes + terms_bytes

-- n0, a space and an equation
abbrev pub relation_bytes : ℕ
relation_bytes = number_bytes + equation_bytes

-- the form's digit, m, l, t and a newline
abbrev pub sizes_bytes : ℕ
sizes_bytes = 1 + count_bytes + number_bytes + number_bytes + 1

-- the number of columns, at most four columns and a newline
abbrev pub order_bytes : ℕ
order_bytes = count_bytes + count_bytes * column_count

-- the number of coefficients, at most 16 of them and a newline
abbrev pub side_bytes : ℕ
side_bytes = count_bytes + number_bytes * coefficient_count

-- the number of the right sides, and those of the equations and of the relations
abbrev pub sides_bytes : ℕ → ℕ → ℕ
sides_bytes equations count = count_bytes + (equations * side_bytes + count * side_bytes)

-- the sizes, the number of equations and the equations, the number of relations and the relations, the order, and the right sides
abbrev pub sheet_bytes : ℕ → ℕ → ℕ → ℕ
sheet_bytes written equations count = sizes_bytes + count_bytes + count_bytes + order_bytes + written + sides_bytes equations count

abbrev pub sizes_room : ℕ
sizes_room = 1 + count_bytes + number_room + number_room + 1

abbrev pub term_room : ℕ
term_room = number_room + count_bytes + count_bytes + number_room * coefficient_count

abbrev pub block_room : ℕ
block_room = column_count * term_room

abbrev pub terms_room : ℕ
terms_room = block_count * block_room

abbrev pub equation_room : ℕ
equation_room = count_bytes + terms_room

abbrev pub relation_room : ℕ
relation_room = number_room + equation_room

abbrev pub side_room : ℕ
side_room = count_bytes + number_room * coefficient_count
