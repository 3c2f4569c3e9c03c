-- The limits of systems, and the sizes of what holds them in stores.
--
-- Main definitions
--   bound                      C = 268,435,455, which no coefficient and no n0 passes in size (SCOPE 1.4, 1.22)
--   coefficient_count           16 coefficients a polynomial, for degrees up to 15 (SCOPE 1.4)
--   column_count                four columns a block, for the largest m (SCOPE 1.1)
--   most_span, block_count       D = l - t is at most four, so that five blocks a row are enough (SCOPE 1.2)
--   most_equations              a system has six equations or fewer (SCOPE 1.1)
--   polynomial_count            the polynomials of a row's left part
--   block_length, entries_length, row_length, relation_length
--                              the numbers of a block, of a row's left part, of a row, and of a relation (SCOPE 3.2, 3.4)
--   most_relations              the relations of a system are 16 or fewer (SCOPE 1.23)
--   block_bound                 the largest block in size (SCOPE 1.2)
--   small a                    is |a| ≤ C? (SCOPE 1.4)
use Rattle.std.specs.Prelude.{ℕ, suc, ◌+◌, ◌*◌, Bool, leb, ℤ, nat_abs}

abbrev pub bound : ℕ
bound = 268435455

abbrev pub coefficient_count : ℕ
coefficient_count = 16

abbrev pub column_count : ℕ
column_count = 4

-- More than the unknowns may be given, and fewer (SCOPE 1.1).
abbrev pub most_equations : ℕ
most_equations = 6

abbrev pub most_span : ℕ
most_span = 4

abbrev pub block_count : ℕ
block_count = suc most_span

abbrev pub polynomial_count : ℕ
polynomial_count = block_count * column_count

-- A row takes 5 × 4 × 16 = 320 numbers and 16 for its right side, and a relation its n0 and a row (SCOPE 3.2, 3.4).
abbrev pub block_length : ℕ
block_length = column_count * coefficient_count

abbrev pub entries_length : ℕ
entries_length = block_count * block_length

abbrev pub row_length : ℕ
row_length = entries_length + coefficient_count

abbrev pub relation_length : ℕ
relation_length = suc row_length

abbrev pub most_relations : ℕ
most_relations = 16

-- l and t lie from -64 to 64 (SCOPE 1.2).
abbrev pub block_bound : ℕ
block_bound = 64

unfoldable pub small : ℤ → Bool
small a = leb (nat_abs a) bound
