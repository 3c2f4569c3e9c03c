-- Rows of a system: the two sides of an equation, the left one relative to block l (SCOPE 1.3).
--
-- Main definitions
--   Row, Relation         a list of blocks, block l first, each a list of polynomials, one a column, and the right side; a row
--                         with its n0
--   coefficients_of r      its polynomials laid end to end, the right side last, as in a store
--   zero_left, zero_row, contradicts   the left part is zero; both parts are; only the left one is
--   width r               the number of blocks down to the lowest nonzero one
--   entry r c             the leading entry at column c (columns are counted from 0 here)
--   first_nonzero ps       the place of the first nonzero polynomial of a list
--   combine g h r q       g × r + h × q
--   primitive r           r divided by the content of all its coefficients
--   shift_up r             every block moved up by one and n + 1 for n
--   mirror_row_of D r         block -s for s and -n for n, D + 1 blocks being in use
use Rattle.std.specs.Prelude.{ℕ, zero, suc, Bool, ◌&&◌, not, cond, eqb, take, drop, get_or, ℤ, pos, neg_ℤ}
use mathlib.Core.List.{List, [], ◌∷◌, ◌++◌, map, reverse, tail, flatten, zip_with}
use Rattle.std.proofs.Math.Option
use Rattle.std.proofs.Math.Option.{Option, none, some}
use Rattle.algebra.specs.Gcd.{content, divide_by}
use Rattle.algebra.specs.Polynomials.{Polynomial, is_zero_of, add, mul, shift, mirror}
use Rattle.lists.specs.Tests.{every}
use Rattle.rules.specs.Limits.{coefficient_count, small}

abbrev pub Block : Type 0
Block = List Polynomial

-- The blocks make the left part; the sum that they make at n is to be the value of the right side there.
pub record Row : Type 0 where
  pub blocks : List Block
  pub right : Polynomial

-- An equation that is asked for at n = n0 and nowhere else (SCOPE 1.21).
pub record Relation : Type 0 where
  pub index : ℤ
  pub row : Row

abbrev pub no_row : Row
no_row = record { blocks = []; right = [] }

-- The row with f applied to each of its polynomials.
unfoldable pub map_row : (Polynomial → Polynomial) → Row → Row
map_row f r = record { blocks = map (map f) r.blocks; right = f r.right }

unfoldable pub coefficients_of : Row → List ℤ
unfolding flatten
coefficients_of r = flatten (flatten r.blocks) ++ r.right

unfoldable pub zero_block : Block → Bool
unfolding every is_zero_of
zero_block b = every is_zero_of b

unfoldable pub zero_left : Row → Bool
unfolding every zero_block
zero_left r = every zero_block r.blocks

-- Both parts are zero (SCOPE 2.11).
unfoldable pub zero_row : Row → Bool
unfolding zero_left is_zero_of
zero_row r = zero_left r && is_zero_of r.right

-- The left part is zero and the right side is not: no sequence satisfies it (SCOPE 2.12).
unfoldable pub contradicts : Row → Bool
unfolding zero_left is_zero_of
contradicts r = zero_left r && not (is_zero_of r.right)

-- The blocks from l down to the lowest nonzero one are counted; there is none where the left part is zero,
-- and the right side does not count (SCOPE 2.1).
unfoldable pub width_of : List Block → ℕ
unfolding zero_block
width_of [] = 0
width_of (b ∷ bs) = cond (eqb (width_of bs) 0 && zero_block b) 0 (suc (width_of bs))

unfoldable pub width : Row → ℕ
unfolding width_of
width r = width_of r.blocks

-- The leading block is block l, the first.
unfoldable pub leading_block : Row → Block
leading_block r = get_or r.blocks 0 []

unfoldable pub entry : Row → ℕ → Polynomial
unfolding leading_block
entry r c = get_or (leading_block r) c []

unfoldable pub first_nonzero : List Polynomial → Option ℕ
unfolding is_zero_of
first_nonzero [] = none
first_nonzero (p ∷ ps) = cond (is_zero_of p) (Option.map suc (first_nonzero ps)) (some 0)

-- Block by block and column by column, and the right side like an entry (SCOPE 2.41).
unfoldable pub combine : Polynomial → Polynomial → Row → Row → Row
unfolding zip_with add mul
combine g h r q =
    record {
      blocks = zip_with (zip_with (λ p e. add (mul g p) (mul h e))) r.blocks q.blocks;
      right = add (mul g r.right) (mul h q.right);
    }

-- Divided by the largest number that divides all coefficients; a zero row stays (SCOPE 2.42).
unfoldable pub primitive : Row → Row
unfolding content divide_by coefficients_of map_row
primitive r = elim (content (coefficients_of r)) [ zero ↦ r | suc d ↦ map_row (divide_by (suc d)) r ]

-- Has every polynomial degree at most 15? (SCOPE 1.4, 2.43)
unfoldable pub low_degrees : Row → Bool
unfolding every is_zero_of
low_degrees r =
    every (every (λ p. is_zero_of (drop coefficient_count p))) r.blocks && is_zero_of (drop coefficient_count r.right)

-- The row with 16 coefficients a polynomial: no more where the degrees are at most 15.
unfoldable pub cut : Row → Row
unfolding map_row
cut r = map_row (take coefficient_count) r

-- Is every coefficient within ±C? (SCOPE 1.4, 2.44)
unfoldable pub small_row : Row → Bool
unfolding every small coefficients_of
small_row r = every small (coefficients_of r)

-- A block of the same columns and coefficients, all zero.
unfoldable pub blank : Block → Block
blank b = map (map (λ _. pos 0)) b

-- The blocks move up and n + 1 is put for n; the leading block is lost, a zero block comes in below; the right
-- side stays where it is (SCOPE 2.61).
unfoldable pub shift_up : Row → Row
unfolding map_row shift blank leading_block
shift_up r = map_row shift (record { blocks = tail r.blocks ++ (blank (leading_block r) ∷ []); right = r.right })

-- Block -s for s and -n for n: the D + 1 blocks in use change places, first with last (SCOPE 2.91).
unfoldable pub mirror_row_of : ℕ → Row → Row
unfolding map_row mirror
mirror_row_of D r =
    map_row mirror (record { blocks = reverse (take (suc D) r.blocks) ++ drop (suc D) r.blocks; right = r.right })

-- The mirrored row, at -n0 (SCOPE 2.91).
unfoldable pub mirror_relation : ℕ → Relation → Relation
unfolding mirror_row_of
mirror_relation D e = record { index = neg_ℤ e.index; row = mirror_row_of D e.row }
