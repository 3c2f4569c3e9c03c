-- A row as the list of its polynomials, the right side last, and what the changes of a row do to that list and to its numbers.
--
-- Main definitions
--   part_count             the polynomials of a row, the right side among them
--   polynomials_of, parts_in   those of a row, and those of the row held by a list of numbers
--
-- Main statements
--   polynomials-row_of     the polynomials of the row held by a list of numbers are its parts of 16
--   zero_row-numbers       a row is zero exactly if its numbers are
--   small_row-row_of        a row's coefficients are within ±C exactly if those of its parts of 16 are
--   is_zero-split          the zero test of the next k numbers and of those after them
--   block-at, zero_block-at, entry_at   the place of a block, its zero test, and the place of a leading entry
--   numbers-map_row        the numbers of a row with f applied to each polynomial
--   polynomials-combine   the polynomials of a combination of two rows
use Rattle.std.specs.Prelude.{◌≡◌, refl, ◌&&◌, ℕ, suc, ◌+◌, ◌*◌, ◌<◌, length, take, drop, get_or, ℤ}
use Rattle.std.proofs.Common.{sym, ◌∙◌, ap, zero-add, le_refl, take-append-drop, take-take, drop-drop, lit<}
use Rattle.std.proofs.Math.Path.{fun_ext}
use mathlib.Core.List.{List, [], ◌∷◌, ◌++◌, map, flatten, zip_with, append-nil, map-append}
use Rattle.std.proofs.lemmas.List.{length-map}
use Rattle.algebra.specs.Polynomials.{Polynomial, is_zero_of, is_zero_ℤ, is_zero-append, add, mul}
use Rattle.rules.specs.Limits.{small, coefficient_count, column_count, block_count, polynomial_count, block_length}
use Rattle.rules.specs.Rows.{Row, zero_block, zero_left, zero_row, leading_block, entry, map_row, combine, small_row, coefficients_of}
use Rattle.lists.specs.Everywhere.{All}
use Rattle.lists.specs.Tests.{every, every-flatten}
use Rattle.lists.specs.Images.{get_or_map, zip_with-append}
use Rattle.rules.specs.Stores.{row_of}
use Rattle.lists.specs.Parts.{parts, parts-parts, parts_more, parts-length, flatten-parts, get_or-parts}
use Rattle.rules.specs.Layout.{polynomial-at-row, block_of, coefficients_at_of, block_at}
use Rattle.lists.specs.Joined.{flatten-append, flatten-map, flatten-zip_with, length-flatten}

abbrev pub part_count : ℕ
part_count = suc polynomial_count

abbrev pub polynomials_of : Row → List Polynomial
polynomials_of r = flatten r.blocks ++ (r.right ∷ [])

abbrev pub parts_in : List ℤ → List Polynomial
parts_in l = parts coefficient_count part_count l

-- The numbers of a row are those of its polynomials.
pub numbers-polynomials : (r : Row) → coefficients_of r ≡ flatten (polynomials_of r)
unfolding coefficients_of flatten
numbers-polynomials r =
    sym (flatten-append (flatten r.blocks) (r.right ∷ []) ∙ ap (λ q. flatten (flatten r.blocks) ++ q) (append-nil r.right))

-- ---- parts of parts

pub polynomials-row_of : (l : List ℤ) → polynomials_of (row_of l) ≡ parts_in l
unfolding row_of
polynomials-row_of l =
    ap (λ ps. ps ++ (coefficients_at_of l polynomial_count ∷ [])) (parts-parts coefficient_count column_count block_count l)
    ∙ sym (parts_more coefficient_count polynomial_count l)

-- ---- tests of all members

pub is_zero-every : (p : Polynomial) → is_zero_of p ≡ every is_zero_ℤ p
unfolding is_zero_of every
is_zero-every [] = refl
is_zero-every (a ∷ p) = ap (λ b. is_zero_ℤ a && b) (is_zero-every p)

pub is_zero-flatten : (ps : List Polynomial) → is_zero_of (flatten ps) ≡ every is_zero_of ps
is_zero-flatten ps =
    is_zero-every (flatten ps) ∙ every-flatten is_zero_ℤ ps ∙ ap (λ t. every t ps) (sym (fun_ext is_zero-every))

-- The next k members, and those after them.
pub is_zero-split : (k i : ℕ) (l : List ℤ) → is_zero_of (drop i l) ≡ (is_zero_of (take k (drop i l)) && is_zero_of (drop (i + k) l))
is_zero-split k i l =
    ap is_zero_of (sym (take-append-drop k (drop i l))) ∙ is_zero-append (take k (drop i l)) (drop k (drop i l))
    ∙ ap (λ q. is_zero_of (take k (drop i l)) && is_zero_of q) (drop-drop k i l)

-- The left part alone.
pub zero_left-numbers : (r : Row) → zero_left r ≡ is_zero_of (flatten (flatten r.blocks))
unfolding zero_left zero_block
zero_left-numbers r = sym (is_zero-flatten (flatten r.blocks) ∙ every-flatten is_zero_of r.blocks)

pub zero_row-numbers : (r : Row) → zero_row r ≡ is_zero_of (coefficients_of r)
unfolding zero_row coefficients_of
zero_row-numbers r =
    ap (λ b. b && is_zero_of r.right) (zero_left-numbers r) ∙ sym (is_zero-append (flatten (flatten r.blocks)) r.right)

pub small_row-row_of : (l : List ℤ) → small_row (row_of l) ≡ every (every small) (parts_in l)
unfolding small_row
small_row-row_of l =
    ap (every small) (numbers-polynomials (row_of l)) ∙ every-flatten small (polynomials_of (row_of l))
    ∙ ap (every (every small)) (polynomials-row_of l)

-- ---- zero tests by places

pub every-parts : (k n : ℕ) (l : List ℤ) → every is_zero_of (parts k n l) ≡ is_zero_of (take (n * k) l)
every-parts k n l = sym (is_zero-flatten (parts k n l)) ∙ ap is_zero_of (flatten-parts k n l)

pub length-blocks : (l : List ℤ) → length (row_of l).blocks ≡ block_count
unfolding row_of
length-blocks l = length-map (parts block_length block_count l) block_of ∙ parts-length block_length block_count l

pub block-at : (l : List ℤ) (b : ℕ) → b < block_count → get_or (row_of l).blocks b [] ≡ block_of (block_at l b)
unfolding row_of
block-at l b h =
    get_or_map block_of (parts block_length block_count l) b [] [] (rw parts-length h) ∙ ap block_of (get_or-parts block_length block_count l b h)

pub zero_block-at : (l : List ℤ) (b : ℕ) → b < block_count → zero_block (get_or (row_of l).blocks b []) ≡ is_zero_of (block_at l b)
unfolding zero_block
zero_block-at l b h =
    let p = block_at l b in
    ap (every is_zero_of) (block-at l b h) ∙ every-parts coefficient_count column_count p
    ∙ ap is_zero_of (take-take block_length block_length (drop (b * block_length) l) (le_refl block_length))

pub entry_at : (l : List ℤ) (c : ℕ) → c < column_count → entry (row_of l) c ≡ coefficients_at_of l c
unfolding entry leading_block
entry_at l c h = polynomial-at-row l 0 c (lit< tt) h ∙ ap (λ n. take coefficient_count (drop n l)) (zero-add (c * coefficient_count))

-- ---- changes of every polynomial

pub polynomials-map_row : (f : Polynomial → Polynomial) (r : Row) → polynomials_of (map_row f r) ≡ map f (polynomials_of r)
unfolding map_row
polynomials-map_row f r =
    ap (λ ps. ps ++ (f r.right ∷ [])) (flatten-map f r.blocks) ∙ sym (map-append f (flatten r.blocks) (r.right ∷ []))

pub numbers-map_row : (f : Polynomial → Polynomial) (r : Row) → coefficients_of (map_row f r) ≡ flatten (map f (polynomials_of r))
numbers-map_row f r = numbers-polynomials (map_row f r) ∙ ap flatten (polynomials-map_row f r)

-- ---- changes of two rows, polynomial by polynomial

-- The polynomials of a combination of two rows of the same numbers of blocks and columns.
pub polynomials-combine : (g h : Polynomial) (c : ℕ) (r q : Row) → length r.blocks ≡ length q.blocks
    → All (λ b. length b ≡ c) r.blocks → All (λ b. length b ≡ c) q.blocks
    → polynomials_of (combine g h r q) ≡ zip_with (λ p e. add (mul g p) (mul h e)) (polynomials_of r) (polynomials_of q)
unfolding combine zip_with
polynomials-combine g h c r q same hr hq =
    ap (λ ps. ps ++ (sum r.right q.right ∷ [])) (flatten-zip_with sum c r.blocks q.blocks hr hq)
    ∙ sym (zip_with-append sum (flatten r.blocks) (r.right ∷ []) (flatten q.blocks) (q.right ∷ []) long)
  where
    sum : Polynomial → Polynomial → Polynomial
    sum p e = add (mul g p) (mul h e)

    long : length (flatten r.blocks) ≡ length (flatten q.blocks)
    long = length-flatten c r.blocks hr ∙ ap (λ n. n * c) same ∙ sym (length-flatten c q.blocks hq)
