-- The layout of the stores: what rows and relations are read from them, and what numbers they are written as.
--
-- Main definitions
--   block_of, polynomials_in        the polynomials of a block, and of a row, by their numbers
--   coefficients_at_of, block_at       the numbers of one polynomial, and of one block, of a row
--   StoreRelation                 a relation as a store holds it
--   StoresRight, NumbersRight     the facts behind a check of stores that gives no refusal, and behind its check of numbers
--   SizeBounds, PlaceBounds       the facts behind right sizes, and behind a right place in the row store
--
-- Main statements
--   row_of-coefficients_of, coefficients_of-row_of, rows_of-row_store_of, row_store_of-rows_of
--                                 rows are read as they were written, and written as they were read
--   rows_of-row_store_for            the same of the rows left in a store for more of them
--   relation_of-relation_numbers, relation_numbers-relation_of, relations_of-relation_store_of, relation_store_of-relations_of
--                                 the same for relations, with the unused places
--   stores-valid, valid-stores    stores without a refusal hold a valid system, and each valid system is held by such stores
--   coefficient-at, polynomial-at
--                                 the place of each coefficient, and of each polynomial, in a row store
--   right_side_part-at              the same of the right side of a row
--   polynomial_part-at             the part that a caller gets back is the polynomial of the row, block and column
use Rattle.std.specs.Prelude.{ℕ, suc, pred, ◌+◌, ◌*◌, ◌-◌, ◌≤◌, ◌<◌, ◌≡◌, refl, ◌↔◌, ◌&&◌, cond, T, leb, length, take, drop, get_or, replicate, ℤ, pos, neg_ℤ, nat_abs, ◌-ℤ◌, ◌≤ℤ◌}
use Rattle.std.proofs.Common.{suc-le-suc, le_of_eq, suc-ne-zero, add_assoc, arith, sym, ◌∙◌, ap, ap₂, leb→le, le→leb, length-append, length-take, length-drop, take-append-drop, take-take, take_at, take_all, drop_at, get_or-take, get_or-drop, length-take-le, take-add}
use Rattle.std.proofs.Math.Nat.{suc_inj}
use mathlib.Core.List.{List, [], ◌∷◌, ◌++◌, map, flatten, append_assoc, append-nil}
use Rattle.std.proofs.lemmas.List.{length-replicate}
use Rattle.std.specs.Int.Signed.{le_z_yes}
use Rattle.algebra.specs.Order.{≤ℤ-trans, ≤ℤ-difference, neg_ℤ-≤ℤ, +ℤ-≤ℤ-left, nat_abs-≤-iff}
use Rattle.algebra.specs.Polynomials.{is_zero_of, is_zero-replicate, zero-list}
use Rattle.lists.specs.Tests.{T-&&, cond-zero, cond-passed, every}
use Rattle.lists.specs.Taken.{part-of-part}
use Rattle.lists.specs.Parts.{parts-length, flatten-parts, parts-width, parts-short, parts-flatten, get_or-parts, parts}
use Rattle.lists.specs.Parts.{read-written, length-written, length-read, all_read, write_read}
use Rattle.rules.specs.Limits.{coefficient_count, column_count, block_count, row_length, relation_length, most_relations, block_bound, entries_length}
use Rattle.rules.specs.Limits.{most_span, polynomial_count, block_length, most_equations}
use Rattle.rules.specs.Rows.{Block, Row, Relation, no_row, coefficients_of}
use Rattle.lists.specs.Everywhere.{All}
use Rattle.lists.specs.Images.{get_or_map}
use Rattle.lists.specs.Joined.{flatten-flatten, length-flatten}
use Rattle.rules.specs.Stores.{Sizes, row_of, rows_of, relation_of, relations_of, relation_numbers, row_store_of, relation_store_of}
use Rattle.rules.specs.Stores.{equations, row_store_for}
use Rattle.rules.specs.Stores.{row_need, relation_need, sizes_right_of, count_right, lengths_right_of, row_right_of, relation_right_of, numbers_right_of}
use Rattle.rules.specs.Stores.{check_stores_of, Shaped, StoreRow, Valid}
use Rattle.rules.specs.Calls.{place_right_of, polynomial_check, polynomial_place, part_at, polynomial_part, right_side_check, right_side_part}

-- ---- rows

-- The polynomials of a block, and of a row, that are written end to end.
abbrev pub block_of : List ℤ → Block
block_of = parts coefficient_count column_count

abbrev pub polynomials_in : List ℤ → List (List ℤ)
polynomials_in = parts coefficient_count polynomial_count

-- The numbers of polynomial e, and those of block b.
abbrev pub coefficients_at_of : List ℤ → ℕ → List ℤ
coefficients_at_of l e = take coefficient_count (drop (e * coefficient_count) l)

abbrev pub block_at : List ℤ → ℕ → List ℤ
block_at l b = take block_length (drop (b * block_length) l)

abbrev StoreBlock : Block → Type 0
StoreBlock b = (length b ≡ column_count) × All (λ p. length p ≡ coefficient_count) b

StoreBlock-length : (b : Block) → StoreBlock b → length (flatten b) ≡ block_length
StoreBlock-length b h = length-flatten coefficient_count b h.1 ∙ ap (λ n. n * coefficient_count) h.0

block_of-flatten : (b : Block) → StoreBlock b → block_of (flatten b) ≡ b
block_of-flatten b h =
    ap block_of (sym (append-nil (flatten b))) ∙ parts-flatten coefficient_count column_count b [] h.0 h.1

-- The left part of the row that l holds, laid end to end.
pub entries-row_of : (l : List ℤ) → flatten (flatten (row_of l).blocks) ≡ take entries_length l
unfolding row_of
entries-row_of l =
    flatten-flatten (map block_of (parts block_length block_count l))
    ∙ write_read block_length block_of flatten (λ p. length p ≤ block_length) whole block_count l (parts-short block_length block_count l)
  where
    whole : (p : List ℤ) → length p ≤ block_length → flatten (block_of p) ≡ p
    whole p h = flatten-parts coefficient_count column_count p ∙ take_all block_length p h

pub coefficients_of-row_of : (l : List ℤ) → coefficients_of (row_of l) ≡ take row_length l
unfolding coefficients_of row_of
coefficients_of-row_of l =
    ap (λ p. p ++ take coefficient_count (drop entries_length l)) (entries-row_of l) ∙ sym (take-add entries_length coefficient_count l)

pub coefficients_of-row_of-all : (l : List ℤ) → length l ≡ row_length → coefficients_of (row_of l) ≡ l
coefficients_of-row_of-all l h = coefficients_of-row_of l ∙ take_all row_length l (le_of_eq h)

pub length-entries : (r : Row) → StoreRow r → length (flatten (flatten r.blocks)) ≡ entries_length
unfolding Shaped
length-entries r h =
    ap length (flatten-flatten r.blocks)
    ∙ length-written block_length block_of flatten StoreBlock StoreBlock-length r.blocks h.1
    ∙ ap (λ n. n * block_length) h.0

pub length-coefficients_of : (r : Row) → StoreRow r → length (coefficients_of r) ≡ row_length
unfolding coefficients_of Shaped
length-coefficients_of r h = length-append (flatten (flatten r.blocks)) r.right ∙ ap₂ ◌+◌ (length-entries r h) h.2

pub row_of-coefficients_of : (r : Row) → StoreRow r → row_of (coefficients_of r) ≡ r
unfolding coefficients_of row_of Shaped
row_of-coefficients_of r h = λ i. record { blocks = same i; right = side i }
  where
    same : map block_of (parts block_length block_count (flatten (flatten r.blocks) ++ r.right)) ≡ r.blocks
    same =
        ap (λ l. map block_of (parts block_length block_count (l ++ r.right))) (flatten-flatten r.blocks)
        ∙ read-written block_length block_of flatten StoreBlock block_of-flatten StoreBlock-length block_count r.blocks r.right h.0 h.1

    side : take coefficient_count (drop entries_length (flatten (flatten r.blocks) ++ r.right)) ≡ r.right
    side =
        ap (take coefficient_count) (drop_at (flatten (flatten r.blocks)) r.right entries_length (length-entries r h))
        ∙ take_all coefficient_count r.right (le_of_eq h.2)

pub StoreRow-row_of : (l : List ℤ) → row_length ≤ length l → StoreRow (row_of l)
unfolding row_of Shaped
StoreRow-row_of l h = (
  length-read block_length block_of flatten block_count l,
  all_read block_length block_of flatten StoreBlock shape block_count l (omega arith),
  length-take-le coefficient_count (drop entries_length l) (rw length-drop (omega arith)),
)
  where
    shape : (p : List ℤ) → length p ≡ block_length → StoreBlock (block_of p)
    shape p e = (parts-length coefficient_count column_count p, parts-width coefficient_count column_count p (le_of_eq (sym e)))

pub row_store_of-rows_of : (m : ℕ) (l : List ℤ) → row_store_of (rows_of m l) ≡ take (row_need m) l
unfolding row_store_of rows_of row_need
row_store_of-rows_of m l =
    write_read row_length row_of coefficients_of (λ p. length p ≤ row_length)
    (λ p h. coefficients_of-row_of p ∙ take_all row_length p h) m l (parts-short row_length m l)

pub rows_of-row_store_of : (m : ℕ) (rows : List Row) (rest : List ℤ) → length rows ≡ m → All StoreRow rows
    → rows_of m (row_store_of rows ++ rest) ≡ rows
unfolding row_store_of rows_of
rows_of-row_store_of m rows rest e h =
    read-written row_length row_of coefficients_of StoreRow row_of-coefficients_of length-coefficients_of m rows rest e h

pub length-row_store_of : (rows : List Row) → All StoreRow rows → length (row_store_of rows) ≡ row_need (length rows)
unfolding row_store_of row_need
length-row_store_of rows h = length-written row_length row_of coefficients_of StoreRow length-coefficients_of rows h

pub length-rows_of : (m : ℕ) (l : List ℤ) → length (rows_of m l) ≡ m
unfolding rows_of
length-rows_of m l = length-read row_length row_of coefficients_of m l

pub StoreRow-rows_of : (m : ℕ) (l : List ℤ) → row_need m ≤ length l → All StoreRow (rows_of m l)
unfolding rows_of row_need
StoreRow-rows_of m l h = all_read row_length row_of coefficients_of StoreRow (λ p e. StoreRow-row_of p (le_of_eq (sym e))) m l h

-- ---- rows in a store for more of them

-- What is read there are the rows, whatever follows them.
pub rows_of-row_store_for : (n : ℕ) (rows : List Row) (rest : List ℤ) → All StoreRow rows
    → rows_of (length rows) (row_store_for n rows ++ rest) ≡ rows
unfolding row_store_for
rows_of-row_store_for n rows rest h =
    let freed : List ℤ = replicate ((n - length rows) * row_length) (pos 0) in
    ap (rows_of (length rows)) (append_assoc (row_store_of rows) freed rest) ∙ rows_of-row_store_of (length rows) rows (freed ++ rest) refl h

pub length-row_store_for : (n : ℕ) (rows : List Row) → length rows ≤ n → All StoreRow rows → length (row_store_for n rows) ≡ row_need n
unfolding row_store_for row_need
length-row_store_for n rows few h =
    let freed : List ℤ = replicate ((n - length rows) * row_length) (pos 0) in
    length-append (row_store_of rows) freed
    ∙ ap₂ ◌+◌ (length-row_store_of rows h) (length-replicate ((n - length rows) * row_length) (pos 0))
    ∙ omega arith

-- Where no row is dropped the store holds the rows alone.
pub row_store_for-all : (n : ℕ) (rows : List Row) → length rows ≡ n → row_store_for n rows ≡ row_store_of rows
unfolding row_store_for
row_store_for-all n rows e =
    ap (λ k. row_store_of rows ++ replicate (k * row_length) (pos 0)) none ∙ append-nil (row_store_of rows)
  where
    none : n - length rows ≡ 0
    none = omega (arith, e)

-- ---- relations

-- A relation as a store holds it.
abbrev pub StoreRelation : Relation → Type 0
StoreRelation e = StoreRow e.row

pub relation_of-relation_numbers : (e : Relation) → StoreRelation e → relation_of (relation_numbers e) ≡ e
unfolding relation_of relation_numbers
relation_of-relation_numbers e h = λ i. record { index = e.index; row = row_of-coefficients_of e.row h i }

pub relation_numbers-relation_of : (l : List ℤ) → length l ≡ relation_length → relation_numbers (relation_of l) ≡ l
unfolding relation_of relation_numbers
relation_numbers-relation_of [] h = absurd (suc-ne-zero row_length (sym h))
relation_numbers-relation_of (a ∷ l) h = ap (λ r. a ∷ r) (coefficients_of-row_of-all l (suc_inj h))

pub length-relation_numbers : (e : Relation) → StoreRelation e → length (relation_numbers e) ≡ relation_length
unfolding relation_numbers
length-relation_numbers e h = ap suc (length-coefficients_of e.row h)

-- A relation store is the part that its relations use and the places past them.
abbrev used_part : List Relation → List ℤ
used_part es = flatten (map relation_numbers es)

abbrev unused_part : ℕ → List ℤ
unused_part count = replicate ((most_relations - count) * relation_length) (pos 0)

length-used_part : (es : List Relation) → All StoreRelation es → length (used_part es) ≡ length es * relation_length
length-used_part es h = length-written relation_length relation_of relation_numbers StoreRelation length-relation_numbers es h

pub relations_of-relation_store_of : (es : List Relation) (rest : List ℤ) → All StoreRelation es
    → relations_of (length es) (relation_store_of es ++ rest) ≡ es
unfolding relations_of relation_store_of
relations_of-relation_store_of es rest h =
    let unused = unused_part (length es) in
    ap (λ l. map relation_of (parts relation_length (length es) l)) (append_assoc (used_part es) unused rest)
    ∙ read-written relation_length relation_of relation_numbers StoreRelation relation_of-relation_numbers length-relation_numbers (length es) es
    (unused ++ rest) refl h

pub length-relation_store_of : (es : List Relation) → length es ≤ most_relations → All StoreRelation es
    → length (relation_store_of es) ≡ relation_need
unfolding relation_store_of
length-relation_store_of es few h =
    length-append (used_part es) (unused_part (length es))
    ∙ ap₂ ◌+◌ (length-used_part es h) (length-replicate ((most_relations - length es) * relation_length) (pos 0))
    ∙ omega arith

-- The places past the count.
unused-places : (es : List Relation) → All StoreRelation es
    → drop (length es * relation_length) (relation_store_of es) ≡ unused_part (length es)
unfolding relation_store_of
unused-places es h = drop_at (used_part es) (unused_part (length es)) (length es * relation_length) (length-used_part es h)

pub length-relations_of : (count : ℕ) (l : List ℤ) → length (relations_of count l) ≡ count
unfolding relations_of
length-relations_of count l = length-read relation_length relation_of relation_numbers count l

pub StoreRelation-relations_of : (count : ℕ) (l : List ℤ) → count * relation_length ≤ length l → All StoreRelation (relations_of count l)
unfolding relations_of relation_of
StoreRelation-relations_of count l h = all_read relation_length relation_of relation_numbers StoreRelation shape count l h
  where
    shape : (p : List ℤ) → length p ≡ relation_length → StoreRow (row_of (drop 1 p))
    shape p e = StoreRow-row_of (drop 1 p) (rw length-drop (omega arith))

pub relation_store_of-relations_of : (count : ℕ) (l : List ℤ) → count ≤ most_relations → relation_need ≤ length l
    → T (is_zero_of (drop (count * relation_length) (take relation_need l))) → relation_store_of (relations_of count l) ≡ take relation_need l
unfolding relations_of relation_store_of
relation_store_of-relations_of count l few long zeros =
    ap₂ (λ r n. r ++ unused_part n) used (length-relations_of count l)
    ∙ ap (λ r. take (count * relation_length) (take relation_need l) ++ r) unused
    ∙ take-append-drop (count * relation_length) (take relation_need l)
  where
    used : used_part (map relation_of (parts relation_length count l)) ≡ take (count * relation_length) (take relation_need l)
    used =
        write_read relation_length relation_of relation_numbers (λ p. length p ≡ relation_length) relation_numbers-relation_of count l
        (parts-width relation_length count l (omega arith))
        ∙ sym (take-take (count * relation_length) relation_need l (omega arith))

    size : length (drop (count * relation_length) (take relation_need l)) ≡ (most_relations - count) * relation_length
    size = rw (length-drop, length-take) (omega arith)

    unused : unused_part count ≡ drop (count * relation_length) (take relation_need l)
    unused = sym (zero-list (drop (count * relation_length) (take relation_need l)) zeros ∙ ap (λ n. replicate n (pos 0)) size)

-- ---- the checks

-- Sizes and count first, then lengths, then numbers.
pub check_stores-order : (z : Sizes) (count : ℕ) (row_store relation_store : List ℤ)
    → check_stores_of z count row_store relation_store
    ≡ cond (sizes_right_of z && count_right count)
    (cond (lengths_right_of (equations z) row_store relation_store) (cond (numbers_right_of z count row_store relation_store) 0 5) 1) 2
unfolding check_stores_of
check_stores-order z count row_store relation_store = refl

-- Stores that the checks let through.
pub record StoresRight (z : Sizes) (count : ℕ) (row_store relation_store : List ℤ) : Type 0 where
  pub sizes : T (sizes_right_of z)
  pub few : T (count_right count)
  pub lengths : T (lengths_right_of (equations z) row_store relation_store)
  pub numbers : T (numbers_right_of z count row_store relation_store)

pub check_stores-zero : (z : Sizes) (count : ℕ) (row_store relation_store : List ℤ)
    → (check_stores_of z count row_store relation_store ≡ 0) ↔ StoresRight z count row_store relation_store
check_stores-zero z count row_store relation_store = (forth, back)
  where
    forth : check_stores_of z count row_store relation_store ≡ 0 → StoresRight z count row_store relation_store
    forth e =
        let first = cond-zero (sizes_right_of z && count_right count) _ 1 (sym (check_stores-order z count row_store relation_store) ∙ e) in
        let second = cond-zero (lengths_right_of (equations z) row_store relation_store) _ 0 first.1 in
        let third = cond-zero (numbers_right_of z count row_store relation_store) 0 4 second.1 in
        let start = (T-&& (sizes_right_of z) (count_right count)).0 first.0 in
        record { sizes = start.0; few = start.1; lengths = second.0; numbers = third.0 }

    back : StoresRight z count row_store relation_store → check_stores_of z count row_store relation_store ≡ 0
    back h =
        check_stores-order z count row_store relation_store
        ∙ cond-passed (sizes_right_of z && count_right count) _ 2 ((T-&& (sizes_right_of z) (count_right count)).1 (h.sizes, h.few))
        ∙ cond-passed (lengths_right_of (equations z) row_store relation_store) _ 1 h.lengths
        ∙ cond-passed (numbers_right_of z count row_store relation_store) 0 5 h.numbers

pub lengths_right-iff : (m : ℕ) (row_store relation_store : List ℤ)
    → T (lengths_right_of m row_store relation_store) ↔ ((row_need m ≤ length row_store) × (relation_need ≤ length relation_store))
unfolding lengths_right_of
lengths_right-iff m row_store relation_store = (
  λ h. let e = simp T-&& at h in (leb→le _ _ e.0, leb→le _ _ e.1),
  λ h. simp T-&& (le→leb _ _ h.0, le→leb _ _ h.1),
)

pub count_right-iff : (count : ℕ) → T (count_right count) ↔ (count ≤ most_relations)
unfolding count_right
count_right-iff count = (leb→le count most_relations, le→leb count most_relations)

-- Numbers that the checks let through.
pub record NumbersRight (z : Sizes) (count : ℕ) (row_store relation_store : List ℤ) : Type 0 where
  pub rows_right : T (every (row_right_of z) (rows_of (equations z) row_store))
  pub relations-right : T (every (relation_right_of z) (relations_of count relation_store))
  pub unused-zero : T (is_zero_of (drop (count * relation_length) (take relation_need relation_store)))

pub numbers_right-iff : (z : Sizes) (count : ℕ) (row_store relation_store : List ℤ)
    → T (numbers_right_of z count row_store relation_store) ↔ NumbersRight z count row_store relation_store
unfolding numbers_right_of
numbers_right-iff z count row_store relation_store = (
  λ h. let e = simp T-&& at h in record { rows_right = e.0.0; relations-right = e.0.1; unused-zero = e.1 },
  λ h. simp T-&& ((h.rows_right, h.relations-right), h.unused-zero),
)

pub stores-valid : (z : Sizes) (count : ℕ) (row_store relation_store : List ℤ)
    → check_stores_of z count row_store relation_store ≡ 0 → Valid z (rows_of (equations z) row_store) (relations_of count relation_store)
stores-valid z count row_store relation_store e =
    record {
      sizes = h.sizes;
      row_count = length-rows_of (equations z) row_store;
      row-shapes = StoreRow-rows_of (equations z) row_store long.0;
      rows_right = n.rows_right;
      relation-count = rw length-relations_of h.few;
      relation-shapes = StoreRelation-relations_of count relation_store fits;
      relations-right = n.relations-right;
    }
  where
    h : StoresRight z count row_store relation_store
    h = (check_stores-zero z count row_store relation_store).0 e

    long : (row_need (equations z) ≤ length row_store) × (relation_need ≤ length relation_store)
    long = (lengths_right-iff (equations z) row_store relation_store).0 h.lengths

    n : NumbersRight z count row_store relation_store
    n = (numbers_right-iff z count row_store relation_store).0 h.numbers

    fits : count * relation_length ≤ length relation_store
    fits = omega (arith, (count_right-iff count).0 h.few, long.1)

-- The unused places of a store that holds relations, whatever follows its needed part.
unused-relation_store_of : (es : List Relation) (rest : List ℤ) → length es ≤ most_relations → All StoreRelation es
    → T (is_zero_of (drop (length es * relation_length) (take relation_need (relation_store_of es ++ rest))))
unused-relation_store_of es rest few h =
    rw (take_at (relation_store_of es) rest relation_need (length-relation_store_of es few h), unused-places es h)
    (is_zero-replicate ((most_relations - length es) * relation_length))

-- Conversely, every valid system is what such stores hold, and the numbers past the needed parts are free.
pub valid-stores : (z : Sizes) (rows : List Row) (relations : List Relation) (rest others : List ℤ) → Valid z rows relations
    → check_stores_of z (length relations) (row_store_of rows ++ rest) (relation_store_of relations ++ others) ≡ 0
valid-stores z rows relations rest others v =
    (check_stores-zero z (length relations) (row_store_of rows ++ rest) (relation_store_of relations ++ others)).1
    (record {
      sizes = v.sizes;
      few = v.relation-count;
      lengths = (lengths_right-iff (equations z) (row_store_of rows ++ rest) (relation_store_of relations ++ others)).1 long;
      numbers = (numbers_right-iff z (length relations) (row_store_of rows ++ rest) (relation_store_of relations ++ others)).1 right;
    })
  where
    few : length relations ≤ most_relations
    few = (count_right-iff (length relations)).0 v.relation-count

    long : (row_need (equations z) ≤ length (row_store_of rows ++ rest)) × (relation_need ≤ length (relation_store_of relations ++ others))
    long =
        simp length-append
        (rw (length-row_store_of rows v.row-shapes, length-relation_store_of relations few v.relation-shapes, v.row_count) (omega arith))

    right : NumbersRight z (length relations) (row_store_of rows ++ rest) (relation_store_of relations ++ others)
    right =
        record {
          rows_right = rw (rows_of-row_store_of (equations z) rows rest v.row_count v.row-shapes) v.rows_right;
          relations-right = rw (relations_of-relation_store_of relations others v.relation-shapes) v.relations-right;
          unused-zero = unused-relation_store_of relations others few v.relation-shapes;
        }

pub valid-stores-exact : (z : Sizes) (rows : List Row) (relations : List Relation) → Valid z rows relations
    → check_stores_of z (length relations) (row_store_of rows) (relation_store_of relations) ≡ 0
valid-stores-exact z rows relations v =
    ap₂ (check_stores_of z (length relations)) (sym (append-nil (row_store_of rows))) (sym (append-nil (relation_store_of relations)))
    ∙ valid-stores z rows relations [] [] v

-- ---- one polynomial

pub row-at : (m : ℕ) (l : List ℤ) (i : ℕ) → i < m → get_or (rows_of m l) i no_row ≡ row_of (take row_length (drop (i * row_length) l))
unfolding rows_of
row-at m l i h =
    get_or_map row_of (parts row_length m l) i [] no_row (rw parts-length h) ∙ ap row_of (get_or-parts row_length m l i h)

pub polynomial-at-row : (l : List ℤ) (b c : ℕ) → b < block_count → c < column_count
    → get_or (get_or (row_of l).blocks b []) c [] ≡ take coefficient_count (drop (b * block_length + c * coefficient_count) l)
unfolding row_of
polynomial-at-row l b c hb hc =
    ap (λ block. get_or block c [])
    (get_or_map block_of (parts block_length block_count l) b [] [] (rw parts-length hb) ∙ ap block_of (get_or-parts block_length block_count l b hb))
    ∙ get_or-parts coefficient_count column_count (take block_length (drop (b * block_length) l)) c hc
    ∙ part-of-part (b * block_length) (c * coefficient_count) coefficient_count block_length l (omega arith)

pub polynomial-at : (m : ℕ) (l : List ℤ) (i b c : ℕ) → i < m → b < block_count → c < column_count
    → get_or (get_or (get_or (rows_of m l) i no_row).blocks b []) c []
    ≡ take coefficient_count (drop (i * row_length + b * block_length + c * coefficient_count) l)
polynomial-at m l i b c hi hb hc =
    ap (λ r. get_or (get_or r.blocks b []) c []) (row-at m l i hi)
    ∙ polynomial-at-row (take row_length (drop (i * row_length) l)) b c hb hc
    ∙ part-of-part (i * row_length) (b * block_length + c * coefficient_count) coefficient_count row_length l (omega arith)
    ∙ ap (λ j. take coefficient_count (drop j l)) (sym (add_assoc (i * row_length) (b * block_length) (c * coefficient_count)))

pub coefficient-at : (m : ℕ) (l : List ℤ) (i b c k : ℕ) → i < m → b < block_count → c < column_count → k < coefficient_count
    → get_or (get_or (get_or (get_or (rows_of m l) i no_row).blocks b []) c []) k (pos 0)
    ≡ get_or l (i * row_length + b * block_length + c * coefficient_count + k) (pos 0)
coefficient-at m l i b c k hi hb hc hk =
    ap (λ p. get_or p k (pos 0)) (polynomial-at m l i b c hi hb hc)
    ∙ get_or-take coefficient_count (drop place l) k (pos 0) hk
    ∙ get_or-drop place l k (pos 0)
  where
    place : ℕ
    place = i * row_length + b * block_length + c * coefficient_count

-- ---- the part of a row store that holds one polynomial

-- The sizes of a system, as facts.
pub record SizeBounds (z : Sizes) : Type 0 where
  pub some : 1 ≤ z.m
  pub few : z.m ≤ column_count
  pub few-equations : equations z ≤ most_equations
  pub low : neg_ℤ (pos block_bound) ≤ℤ z.t
  pub ordered : z.t ≤ℤ z.l
  pub high : z.l ≤ℤ pos block_bound
  pub narrow : (z.l -ℤ z.t) ≤ℤ pos most_span

pub size-bounds : (z : Sizes) → T (sizes_right_of z) → SizeBounds z
unfolding sizes_right_of
size-bounds z h =
    let e = simp T-&& at h in
    record {
      some = leb→le _ _ e.0.0.0;
      few = leb→le _ _ e.0.0.1;
      few-equations = leb→le _ _ e.0.1;
      low = le_z_yes e.1.0.0.0;
      ordered = le_z_yes e.1.0.0.1;
      high = le_z_yes e.1.0.1;
      narrow = le_z_yes e.1.1;
    }

pub bounds-right : (z : Sizes) → SizeBounds z → T (sizes_right_of z)
unfolding sizes_right_of
bounds-right z b =
    simp T-&&
    (((le→leb _ _ b.some, le→leb _ _ b.few), le→leb _ _ b.few-equations), (((b.low.le, b.ordered.le), b.high.le), b.narrow.le))

-- A place inside a system, as facts.
pub record PlaceBounds (z : Sizes) (row : ℕ) (block : ℤ) (column : ℕ) : Type 0 where
  pub row_low : 1 ≤ row
  pub row-high : row ≤ equations z
  pub block-low : z.t ≤ℤ block
  pub block-high : block ≤ℤ z.l
  pub column-low : 1 ≤ column
  pub column-high : column ≤ z.m

pub place-bounds : (z : Sizes) (row : ℕ) (block : ℤ) (column : ℕ) → T (place_right_of z row block column) → PlaceBounds z row block column
unfolding place_right_of
place-bounds z row block column h =
    let e = simp T-&& at h in
    record {
      row_low = leb→le _ _ e.0.0.0;
      row-high = leb→le _ _ e.0.0.1;
      block-low = le_z_yes e.0.1.0;
      block-high = le_z_yes e.0.1.1;
      column-low = leb→le _ _ e.1.0;
      column-high = leb→le _ _ e.1.1;
    }

-- A block of the system is one of the first five of a row.
pub block-place : (z : Sizes) (block : ℤ) → SizeBounds z → z.t ≤ℤ block → block ≤ℤ z.l → nat_abs (z.l -ℤ block) < block_count
block-place z block s low high =
    suc-le-suc
    ((nat_abs-≤-iff (z.l -ℤ block)).1
    (≤ℤ-trans (le_z_yes tt) (≤ℤ-difference.0 high), ≤ℤ-trans (+ℤ-≤ℤ-left z.l (neg_ℤ-≤ℤ.0 low)) s.narrow))

pub polynomial_check-zero : (row_store : List ℤ) (z : Sizes) (row : ℕ) (block : ℤ) (column : ℕ)
    → (polynomial_check row_store z row block column ≡ 0)
    ↔ (T (sizes_right_of z) × T (place_right_of z row block column) × (row_need (equations z) ≤ length row_store))
unfolding polynomial_check
polynomial_check-zero row_store z row block column = (forth, back)
  where
    forth : polynomial_check row_store z row block column ≡ 0
        → T (sizes_right_of z) × T (place_right_of z row block column) × (row_need (equations z) ≤ length row_store)
    forth e =
        let first = cond-zero (sizes_right_of z && place_right_of z row block column) _ 1 e in
        let second = cond-zero (leb (row_need (equations z)) (length row_store)) 0 0 first.1 in
        let start = (T-&& (sizes_right_of z) (place_right_of z row block column)).0 first.0 in
        (start.0, start.1, leb→le _ _ second.0)

    back : T (sizes_right_of z) × T (place_right_of z row block column) × (row_need (equations z) ≤ length row_store)
        → polynomial_check row_store z row block column ≡ 0
    back h =
        cond-passed (sizes_right_of z && place_right_of z row block column) _ 2
        ((T-&& (sizes_right_of z) (place_right_of z row block column)).1 (h.0, h.1))
        ∙ cond-passed (leb (row_need (equations z)) (length row_store)) 0 1 (le→leb _ _ h.2)

pub polynomial_part-at : (row_store : List ℤ) (z : Sizes) (row : ℕ) (block : ℤ) (column : ℕ)
    → polynomial_check row_store z row block column ≡ 0
    → polynomial_part row_store z row block column
    ≡ get_or (get_or (get_or (rows_of (equations z) row_store) (pred row) no_row).blocks (nat_abs (z.l -ℤ block)) []) (pred column) []
unfolding polynomial_part
polynomial_part-at row_store z row block column e =
    let passed = (polynomial_check-zero row_store z row block column).0 e in
    let sizes = size-bounds z passed.0 in
    let place = place-bounds z row block column passed.1 in
    ap (part_at row_store (polynomial_place z row block column)) e
    ∙ sym (polynomial-at (equations z) row_store (pred row) (nat_abs (z.l -ℤ block)) (pred column) (omega arith)
    (block-place z block sizes place.block-low place.block-high) (omega arith))

-- ---- the part of a row store that holds one right side

pub right_side_check-zero : (row_store : List ℤ) (z : Sizes) (row : ℕ)
    → (right_side_check row_store z row ≡ 0) ↔ (T (sizes_right_of z) × ((1 ≤ row) × (row ≤ equations z)) × (row_need (equations z) ≤ length row_store))
unfolding right_side_check
right_side_check-zero row_store z row = (forth, back)
  where
    forth : right_side_check row_store z row ≡ 0
        → T (sizes_right_of z) × ((1 ≤ row) × (row ≤ equations z)) × (row_need (equations z) ≤ length row_store)
    forth e =
        let first = cond-zero (sizes_right_of z && (leb 1 row && leb row (equations z))) _ 1 e in
        let second = cond-zero (leb (row_need (equations z)) (length row_store)) 0 0 first.1 in
        let start = (T-&& (sizes_right_of z) (leb 1 row && leb row (equations z))).0 first.0 in
        let inside = (T-&& (leb 1 row) (leb row (equations z))).0 start.1 in
        (start.0, (leb→le _ _ inside.0, leb→le _ _ inside.1), leb→le _ _ second.0)

    back : T (sizes_right_of z) × ((1 ≤ row) × (row ≤ equations z)) × (row_need (equations z) ≤ length row_store)
        → right_side_check row_store z row ≡ 0
    back h =
        cond-passed (sizes_right_of z && (leb 1 row && leb row (equations z))) _ 2
        ((T-&& (sizes_right_of z) (leb 1 row && leb row (equations z))).1
        (h.0, (T-&& (leb 1 row) (leb row (equations z))).1 (le→leb _ _ h.1.0, le→leb _ _ h.1.1)))
        ∙ cond-passed (leb (row_need (equations z)) (length row_store)) 0 1 (le→leb _ _ h.2)

pub right_side_part-at : (row_store : List ℤ) (z : Sizes) (row : ℕ) → right_side_check row_store z row ≡ 0
    → right_side_part row_store z row ≡ (get_or (rows_of (equations z) row_store) (pred row) no_row).right
unfolding right_side_part part_at row_of
right_side_part-at row_store z row e =
    let passed = (right_side_check-zero row_store z row).0 e in
    ap (part_at row_store (pred row * row_length + entries_length)) e
    ∙ sym (ap (λ r. r.right) (row-at (equations z) row_store (pred row) (omega (arith, passed.1.0, passed.1.1)))
    ∙ part-of-part (pred row * row_length) entries_length coefficient_count row_length row_store (omega arith))
