-- The root report over the rows of a store: the furthest of the furthest roots of the diagonal polynomials, and how often it occurs.
--
-- Main definitions
--   settled_state settled l cs    a state of so many rows of the store l, settled at the columns cs
--   reported_with side D s        the root report, and how often its root occurs in the diagonal polynomials
--
-- Main statements
--   answer-found, answer-root, answer-times   what an answer says in three numbers
--   diagonal-settled, report-settled   the diagonal and the report depend on the rows and on their columns alone
--   report-next, report-all   the report over one row more, and over all rows
use Rattle.std.specs.Prelude.{ℕ, ◌+◌, ◌*◌, ◌-◌, ◌≤◌, ◌<◌, ◌≡◌, refl, not, ℤ, length, take, drop}
use Rattle.std.proofs.Common.{suc-le-suc, add-one, sym, ◌∙◌, lit<, take-suc, take_all, length-take-le, get_or-take}
use native.Mathlib.Omega.{arith}
use Rattle.std.proofs.Math.Path.{ap, ap₂, subst}
use mathlib.Core.List.{List, [], zip_with}
use Rattle.std.proofs.Math.Option.{Option, none, some}
use Rattle.std.specs.Prelude as Prelude
use Rattle.std.specs.Prelude.{is_some, unwrap_or}
use Rattle.std.proofs.Math.Dec.{T}
use Rattle.std.proofs.Math.ListN.{get_or}
use Rattle.algebra.specs.Polynomials.{Polynomial, is_zero_of}
use Rattle.algebra.specs.Roots.{roots}
use Rattle.lists.specs.Everywhere.{all_get_or, all_take}
use Rattle.lists.specs.Tests.{every}
use Rattle.rules.specs.Elimination.{Side, leading, trailing, State, diagonal, diagonal_place, furthest, report, occurrences, reported_times}
use Rattle.rules.specs.Limits.{coefficient_count, column_count, most_span, block_count, block_length, row_length, small}
use Rattle.rules.specs.Rows.{no_row}
use Rattle.rules.specs.Stores.{rows_of, row_need}
use Rattle.lists.specs.Images.{length-zip_with, get_or-zip_with}
use Rattle.rules.specs.Layout.{length-rows_of, polynomial-at}
use Rattle.rules.specs.Calls.{root_found, root_value}
use Rattle.multiplicities.specs.declared.Root.{Root}
use Rattle.multiplicities.specs.Counts.{no_root, answered_with}
use Rattle.stores.specs.Flat.{part_count}
use Rattle.working_rows.specs.Found.{Columns, Columns-at}
use Rattle.sides.specs.Lent.{Within}
use Rattle.sides.specs.StoreStates.{part_small}
use Rattle.sides.specs.FurthestRoots.{Nonzero, roots_of, times_in, answer, furthest_with_of, further_with, further-one-more}

-- ---- the diagonal polynomials in the store

abbrev pub settled_state : ℕ → List ℤ → List ℕ → State
settled_state settled store order = record { rows = rows_of settled store; relations = []; order = take settled order; shifts = 0 }

abbrev pub reported_with : Side → ℕ → State → Prelude.Option Root
reported_with side D s = answer (report side D s) (reported_times side D s (report side D s))

-- What an answer says in three numbers: whether there is a root, which and how often; zeros where there is none.
pub answer-found : (o : Option ℤ) (n : ℕ) → is_some (answer o n) ≡ root_found o
unfolding root_found
answer-found none n = refl
answer-found (some r) n = refl

pub answer-root : (o : Option ℤ) (n : ℕ) → (unwrap_or (answer o n) no_root).value ≡ root_value o
unfolding root_value
answer-root none n = refl
answer-root (some r) n = refl

pub answer-times : (side : Side) (D : ℕ) (s : State) (o : Option ℤ)
    → (unwrap_or (answer o (reported_times side D s o)) no_root).times ≡ reported_times side D s o
unfolding reported_times
answer-times side D s none = refl
answer-times side D s (some r) = refl

-- It is the furthest root of the diagonal polynomials with its times.
reported-with : (side : Side) (D : ℕ) (s : State) → furthest_with_of side (diagonal side D s) ≡ reported_with side D s
unfolding report reported_times occurrences times_in
reported-with side D s = same (furthest side (roots_of (diagonal side D s)))
  where
    same : (o : Option ℤ) → answer o (times_in (diagonal side D s) o) ≡ answer o (reported_times side D s o)
    same none = refl
    same (some r) = refl

module _ (side : Side) (D settled : ℕ) (store : List ℤ) (order : List ℕ) (s : State) (e : s.rows ≡ rows_of settled store)
    (f : s.order ≡ take settled order) where
  pub diagonal-settled : diagonal side D s ≡ diagonal side D (settled_state settled store order)
  unfolding diagonal
  diagonal-settled = ap₂ (zip_with (λ r c. get_or (get_or r.blocks (diagonal_place side D) []) c [])) e f

  pub report-settled : reported_with side D s ≡ reported_with side D (settled_state settled store order)
  report-settled =
      sym (reported-with side D s) ∙ ap (furthest_with_of side) diagonal-settled ∙ reported-with side D (settled_state settled store order)

-- Where the sixteen numbers of diagonal polynomial j begin, which stands in that column.
unfoldable pub diagonal_at_of : Side → ℕ → ℕ → ℕ → ℕ
unfolding diagonal_place
diagonal_at_of side D j column = j * row_length + diagonal_place side D * block_length + column * coefficient_count

-- The sixteen numbers that are lent from there.
pub part-lent : (store : List ℤ) (n at : ℕ) → n ≡ at
    → take (n + coefficient_count - n) (drop n store) ≡ take coefficient_count (drop at store)
part-lent store n at e =
    let size : n + coefficient_count - n ≡ coefficient_count = omega arith in
    ap (λ k. take k (drop n store)) size ∙ ap (λ k. take coefficient_count (drop k store)) e

pub place-below : (side : Side) (D : ℕ) → D ≤ most_span → diagonal_place side D < block_count
unfolding diagonal_place
place-below leading D few = lit< tt
place-below trailing D few = suc-le-suc few

module _ (side : Side) (D settled : ℕ) (store : List ℤ) (order : List ℕ) where
  abbrev pub diagonals : List Polynomial
  diagonals = diagonal side D (settled_state settled store order)

  -- The furthest root of the first j diagonal polynomials, with its times.
  abbrev pub reported : ℕ → Prelude.Option Root
  reported j = furthest_with_of side (take j diagonals)

module _ (side : Side) (D settled : ℕ) (store : List ℤ) (order : List ℕ) (enough : settled ≤ length order) where
  abbrev pub ps : List Polynomial
  ps = diagonals side D settled store order

  same_count : length (rows_of settled store) ≡ length (take settled order)
  same_count = length-rows_of settled store ∙ sym (length-take-le settled order enough)

  pub length-diagonals : length ps ≡ settled
  unfolding diagonal
  length-diagonals = length-zip_with _ (rows_of settled store) (take settled order) same_count ∙ length-rows_of settled store

  pub report-all : (j : ℕ) → settled ≤ j → reported side D settled store order j ≡ reported_with side D (settled_state settled store order)
  report-all j h =
      ap (furthest_with_of side) (take_all j ps (rw length-diagonals h)) ∙ reported-with side D (settled_state settled store order)

  module _ (few : D ≤ most_span) (columns : Columns order) (j : ℕ) (h : j < settled) where
    pub diagonal-at : get_or ps j [] ≡ take coefficient_count (drop (diagonal_at_of side D j (get_or order j 0)) store)
    unfolding diagonal diagonal_at_of
    diagonal-at =
        get_or-zip_with _ (rows_of settled store) (take settled order) j no_row 0 [] (rw length-rows_of h)
        (subst (λ n. j < n) same_count (rw length-rows_of h))
        ∙ ap (λ c. get_or (get_or (get_or (rows_of settled store) j no_row).blocks (diagonal_place side D) []) c [])
        (get_or-take settled order j 0 h)
        ∙ polynomial-at settled store j (diagonal_place side D) (get_or order j 0) h (place-below side D few) (Columns-at order columns j)

    -- The next one that is lent.
    abbrev lent : Polynomial
    lent = take coefficient_count (drop (diagonal_at_of side D j (get_or order j 0)) store)

    pub report-next : Nonzero ps
        → further_with side (reported side D settled store order j) (answered_with lent (furthest side (roots lent)))
        ≡ reported side D settled store order (j + 1)
    report-next nonzero =
        ap (λ p. further_with side (furthest_with_of side (take j ps)) (answered_with p (furthest side (roots p)))) (sym diagonal-at)
        ∙ further-one-more side (take j ps) (get_or ps j []) (all_take _ j ps nonzero)
        (all_get_or (λ p. T (not (is_zero_of p))) ps [] j (rw length-diagonals h) nonzero)
        ∙ ap (furthest_with_of side) (sym (take-suc ps j [] (rw length-diagonals h)))
        ∙ ap (λ n. furthest_with_of side (take n ps)) (sym (add-one j))

    -- Its numbers.
    pub diagonal-long : row_need settled ≤ length store → diagonal_at_of side D j (get_or order j 0) + coefficient_count ≤ length store
    unfolding diagonal_at_of row_need
    diagonal-long long = omega (arith, place-below side D few, Columns-at order columns j)

    pub diagonal-small : Within (row_need settled) store
        → T (every small (take coefficient_count (drop (diagonal_at_of side D j (get_or order j 0)) store)))
    unfolding diagonal_at_of row_need
    diagonal-small w =
        let b = diagonal_place side D in
        let c = get_or order j 0 in
        let e = j * part_count + b * column_count + c in
        let place : e * coefficient_count ≡ j * row_length + b * block_length + c * coefficient_count = omega arith in
        let all : settled * row_length ≡ settled * part_count * coefficient_count = omega arith in
        let inside : e < settled * part_count = omega (arith, place-below side D few, Columns-at order columns j) in
        subst (λ n. T (every small (take coefficient_count (drop n store)))) place
        (part_small coefficient_count (settled * part_count) e store inside (subst (λ n. Within n store) all w))
