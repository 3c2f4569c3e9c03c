-- The triangular form of a list of rows: row j is zero at the columns of the rows before it and nonzero at its own.
--
-- Main definitions
--   PivotRow order j r       r is zero at the columns before place j of the order and nonzero at the column at place j
--   PivotRows w order rows   row j is a PivotRow at place j, for every j below w
--   ColumnsBelow m r         r has no nonzero leading entry from column m on
--
-- Main statements
--   pivot-width, pivot-nonzero, pivot-leading   a pivot row is not zero, and its leading block is not
--   pivot-append, settle-pivots   one more column at the end of the order keeps the pivot rows, and may belong to one more row
--   columns-differ, order-distinct   the columns of the rows are different
--   column-below             they are in use
--   order-complete           with m rows and m columns in use, every column belongs to a row
use Rattle.std.specs.Prelude.{ℕ, suc, ◌≤◌, ◌<◌, ◌≡◌, ◌≢◌, not, T, length, get_or}
use Rattle.std.proofs.Common.{sym, subst, zero-lt-suc, arith, T_not}
use Rattle.std.proofs.Math.Seq.{get_or-append_seam}
use mathlib.Core.List.{List, [], ◌∷◌, ◌++◌, Memᴰ}
use Rattle.std.proofs.Math.Nat.{suc-le-suc_iff}
use Rattle.std.proofs.Math.Decide.{ℕ_discrete, dec_lt}
use Rattle.std.proofs.Math.Dec.{not_T}
use Rattle.std.proofs.Math.ListN.{get_or-append}
use Rattle.algebra.specs.Polynomials.{is_zero_of}
use Rattle.algebra.specs.Pigeonhole.{Distinct, pigeonhole}
use Rattle.rules.specs.Rows.{Row, no_row, zero_block, zero_row, width, leading_block, entry}
use Rattle.lists.specs.Everywhere.{All, all_get_or}
use Rattle.lists.specs.Places.{member-place}
use Rattle.theory.specs.Cells.{zero_block-at, entry-cell, cell-within, zero_row-width}

pub record PivotRow (order : List ℕ) (j : ℕ) (r : Row) : Type 0 where
  pub zeros : (k : ℕ) → k < j → T (is_zero_of (entry r (get_or order k 0)))
  pub diagonal : T (not (is_zero_of (entry r (get_or order j 0))))

abbrev pub PivotRows : ℕ → List ℕ → List Row → Type 0
PivotRows w order rows = (j : ℕ) → j < w → PivotRow order j (get_or rows j no_row)

pub pivot-width : (order : List ℕ) (j : ℕ) (r : Row) → PivotRow order j r → 0 < width r
pivot-width order j r p =
    cell-within r 0 (get_or order j 0) (subst (λ e. T (not (is_zero_of e))) (entry-cell r (get_or order j 0)) p.diagonal)

pub pivot-nonzero : (order : List ℕ) (j : ℕ) (r : Row) → PivotRow order j r → T (not (zero_row r))
pivot-nonzero order j r p = not_T (zero_row r) (λ z. none (zero_row-width r z))
  where
    none : ¬ (width r ≤ 0)
    none h = omega (arith, pivot-width order j r p)

-- A row whose leading block is zero, as one to be shifted up, is none.
pub pivot-leading : (order : List ℕ) (j : ℕ) (r : Row) → PivotRow order j r → T (not (zero_block (leading_block r)))
unfolding entry
pivot-leading order j r p = not_T (zero_block (leading_block r))
    (λ z. T_not (is_zero_of (entry r (get_or order j 0))) p.diagonal (zero_block-at (leading_block r) z (get_or order j 0)))

-- One more column at the end does not change what is said of the columns before it.
pub pivot-append : (order : List ℕ) (c j : ℕ) (r : Row) → j < length order → PivotRow order j r → PivotRow (order ++ (c ∷ [])) j r
pivot-append order c j r h p =
    record {
      zeros = λ k b. rw (get_or-append order (c ∷ []) 0 k (omega arith)) (p.zeros k b);
      diagonal = rw (get_or-append order (c ∷ []) 0 j h) p.diagonal;
    }

-- The next row is settled: it is zero at the columns so far and nonzero at its own.
pub settle-pivots : (order : List ℕ) (rows : List Row) (c : ℕ) → PivotRows (length order) order rows
    → ((k : ℕ) → k < length order → T (is_zero_of (entry (get_or rows (length order) no_row) (get_or order k 0))))
    → T (not (is_zero_of (entry (get_or rows (length order) no_row) c))) → PivotRows (suc (length order)) (order ++ (c ∷ [])) rows
settle-pivots order rows c p zeros nonzero k h = cases (ℕ_discrete k (length order))
  where
    last : PivotRow (order ++ (c ∷ [])) (length order) (get_or rows (length order) no_row)
    last = record {
      zeros = λ k b. rw (get_or-append order (c ∷ []) 0 k b) (zeros k b);
      diagonal = rw (get_or-append_seam order c [] 0) nonzero;
    }

    cases : Dec (k ≡ length order) → PivotRow (order ++ (c ∷ [])) k (get_or rows k no_row)
    cases (yes e) = rw e last
    cases (no n) = let b : k < length order = omega arith in pivot-append order c k (get_or rows k no_row) b (p k b)

-- ---- the columns of the rows

pub columns-differ : (w : ℕ) (order : List ℕ) (rows : List Row) → PivotRows w order rows
    → (k j : ℕ) → k < j → j < w → get_or order k 0 ≢ get_or order j 0
columns-differ w order rows p k j h b e =
    T_not (is_zero_of (entry (get_or rows j no_row) (get_or order j 0))) (p j b).diagonal
    (subst (λ c. T (is_zero_of (entry (get_or rows j no_row) c))) e ((p j b).zeros k h))

-- A list whose places hold different numbers.
distinct-places : (l : List ℕ) → ((k j : ℕ) → k < j → j < length l → get_or l k 0 ≢ get_or l j 0) → Distinct l
distinct-places [] h = tt
distinct-places (x ∷ l) h = (fresh, distinct-places l (λ k j a b. h (suc k) (suc j) (suc-le-suc_iff.1 a) (suc-le-suc_iff.1 b)))
  where
    fresh : ¬ Memᴰ x l
    fresh m = let (k, b, e) = member-place 0 m in h 0 (suc k) (zero-lt-suc k) (suc-le-suc_iff.1 b) (sym e)

pub order-distinct : (order : List ℕ) (rows : List Row) → PivotRows (length order) order rows → Distinct order
order-distinct order rows p = distinct-places order (columns-differ (length order) order rows p)

-- The row has no nonzero leading entry past the first m columns.
abbrev pub ColumnsBelow : ℕ → Row → Type 0
ColumnsBelow m r = (c : ℕ) → m ≤ c → T (is_zero_of (entry r c))

module _ (m : ℕ) (order : List ℕ) (rows : List Row) (fits : length order ≤ length rows) (pivots : PivotRows (length order) order rows)
    (narrow : All (ColumnsBelow m) rows) where
  pub column-below : (j : ℕ) → j < length order → get_or order j 0 < m
  column-below j h = cases (dec_lt (get_or order j 0) m)
    where
      cases : Dec (get_or order j 0 < m) → get_or order j 0 < m
      cases (yes b) = b
      cases (no n) = absurd (T_not (is_zero_of (entry (get_or rows j no_row) (get_or order j 0))) (pivots j h).diagonal
          (all_get_or (ColumnsBelow m) rows no_row j (omega arith) narrow (get_or order j 0) (omega arith)))

  order_below : (x : ℕ) → Memᴰ x order → x < m
  order_below x p = let (k, h, e) = member-place 0 p in subst (λ c. c < m) e (column-below k h)

  -- m different columns below m: every column is there.
  pub order-complete : length order ≡ m → (c : ℕ) → c < m → (j : ℕ) × (j < m) × (get_or order j 0 ≡ c)
  order-complete size c h =
      let (j, b, e) = member-place 0 (pigeonhole m order (order-distinct order rows pivots) size order_below c h) in
      (j, subst (λ n. j < n) size b, e)
