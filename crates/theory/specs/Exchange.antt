-- The exchange of two rows of a list.
--
-- Main definitions
--   exchange_rows_of rows i j    rows i and j exchanged
--
-- Main statements
--   exchange-left, exchange-right, exchange-other   the row at each place, so its value at every n
--   exchange-satisfied       the same sequences satisfy the list
--   exchange-dependent       the list is dependent exactly if it was
--   exchange-pivots          the triangular form stays where the row that comes in is zero and nonzero as the one that goes
--   exchange-total           a sum over the rows, as the total width, stays
use Prim.Native.Nat.{ℕ, ◌≤◌, ◌<◌}
use Rattle.std.specs.Prelude.{◌≡◌, ◌≢◌, ◌↔◌, not, List, length, get_or, set, ℤ, ◌+ℤ◌, ◌*ℤ◌}
use Rattle.std.proofs.Common.{sym, ◌∙◌, ap, ap₂, arith, length-set, get_or-set_other}
use Rattle.std.proofs.Math.Path.{subst}
use Rattle.std.proofs.Math.Logic.{by_cases}
use mathlib.Core.Logic.Iff
use Rattle.std.proofs.Math.Decide.{ℕ_discrete}
use Rattle.std.proofs.Math.Dec.{T}
use Rattle.std.proofs.Math.IntN.{+ℤ_comm}
use Rattle.algebra.specs.Sums.{sum_below, sum_below-congr}
use Rattle.algebra.specs.Polynomials.{eval, is_zero_of}
use Rattle.rules.specs.Rows.{Row, Relation, no_row}
use Rattle.lists.specs.Places.{swap, swap-same, length-swap, get_or-swap-left, get_or-swap-right, get_or-swap-other, all-swap}
use Rattle.rules.specs.Sequences.{Sequence, value_of, SatisfiesEquation, Satisfies, Dependent}
use Rattle.theory.specs.Cells.{total_of, total_of-set}
use Rattle.theory.specs.Pivots.{PivotRow, PivotRows}
use Rattle.theory.specs.Combinations.{put, put_same, put_other, sum_below-pair, sum_within-congr, Values, Multiplier, copies}
use Rattle.theory.specs.Combinations.{combination_value, DependentValues}
use Rattle.theory.specs.ByValues.{row_values, by_values}

abbrev pub exchange_rows_of : List Row → ℕ → ℕ → List Row
exchange_rows_of rows i j = swap rows no_row i j

module _ (rows : List Row) (i j : ℕ) where
  pub exchange-left : i < length rows → get_or (exchange_rows_of rows i j) i no_row ≡ get_or rows j no_row
  exchange-left = get_or-swap-left rows no_row i j

  pub exchange-right : j < length rows → get_or (exchange_rows_of rows i j) j no_row ≡ get_or rows i no_row
  exchange-right = get_or-swap-right rows no_row i j

  pub exchange-other : (k : ℕ) → k ≢ i → k ≢ j → get_or (exchange_rows_of rows i j) k no_row ≡ get_or rows k no_row
  exchange-other = get_or-swap-other rows no_row i j

  pub exchange-satisfied : (l : ℤ) (z : Sequence) (relations : List Relation) → i < length rows → j < length rows
      → Satisfies l rows relations z ↔ Satisfies l (exchange_rows_of rows i j) relations z
  unfolding Satisfies
  exchange-satisfied l z relations below-i below-j =
      let e = all-swap rows no_row i j (SatisfiesEquation l z) below-i below-j in
      (λ s. (e.1 s.0, s.1), λ s. (e.0 s.0, s.1))

  -- Row i, past the rows in triangular form, takes the place of row j: it is zero and nonzero as row j is asked to be.
  pub exchange-pivots : (w : ℕ) (order : List ℕ) → j < w → w ≤ i → i < length rows → PivotRow order j (get_or rows i no_row)
      → PivotRows w order rows → PivotRows w order (exchange_rows_of rows i j)
  exchange-pivots w order before later below p pivots k h = by_cases (ℕ_discrete k j) here
      (λ n. subst (PivotRow order k) (sym (exchange-other k (omega arith) n)) (pivots k h))
    where
      here : k ≡ j → PivotRow order k (get_or (exchange_rows_of rows i j) k no_row)
      here e = subst (λ a. PivotRow order a (get_or (exchange_rows_of rows i j) a no_row)) (sym e)
          (subst (PivotRow order j) (sym (exchange-right (omega arith))) p)

  -- What is added up over the rows is as it was.
  pub exchange-total : (f : Row → ℕ) → i < length rows → j < length rows → total_of f (exchange_rows_of rows i j) ≡ total_of f rows
  exchange-total f below-i below-j = by_cases (ℕ_discrete i j) (λ e. ap (total_of f) (swap-same rows no_row i j e)) apart
    where
      once : List Row
      once = set rows j (get_or rows i no_row)

      apart : i ≢ j → total_of f (exchange_rows_of rows i j) ≡ total_of f rows
      apart n =
          omega (
            arith,
            total_of-set f rows j (get_or rows i no_row) below-j,
            total_of-set f once i (get_or rows j no_row) (subst (λ m. i < m) (sym (length-set rows j (get_or rows i no_row))) below-i),
            ap f (get_or-set_other rows j i (get_or rows i no_row) no_row n),
          )

-- ---- dependence

module _ (i j : ℕ) (apart : i ≢ j) where
  -- The place that each equation comes from.
  turned : ℕ → ℕ
  turned = put i j (put j i (λ k. k))

  turned-i : turned i ≡ j
  unfolding turned
  turned-i = put_same i _ _

  turned-j : turned j ≡ i
  unfolding turned
  turned-j = put_other i _ _ j (λ e. apart (sym e)) ∙ put_same j _ _

  turned-other : (k : ℕ) → k ≢ i → k ≢ j → turned k ≡ k
  unfolding turned
  turned-other k p q = put_other i _ _ k p ∙ put_other j _ _ k q

  -- Every equation comes to some place.
  turned-back : (m k : ℕ) → i < m → j < m → k < m → (a : ℕ) × (a < m) × (turned a ≡ k)
  turned-back m k p q r = by_cases (ℕ_discrete k i)
      (λ e. (j, q, turned-j ∙ sym e))
      (λ n. by_cases (ℕ_discrete k j) (λ e. (i, p, turned-i ∙ sym e)) (λ o. (k, r, turned-other k n o)))

  sum_below-turned : (m : ℕ) (f : ℕ → ℤ) → i < m → j < m → sum_below m (λ k. f (turned k)) ≡ sum_below m f
  sum_below-turned m f p q = sum_below-pair m i j (λ k. f (turned k)) f p q apart
      (ap₂ (λ a b. f a +ℤ f b) turned-i turned-j ∙ +ℤ_comm (f j) (f i))
      (λ k n o. ap f (turned-other k n o))

  exchanged-values : (m : ℕ) (E E' : Values) → i < m → j < m
      → ((z : Sequence) (n : ℤ) → E' z i n ≡ E z j n) → ((z : Sequence) (n : ℤ) → E' z j n ≡ E z i n)
      → ((z : Sequence) (k : ℕ) (n : ℤ) → k ≢ i → k ≢ j → E' z k n ≡ E z k n)
      → DependentValues m E → DependentValues m E'
  unfolding combination_value copies
  exchanged-values m E E' p q at_i at_j elsewhere D =
      record {
        reach = N;
        multiplier = λ n. S (turned n);
        number = found.0;
        shift = D.shift;
        number-below = found.1;
        shift-within = D.shift-within;
        nonzero = subst (λ n. T (not (is_zero_of (S n D.shift)))) (sym found.2) D.nonzero;
        vanishes = λ z x. renamed z x ∙ D.vanishes z x;
      }
    where
      N : ℕ
      N = D.reach

      S : Multiplier
      S = D.multiplier

      found : (n : ℕ) × (n < m) × (turned n ≡ D.number)
      found = turned-back m D.number p q D.number-below

      same : (z : Sequence) (k : ℕ) (n : ℤ) → E' z k n ≡ E z (turned k) n
      same z k n = by_cases (ℕ_discrete k i)
          (λ e. rw (e, turned-i) (at_i z n))
          (λ c. by_cases (ℕ_discrete k j) (λ e. rw (e, turned-j) (at_j z n)) (λ o. rw (turned-other k c o) (elsewhere z k n c o)))

      renamed : (z : Sequence) (x : ℤ) → combination_value m E' N (λ n. S (turned n)) z x ≡ combination_value m E N S z x
      renamed z x =
          sum_below-congr m _ _ (λ k _. sum_within-congr N (λ s _. ap (λ e. eval (S (turned k) s) x *ℤ e) (same z k (x +ℤ s))))
          ∙ sum_below-turned m (copies E N S z x) p q

pub exchange-dependent : (rows : List Row) (i j : ℕ) (l : ℤ) → i < length rows → j < length rows
    → Dependent l rows ↔ Dependent l (exchange_rows_of rows i j)
exchange-dependent rows i j l i-below j-below = by_cases (ℕ_discrete i j)
    (λ e. subst (λ x. Dependent l rows ↔ Dependent l x) (sym (swap-same rows no_row i j e)) Iff.rfl)
    (λ apart. by_values l rows (exchange_rows_of rows i j) (length-swap rows no_row i j) (
      exchanged-values i j apart (length rows) (row_values l rows) (row_values l (exchange_rows_of rows i j)) i-below j-below at_i at_j others,
      exchanged-values i j apart (length rows) (row_values l (exchange_rows_of rows i j)) (row_values l rows) i-below j-below
          (λ z n. sym (at_j z n)) (λ z n. sym (at_i z n)) (λ z k n c o. sym (others z k n c o)),
    ))
  where
    at_i : (z : Sequence) (n : ℤ) → row_values l (exchange_rows_of rows i j) z i n ≡ row_values l rows z j n
    at_i z n = ap (λ q. value_of l q z n) (exchange-left rows i j i-below)

    at_j : (z : Sequence) (n : ℤ) → row_values l (exchange_rows_of rows i j) z j n ≡ row_values l rows z i n
    at_j z n = ap (λ q. value_of l q z n) (exchange-right rows i j j-below)

    others : (z : Sequence) (k : ℕ) (n : ℤ) → k ≢ i → k ≢ j → row_values l (exchange_rows_of rows i j) z k n ≡ row_values l rows z k n
    others z k n c o = ap (λ q. value_of l q z n) (exchange-other rows i j k c o)
