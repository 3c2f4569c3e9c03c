-- The settled rows of a run are triangular: row j is zero at the columns of the rows settled before it and nonzero at its own.
--
-- Main definitions
--   column s k               c(k), the column of settled row k
--   Triangular s             each settled row j is a pivot row at place j
--   entries_for s j           the two entries of rule 2
--
-- Main statements
--   triangular-start, triangular-stepped, triangular-chain   every state of a run is triangular
--   entries_for-divided       both entries are divided by n - r as often as r occurs in both, unless the limit has left a division out
--   multipliers_for-listed    where a root of g is common to both entries, the limit has left a division out, or it occurs more
--                            often in row j's entry
--   combined-zero            the row that a combination makes is zero where the combination is, before division and cut
--   combined-clears          the row that a combination with row j makes is zero at the columns of rows 1 to j
--   combined-advances        so the settled row that is met next comes after row j
use Rattle.std.specs.Prelude.{ℕ, suc, ◌≤◌, ◌<◌, ◌≡◌, refl, ◌⊎◌, not, List, [], ◌∷◌, ◌++◌, ℤ, pos, ◌+ℤ◌, ◌*ℤ◌, length, get_or}
use Rattle.std.proofs.Common.{zero-le, sym, ◌∙◌, not-suc-le-zero, le_refl, le_trans, le_of_eq, add-one, arith, length-append}
use Rattle.std.proofs.Math.Path.{ap, subst}
use Rattle.std.proofs.Math.Option.{some}
use Rattle.std.proofs.Math.Dec.{T}
use Rattle.algebra.specs.Polynomials.{is_zero_of, eval}
use Rattle.algebra.specs.Multiplicity.{multiplicity}
use Rattle.rules.specs.Rows.{Row, Relation, entry, leading_block, first_nonzero, combine}
use Rattle.rules.specs.Elimination.{Side, multipliers, multipliers_at, limit_degrees, within, State, start, row_at, put_row, settle, count_shift}
use Rattle.rules.specs.Elimination.{list_relations, exchange, drop_row}
use Rattle.rules.specs.CommonRoots.{Entries}
use Rattle.theory.specs.Reduced.{LeftOut, DividedOften, reduced-times}
use Rattle.theory.specs.Multipliers.{multipliers-cancel, multipliers-nonzero, multipliers-listed}
use Rattle.theory.specs.Pivots.{PivotRow, PivotRows, settle-pivots}
use Rattle.theory.specs.Replace.{replace-pivots}
use Rattle.theory.specs.Exchange.{exchange-pivots}
use Rattle.theory.specs.Combine.{combined_row-zero, combine-clears}
use Rattle.theory.specs.DropZero.{drop-pivots}
use Rattle.theory.specs.Cells.{ZeroWhere}
use Rattle.theory.specs.Steps.{Narrowed, narrowed, kept, swapped, current, met, MetZeroBelow, exchanged, listed, combination}
use Rattle.theory.specs.Steps.{multipliers_for, Stepped, combined, settled, shifted, dropped, Chain, chain-induction}
use Rattle.theory.specs.Steps.{order-narrow_first, limit_degrees-within, combined-length, listed-order, listed-rows, length-put_row}
use Rattle.theory.specs.Steps.{length-drop_row, row_at-put_row-same}
use Rattle.theory.specs.Steps.{narrow_first-both, first_nonzero-some}

abbrev pub column : State → ℕ → ℕ
column s k = get_or s.order k 0

pub record Triangular (s : State) : Type 0 where
  pub fits : current s ≤ length s.rows
  pub pivots : PivotRows (current s) s.order s.rows

-- ---- every state of a run is triangular

pub triangular-start : (rows : List Row) (relations : List Relation) → Triangular (start rows relations)
unfolding start
triangular-start rows relations = record { fits = zero-le; pivots = λ j h. absurd (not-suc-le-zero h) }

-- The exchange of rule 2: row i meets column c(j) first, so it can take the place of row j.
module _ (s : State) (j : ℕ) (t : Triangular s) (below : j < current s) (more : current s < length s.rows)
    (clear : MetZeroBelow s j) (meets : T (not (is_zero_of (met s j)))) where
  pub exchanged-both : PivotRow s.order j (row_at (exchanged s j) (current s)) × PivotRow s.order j (row_at (exchanged s j) j)
  unfolding row_at
  exchanged-both = narrow_first-both (PivotRow s.order j) s (current s) j more (omega arith)
      (record { zeros = clear; diagonal = meets }) (t.pivots j below)

  pub exchanged-pivots : PivotRows (current s) s.order (exchanged s j).rows
  unfolding exchange put_row row_at
  exchanged-pivots = go (narrowed s (current s) j)
    where
      go : {e : State} → Narrowed s (current s) j e → PivotRows (current s) s.order e.rows
      go (kept w) = t.pivots
      go (swapped w) = exchange-pivots s.rows (current s) j (current s) s.order below (le_refl (current s)) more
          (record { zeros = clear; diagonal = meets }) t.pivots

-- Rule 5 gives the row a column at which it is nonzero; at the earlier columns it is zero.
settled-triangular : (s : State) (c : ℕ) → current s < length s.rows → MetZeroBelow s (current s)
    → first_nonzero (leading_block (row_at s (current s))) ≡ some c → Triangular s → Triangular (settle s c)
unfolding settle row_at entry
settled-triangular s c more clear found t =
    record {
      fits = omega (arith, size);
      pivots = λ k h. settle-pivots s.order s.rows c t.pivots clear
          (first_nonzero-some (leading_block (row_at s (current s))) c found).nonzero k (omega (arith, size));
    }
  where
    size : length (s.order ++ (c ∷ [])) ≡ suc (current s)
    size = length-append s.order (c ∷ []) ∙ add-one (current s)

-- A state with the same order, whose rows before the current one are pivot rows.
same-order : (s u : State) → u.order ≡ s.order → current s ≤ length u.rows → PivotRows (current s) s.order u.rows
    → Triangular u
same-order s u same fits pivots =
    record {
      fits = omega (arith, ap length same);
      pivots = subst (λ l. PivotRows (length l) l u.rows) (sym same) pivots;
    }

pub triangular-stepped : {side : Side} {s s' : State} → Stepped side s s' → Triangular s → Triangular s'
unfolding put_row list_relations count_shift drop_row
triangular-stepped {side} {s} (combined j below more nonzero clear meets few r f) t =
    same-order s (put_row (listed side s j) (current s) r) (listed-order side s j)
    (le_trans t.fits (le_of_eq (sym (combined-length side s j r))))
    (replace-pivots (current s) s.order (exchanged s j).rows (current s) r (le_refl (current s))
    (exchanged-pivots s j t below more clear meets))
triangular-stepped {side} {s} (settled c more nonzero clear f) t = settled-triangular s c more clear f t
triangular-stepped {side} {s} (shifted r more nonzero clear f g) t =
    same-order s (put_row (count_shift s) (current s) r) refl
    (le_trans t.fits (le_of_eq (sym (length-put_row (count_shift s) (current s) r))))
    (replace-pivots (current s) s.order s.rows (current s) r (le_refl (current s)) t.pivots)
triangular-stepped {side} {s} (dropped more zeros) t =
    same-order s (drop_row s (current s)) refl (omega (arith, length-drop_row s (current s) more))
    (drop-pivots (current s) s.order s.rows (current s) (le_refl (current s)) t.pivots)

pub triangular-chain : {side : Side} {s s' : State} {k : ℕ} → Chain side s k s' → Triangular s → Triangular s'
triangular-chain {side} = chain-induction side Triangular (λ u v. triangular-stepped)

-- The row that a combination makes is zero where the combination is, before division and cut.
pub combined-zero : (s : State) (j : ℕ) (r : Row) → limit_degrees (combination s j) ≡ within r
    → ZeroWhere (combine (multipliers_for s j).g (multipliers_for s j).h (row_at (exchanged s j) (current s)) (row_at (exchanged s j) j)) r
combined-zero s j r e =
    let g = (multipliers_for s j).g in
    let h = (multipliers_for s j).h in
    let a = row_at (exchanged s j) (current s) in
    let b = row_at (exchanged s j) j in
    subst (ZeroWhere (combine g h a b)) (sym (limit_degrees-within (combination s j) r e).2) (combined_row-zero g h a b)

-- ---- the step is rule 2's course over the settled rows (SCOPE 2.26)

-- The entries of row j and of the row in turn at c(j), as both are after the exchange.
abbrev pub entries_for : State → ℕ → Entries
entries_for s j =
    record { pivot = entry (row_at (exchanged s j) j) (column s j); target = entry (row_at (exchanged s j) (current s)) (column s j) }

module _ (s : State) (j : ℕ) (t : Triangular s) (below : j < current s) (more : current s < length s.rows)
    (clear : MetZeroBelow s j) (meets : T (not (is_zero_of (met s j)))) where
  both : PivotRow s.order j (row_at (exchanged s j) (current s)) × PivotRow s.order j (row_at (exchanged s j) j)
  both = exchanged-both s j t below more clear meets

  -- Rule 2's multipliers are those of the entries at c(j).
  multipliers_for-entries : multipliers_for s j
      ≡ multipliers (entry (row_at (exchanged s j) j) (column s j)) (entry (row_at (exchanged s j) (current s)) (column s j))
  unfolding multipliers_at
  multipliers_for-entries =
      ap (λ l. multipliers (entry (row_at (exchanged s j) j) (get_or l j 0)) (entry (row_at (exchanged s j) (current s)) (get_or l j 0)))
      (order-narrow_first s (current s) j)

  multipliers_for-cancel : (n : ℤ) → eval (multipliers_for s j).g n *ℤ eval (entry (row_at (exchanged s j) (current s)) (column s j)) n
      +ℤ eval (multipliers_for s j).h n *ℤ eval (entry (row_at (exchanged s j) j) (column s j)) n ≡ pos 0
  multipliers_for-cancel n =
      let a = entry (row_at (exchanged s j) j) (column s j) in
      let b = entry (row_at (exchanged s j) (current s)) (column s j) in
      subst (λ x. eval x.g n *ℤ eval b n +ℤ eval x.h n *ℤ eval a n ≡ pos 0) (sym multipliers_for-entries)
      (multipliers-cancel a b both.1.diagonal n)

  -- The multiplier g is not the zero polynomial.
  pub multipliers_for-nonzero : T (not (is_zero_of (multipliers_for s j).g))
  multipliers_for-nonzero =
      subst (λ x. T (not (is_zero_of x.g))) (sym multipliers_for-entries)
      (multipliers-nonzero (entry (row_at (exchanged s j) j) (column s j)) (entry (row_at (exchanged s j) (current s)) (column s j))
      both.1.diagonal)

  -- Both entries are divided by n - r as often as r occurs in both, unless the limit has left a division out.
  pub entries_for-divided : (r : ℤ) → LeftOut r (entries_for s j) ⊎ DividedOften r (entries_for s j)
  entries_for-divided r = reduced-times (entries_for s j) r both.1.diagonal both.0.diagonal

  -- A root of g at which both entries vanish: the limit has left a division out, or it occurs more often in row j's entry.
  pub multipliers_for-listed : (r : ℤ) → eval (multipliers_for s j).g r ≡ pos 0
      → LeftOut r (entries_for s j) ⊎ (multiplicity (entries_for s j).target r < multiplicity (entries_for s j).pivot r)
  multipliers_for-listed r root =
      multipliers-listed (entries_for s j).pivot (entries_for s j).target both.1.diagonal r both.0.diagonal
      (subst (λ x. eval x.g r ≡ pos 0) multipliers_for-entries root)

  -- The row that the combination makes is zero at c(1) to c(j).
  pub combined-clears : (r : Row) → limit_degrees (combination s j) ≡ within r → (k : ℕ) → k ≤ j → T (is_zero_of (entry r (column s k)))
  combined-clears r e = combine-clears s.order j (multipliers_for s j).g (multipliers_for s j).h (row_at (exchanged s j) (current s))
      (row_at (exchanged s j) j) r (combined-zero s j r e) both.0 both.1 multipliers_for-cancel

  -- So the next step meets a settled row after row j, or none.
  pub combined-advances : (side : Side) (r : Row) → limit_degrees (combination s j) ≡ within r
      → MetZeroBelow (put_row (listed side s j) (current s) r) (suc j)
  unfolding put_row
  combined-advances side r e k h =
      subst (λ l. T (is_zero_of (entry (row_at (put_row (listed side s j) (current s) r) (length l)) (get_or l k 0)))) (sym (listed-order side s j))
      (rw (row_at-put_row-same (listed side s j) (current s) r (omega (arith, listed-rows side s j))) (combined-clears r e k (omega arith)))
