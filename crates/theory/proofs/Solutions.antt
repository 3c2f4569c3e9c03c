-- The same sequences satisfy a system before and after each step of a run, and so before and after the run.
--
-- Main statements
--   combined-value           the values of the row that a step combines
--   shifted-zeros            the leading block that a step shifts away is zero
--   stepped-solutions, chain-solutions, run-solutions   steps keep the sequences that satisfy rows and relations
use Rattle.std.specs.Prelude.{◌≡◌, ◌↔◌, ℕ, ◌<◌, not, List, T, length, set, ℤ}
use Rattle.std.proofs.Common.{sym, arith}
use Rattle.std.proofs.Math.Path.{subst}
use mathlib.Core.Logic.Iff
use Rattle.std.proofs.Math.Option.{none}
use Rattle.algebra.specs.Polynomials.{is_zero_of}
use Rattle.rules.specs.Limits.{coefficient_count, column_count, block_count}
use Rattle.rules.specs.Stores.{StoreRow}
use Rattle.rules.specs.Rows.{Row, Relation, zero_block, leading_block, first_nonzero, shift_up}
use Rattle.lists.specs.Everywhere.{All}
use Rattle.rules.specs.Elimination.{Side, State, start, within, limit_degrees, limit_coefficients, row_at, put_row, list_relations, settle}
use Rattle.rules.specs.Elimination.{count_shift, exchange, drop_row}
use Rattle.rules.specs.Sequences.{Sequence, Satisfies}
use Rattle.theory.specs.Steps.{Stepped, combined, settled, shifted, dropped, Chain, here, next, current, exchanged}
use Rattle.theory.specs.Steps.{multipliers_for, combination, listed, length-narrow_first, limit_coefficients-within, first_nonzero-none}
use Rattle.theory.specs.Steps.{limit_degrees-within, Narrowed, narrowed, kept, swapped}
use Rattle.theory.specs.Cells.{zero_block-all}
use Rattle.theory.specs.Exchange.{exchange-satisfied}
use Rattle.theory.specs.Combine.{shaped-same, Combines}
use Rattle.theory.proofs.Combine.{combined_row-values, combine-satisfied}
use Rattle.theory.specs.ShiftUp.{shift_up-satisfied}
use Rattle.theory.specs.DropZero.{drop-satisfied}
use Rattle.theory.specs.Triangular.{Triangular, triangular-start, triangular-chain, multipliers_for-nonzero}
use Rattle.theory.specs.LimitsKept.{StateShaped, chain-shapes, current-shaped, pivot-shaped}

-- ---- one step

-- The row that a combination makes, at every n.
pub combined-value : (s : State) (j : ℕ) (r : Row) → All StoreRow s.rows → j < current s → current s < length s.rows
    → limit_degrees (combination s j) ≡ within r
    → (d : ℕ) × (0 < d)
    × Combines d (multipliers_for s j).g (multipliers_for s j).h (row_at (exchanged s j) (current s)) (row_at (exchanged s j) j) r
combined-value s j r shapes before below e =
    let (low, small, same) = limit_degrees-within (combination s j) r e in
    let g = (multipliers_for s j).g in
    let h = (multipliers_for s j).h in
    let a = row_at (exchanged s j) (current s) in
    let b = row_at (exchanged s j) j in
    let (d, positive, value) = combined_row-values g h a b (shaped-same block_count column_count coefficient_count coefficient_count a b
    (current-shaped s j before below shapes) (pivot-shaped s j before below shapes)) low in
    (d, positive, subst (Combines d g h a b) (sym same) value)

-- Rule 6 shifts only a row whose leading block is zero.
pub shifted-zeros : (s : State) → first_nonzero (leading_block (row_at s (current s))) ≡ none
    → T (zero_block (leading_block (row_at s (current s))))
shifted-zeros s f = zero_block-all (leading_block (row_at s (current s))) (first_nonzero-none (leading_block (row_at s (current s))) f)

module _ (l : ℤ) (z : Sequence) where
  exchanged-satisfied : (s : State) (j : ℕ) → j < current s → current s < length s.rows
      → Satisfies l s.rows s.relations z ↔ Satisfies l (exchanged s j).rows (exchanged s j).relations z
  unfolding exchange put_row row_at
  exchanged-satisfied s j before below = go (narrowed s (current s) j)
    where
      go : {e : State} → Narrowed s (current s) j e → Satisfies l s.rows s.relations z ↔ Satisfies l e.rows e.relations z
      go (kept w) = Iff.rfl
      go (swapped w) = exchange-satisfied s.rows (current s) j l z s.relations below (omega arith)

  combined-satisfied : (side : Side) (s : State) (j : ℕ) (r : Row) → All StoreRow s.rows → T (not (is_zero_of (multipliers_for s j).g))
      → j < current s → current s < length s.rows → limit_degrees (combination s j) ≡ within r
      → Satisfies l (exchanged s j).rows (exchanged s j).relations z
      ↔ Satisfies l (put_row (listed side s j) (current s) r).rows (put_row (listed side s j) (current s) r).relations z
  unfolding put_row list_relations row_at
  combined-satisfied side s j r shapes nonzero before below e =
      let (d, positive, value) = combined-value s j r shapes before below e in
      combine-satisfied l z side d (multipliers_for s j).g (multipliers_for s j).h (exchanged s j).rows (exchanged s j).relations
      (current s) j r (omega (arith, length-narrow_first s (current s) j)) (omega (arith, length-narrow_first s (current s) j)) (omega arith)
      positive nonzero value

  shifted-satisfied : (s : State) (r : Row) → current s < length s.rows → first_nonzero (leading_block (row_at s (current s))) ≡ none
      → limit_coefficients (shift_up (row_at s (current s))) ≡ within r
      → Satisfies l s.rows s.relations z ↔ Satisfies l (set s.rows (current s) r) s.relations z
  unfolding row_at
  shifted-satisfied s r below f e =
      subst (λ q. Satisfies l s.rows s.relations z ↔ Satisfies l (set s.rows (current s) q) s.relations z)
      (sym (limit_coefficients-within (shift_up (row_at s (current s))) r e).1)
      (shift_up-satisfied l s.rows (current s) below (shifted-zeros s f) z s.relations)

  -- A step keeps the sequences that satisfy the rows and the relations.
  pub stepped-solutions : {side : Side} {s s' : State} → StateShaped s → Triangular s → Stepped side s s'
      → Satisfies l s.rows s.relations z ↔ Satisfies l s'.rows s'.relations z
  unfolding put_row settle count_shift row_at drop_row
  stepped-solutions {side} {s} shaped t (combined j before below nonzero clear meets few r e) =
      Iff.trans (exchanged-satisfied s j before below)
      (combined-satisfied side s j r shaped.row-shapes (multipliers_for-nonzero s j t before below clear meets) before below e)
  stepped-solutions shaped t (settled c below nonzero clear e) = Iff.rfl
  stepped-solutions {s} shaped t (shifted r below nonzero clear f e) = shifted-satisfied s r below f e
  stepped-solutions {s} shaped t (dropped below zeros) = drop-satisfied l z s.rows s.relations (current s) zeros

  pub chain-solutions : {side : Side} {s s' : State} {k : ℕ} → StateShaped s → Triangular s → Chain side s k s'
      → Satisfies l s.rows s.relations z ↔ Satisfies l s'.rows s'.relations z
  chain-solutions shaped t here = Iff.rfl
  chain-solutions shaped t (next c u) =
      Iff.trans (chain-solutions shaped t c) (stepped-solutions (chain-shapes c shaped) (triangular-chain c t) u)

  -- A run from rows and relations of the shapes of a store.
  pub run-solutions : {side : Side} {s : State} {k : ℕ} (rows : List Row) (relations : List Relation)
      → All StoreRow rows → All (λ e. StoreRow e.row) relations → Chain side (start rows relations) k s
      → Satisfies l rows relations z ↔ Satisfies l s.rows s.relations z
  unfolding start
  run-solutions rows relations row-shapes relation-shapes c =
      chain-solutions (record { row-shapes = row-shapes; relation-shapes = relation-shapes }) (triangular-start rows relations) c
