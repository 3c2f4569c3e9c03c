-- Dependence of the rows before and after each step of a run, and what a run's end says of the rows that it began with.
--
-- Main statements
--   settled-independent, zero-current-dependent   all rows settled: independent; the current row zero: dependent
--   stepped-dependent, chain-dependent   steps that drop no row keep dependence and independence
--   stepped-dependent-back, chain-dependent-back   dependence goes back through any step
--   chain-dropped, settled-dropped   a chain that drops a row began with dependent rows; and only then, if it settles all
use Rattle.std.specs.Prelude.{◌≡◌, ◌↔◌, not, ℕ, ◌≤◌, ◌<◌, T, length, set, ℤ}
use Rattle.std.proofs.Common.{sym, inl, inr, arith}
use Rattle.std.proofs.Math.Path.{subst}
use Rattle.std.proofs.Math.Logic.{by_cases}
use mathlib.Core.Logic.Iff
use Rattle.std.proofs.Math.Option.{none}
use Rattle.std.proofs.Math.Decide.{dec_lt}
use Rattle.algebra.specs.Polynomials.{is_zero_of}
use Rattle.rules.specs.Rows.{Row, zero_row, leading_block, first_nonzero, shift_up}
use Rattle.lists.specs.Everywhere.{All}
use Rattle.rules.specs.Elimination.{Side, State, within, limit_degrees, limit_coefficients, row_at, put_row, list_relations}
use Rattle.rules.specs.Elimination.{settle, count_shift, exchange, narrow_first}
use Rattle.rules.specs.Stores.{StoreRow}
use Rattle.rules.specs.Sequences.{Dependent}
use Rattle.theory.specs.Steps.{current, exchanged, multipliers_for, listed, combination, Stepped, combined, settled, shifted, dropped}
use Rattle.theory.specs.Steps.{length-drop_row}
use Rattle.theory.proofs.Steps.{stepped-rows, stepped-length, chain_length}
use Rattle.theory.specs.Steps.{Chain, here, next, Narrowed, kept, swapped, narrowed, length-narrow_first, limit_coefficients-within}
use Rattle.theory.specs.Triangular.{Triangular, triangular-chain, multipliers_for-nonzero}
use Rattle.theory.specs.LimitsKept.{StateShaped, chain-shapes}
use Rattle.theory.proofs.Solutions.{combined-value, shifted-zeros}
use Rattle.theory.specs.Independence.{triangular-independent}
use Rattle.theory.specs.Exchange.{exchange-dependent}
use Rattle.theory.proofs.Combine.{combine-dependent}
use Rattle.theory.specs.ShiftUp.{shift_up-dependent}
use Rattle.theory.specs.DropZero.{zero-row-dependent}

-- ---- one step, and chains of steps

module _ (l : ℤ) where
  -- With or without the exchange of rule 2.
  narrowed-dependent : (s : State) (i j : ℕ) → i < length s.rows → j < length s.rows
      → Dependent l s.rows ↔ Dependent l (narrow_first s i j).rows
  unfolding exchange put_row row_at
  narrowed-dependent s i j i-below j-below = go (narrowed s i j)
    where
      go : {e : State} → Narrowed s i j e → Dependent l s.rows ↔ Dependent l e.rows
      go (kept w) = Iff.rfl
      go (swapped w) = exchange-dependent s.rows i j l i-below j-below

  combined-dependent : (side : Side) (s : State) (j : ℕ) (r : Row) → All StoreRow s.rows → T (not (is_zero_of (multipliers_for s j).g))
      → j < current s → current s < length s.rows → limit_degrees (combination s j) ≡ within r
      → Dependent l (exchanged s j).rows ↔ Dependent l (put_row (listed side s j) (current s) r).rows
  unfolding put_row list_relations row_at
  combined-dependent side s j r shapes nonzero before below e =
      let (d, positive, value) = combined-value s j r shapes before below e in
      combine-dependent l (exchanged s j).rows d (multipliers_for s j).g (multipliers_for s j).h (current s) j r
      (omega (arith, length-narrow_first s (current s) j)) (omega (arith, length-narrow_first s (current s) j)) (omega arith)
      positive nonzero value

  shifted-dependent : (s : State) (r : Row) → current s < length s.rows → first_nonzero (leading_block (row_at s (current s))) ≡ none
      → limit_coefficients (shift_up (row_at s (current s))) ≡ within r
      → Dependent l s.rows ↔ Dependent l (set s.rows (current s) r)
  unfolding row_at
  shifted-dependent s r below f e =
      subst (λ q. Dependent l s.rows ↔ Dependent l (set s.rows (current s) q))
      (sym (limit_coefficients-within (shift_up (row_at s (current s))) r e).1)
      (shift_up-dependent l s.rows (current s) below (shifted-zeros s f))

  -- A state all of whose rows are settled is independent.
  pub settled-independent : (s : State) → Triangular s → length s.rows ≤ current s → Dependent l s.rows → ⊥
  settled-independent s t all = triangular-independent l s.rows s.order (λ j h. t.pivots j (omega arith))

  -- A state whose current row is zero is dependent.
  pub zero-current-dependent : (s : State) → current s < length s.rows → T (zero_row (row_at s (current s))) → Dependent l s.rows
  unfolding row_at
  zero-current-dependent s below zeros = zero-row-dependent l s.rows (current s) below zeros

  -- A step that drops no row keeps dependence, and independence.
  pub stepped-dependent : {side : Side} {s s' : State} → StateShaped s → Triangular s → Stepped side s s'
      → length s'.rows ≡ length s.rows → Dependent l s.rows ↔ Dependent l s'.rows
  unfolding put_row settle count_shift
  stepped-dependent {side} {s} shaped t (combined j before below nonzero clear meets few r e) same =
      Iff.trans (narrowed-dependent s (current s) j below (omega arith))
      (combined-dependent side s j r shaped.row-shapes (multipliers_for-nonzero s j t before below clear meets) before below e)
  stepped-dependent shaped t (settled c below nonzero clear e) same = Iff.rfl
  stepped-dependent {s} shaped t (shifted r below nonzero clear f e) same = shifted-dependent s r below f e
  stepped-dependent {s} shaped t (dropped below zeros) same = absurd (omega (arith, length-drop_row s (current s) below))

  -- A step that drops a row is one from dependent rows.
  stepped-dropped : {side : Side} {s s' : State} → Stepped side s s' → length s'.rows < length s.rows → Dependent l s.rows
  stepped-dropped {s = s} step fewer = elim (stepped-rows step)
      [ inl same ↦ absurd (omega arith) | inr h ↦ zero-current-dependent s h.0 h.1 ]

  -- So dependence goes back through any step.
  pub stepped-dependent-back : {side : Side} {s s' : State} → StateShaped s → Triangular s → Stepped side s s'
      → Dependent l s'.rows → Dependent l s.rows
  stepped-dependent-back {s = s} shaped t step d = elim (stepped-rows step)
      [ inl same ↦ (stepped-dependent shaped t step same).1 d | inr h ↦ zero-current-dependent s h.0 h.1 ]

  -- The same of a chain of steps.
  pub chain-dependent : {side : Side} {s s' : State} {k : ℕ} → StateShaped s → Triangular s → Chain side s k s'
      → length s'.rows ≡ length s.rows → Dependent l s.rows ↔ Dependent l s'.rows
  chain-dependent shaped t here same = Iff.rfl
  chain-dependent {s} {s'} shaped t (next {u} c step) same =
      Iff.trans (chain-dependent shaped t c (omega (arith, chain_length c, stepped-length step)))
      (stepped-dependent (chain-shapes c shaped) (triangular-chain c t) step (omega (arith, chain_length c, stepped-length step)))

  pub chain-dependent-back : {side : Side} {s s' : State} {k : ℕ} → StateShaped s → Triangular s → Chain side s k s'
      → Dependent l s'.rows → Dependent l s.rows
  chain-dependent-back shaped t here d = d
  chain-dependent-back shaped t (next c step) d =
      chain-dependent-back shaped t c (stepped-dependent-back (chain-shapes c shaped) (triangular-chain c t) step d)

  -- A chain that drops a row began with dependent rows.
  pub chain-dropped : {side : Side} {s s' : State} {k : ℕ} → StateShaped s → Triangular s → Chain side s k s'
      → length s'.rows < length s.rows → Dependent l s.rows
  chain-dropped shaped t here fewer = absurd (omega arith)
  chain-dropped {s = s} shaped t (next {u} c step) fewer = by_cases (dec_lt (length u.rows) (length s.rows))
      (λ before. chain-dropped shaped t c before)
      (λ none. chain-dependent-back shaped t c (stepped-dropped step (omega (arith, chain_length c))))

  -- Where it ends with all rows settled, it has dropped a row exactly if they were dependent.
  pub settled-dropped : {side : Side} {s s' : State} {k : ℕ} → StateShaped s → Triangular s → Chain side s k s'
      → length s'.rows ≤ current s' → (length s'.rows < length s.rows) ↔ Dependent l s.rows
  settled-dropped {s = s} {s' = s'} shaped t c all = (chain-dropped shaped t c, back)
    where
      back : Dependent l s.rows → length s'.rows < length s.rows
      back d = by_cases (dec_lt (length s'.rows) (length s.rows)) (λ fewer. fewer)
          (λ none. absurd (settled-independent s' (triangular-chain c t) all
          ((chain-dependent shaped t c (omega (arith, chain_length c))).0 d)))
