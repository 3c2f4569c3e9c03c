-- The places outside a system's blocks and columns: they stay zero from step to step (SCOPE 3.3, 3.34).
--
-- Main definitions
--   Unused m D s            in each row of s the places past column m and past D + 1 blocks are zero
--
-- Main statements
--   unused-narrowed         the exchange of rule 2 keeps them zero
--   unused-going            so does a step that goes on
--   unused-none, none-unused   with four columns and five blocks in use a store has no such place
--   unused-row, unused-width, unused-after   the same on the stores of a run
use Rattle.std.specs.Prelude.{ℕ, ◌+◌, ◌≤◌, ◌<◌, ◌≡◌, false, List, [], ◌∷◌, map, ℤ, length, set}
use Rattle.std.proofs.Common.{arith, sym, ◌∙◌}
use Rattle.std.proofs.Math.Path.{ap₂, subst}
use Rattle.std.proofs.Math.Dec.{T}
use Rattle.std.proofs.Math.Seq.{length-take-le}
use Rattle.lists.specs.Everywhere.{All, all_get_or, all_set}
use Rattle.lists.specs.Places.{without, all_without}
use Rattle.lists.specs.Parts.{parts}
use Rattle.lists.specs.Tests.{T-&&, every, all-of-every, every-of-all}
use Rattle.rules.specs.Limits.{column_count, most_span, row_length}
use Rattle.rules.specs.Rows.{Row, no_row, shift_up, width, zero_block}
use Rattle.rules.specs.Elimination.{Side, State, Outcome, going, row_at, put_row}
use Rattle.rules.specs.Elimination.{list_relations, settle, count_shift, drop_row, narrow_first, step}
use Rattle.rules.specs.Stores.{unused_zero_of, row_of, rows_of}
use Rattle.rules.specs.Layout.{length-rows_of}
use Rattle.theory.specs.Cells.{width-unused}
use Rattle.theory.specs.Combine.{combine-unused}
use Rattle.theory.specs.ShiftUp.{shift_up-unused}
use Rattle.theory.specs.Steps.{Stepped, combined, settled, shifted, dropped, StepView, over-limit, inconsistent, goes_on}
use Rattle.theory.proofs.Steps.{step-view}
use Rattle.theory.specs.Steps.{current, exchanged, multipliers_for, limit_coefficients-within}
use Rattle.theory.specs.Steps.{length-narrow_first, narrow_first-all, going≢refused, going-injective}
use Rattle.theory.specs.Triangular.{combined-zero}
use Rattle.reduction.specs.declared.step.Progress.{Progress}
use Rattle.reduction.specs.Answer as Answer
use Rattle.reduction.specs.Progress.{Ready, Reached, state_of, outcome_of}
use Rattle.reduction.specs.StoreExchange.{numbers_at, row-of}

abbrev pub Unused : ℕ → ℕ → State → Type 0
Unused m D s = T (every (unused_zero_of m D) s.rows)

module _ (m D : ℕ) where
  abbrev Zero : Row → Type 0
  Zero r = T (unused_zero_of m D r)

  all : (s : State) → Unused m D s → All Zero s.rows
  all s = all-of-every (unused_zero_of m D) s.rows

  pub unused-narrowed : (s : State) (i j : ℕ) → i < length s.rows → j < length s.rows → Unused m D s → Unused m D (narrow_first s i j)
  unused-narrowed s i j h k u =
      every-of-all (unused_zero_of m D) (narrow_first s i j).rows ((narrow_first-all Zero s i j h k).1 (all s u))

  -- A row of the state after the exchange of a step.
  exchanged-row : (s : State) (j i : ℕ) → j < current s → current s < length s.rows → i ≤ current s → Unused m D s
      → Zero (row_at (exchanged s j) i)
  unfolding row_at
  exchanged-row s j i before below h u =
      all_get_or Zero (exchanged s j).rows no_row i (omega (arith, length-narrow_first s (current s) j))
      ((narrow_first-all Zero s (current s) j below (omega arith)).1 (all s u))

  stepped-unused : {side : Side} {s u : State} → Stepped side s u → Unused m D s → Unused m D u
  unfolding put_row list_relations settle count_shift drop_row row_at
  stepped-unused {s = s} (combined j before below nonzero clear meets few r e) h =
      every-of-all (unused_zero_of m D) (set (exchanged s j).rows (current s) r)
      (all_set Zero (exchanged s j).rows (current s) r
      (combine-unused (multipliers_for s j).g (multipliers_for s j).h m D (row_at (exchanged s j) (current s)) (row_at (exchanged s j) j) r
      (combined-zero s j r e) (exchanged-row s j (current s) before below (omega arith) h)
      (exchanged-row s j j before below (omega arith) h))
      ((narrow_first-all Zero s (current s) j below (omega arith)).1 (all s h)))
  stepped-unused (settled c below nonzero clear e) h = h
  stepped-unused {s = s} (shifted r below nonzero clear f e) h =
      let row = row_at s (current s) in
      every-of-all (unused_zero_of m D) (set s.rows (current s) r)
      (all_set Zero s.rows (current s) r
      (subst Zero (sym (limit_coefficients-within (shift_up row) r e).1)
      (shift_up-unused m D row (all_get_or Zero s.rows no_row (current s) below (all s h)))) (all s h))
  stepped-unused {s = s} (dropped below zeros) h =
      every-of-all (unused_zero_of m D) (without s.rows (current s)) (all_without Zero s.rows (current s) (all s h))

  pub unused-going : (side : Side) (s : State) {u : State} → current s < length s.rows → step side s ≡ going u → Unused m D s → Unused m D u
  unused-going side s {u} below e h = stepped-unused (go (step-view side s below) e) h
    where
      go : {o : Outcome} → StepView side s o → o ≡ going u → Stepped side s u
      go (over-limit n i z c) f = absurd (going≢refused (sym f))
      go (inconsistent i z) f = absurd (going≢refused (sym f))
      go (goes_on p) f = subst (Stepped side s) (going-injective f) p

-- With every column and every block in use.
row-unused : (l : List ℤ) → T (unused_zero_of column_count most_span (row_of l))
unfolding unused_zero_of row_of parts every zero_block
row-unused l = tt

pub unused-none : (n : ℕ) (rows : List ℤ) → T (every (unused_zero_of column_count most_span) (rows_of n rows))
unfolding rows_of every
unused-none n rows = go (parts row_length n rows)
  where
    go : (l : List (List ℤ)) → T (every (unused_zero_of column_count most_span) (map row_of l))
    go [] = tt
    go (x ∷ l) = (T-&& (unused_zero_of column_count most_span (row_of x)) (every (unused_zero_of column_count most_span) (map row_of l))).1
        (row-unused x, go l)

pub none-unused : (rows relations : List ℤ) (p : Progress) → Unused column_count most_span (state_of rows relations p)
unfolding state_of
none-unused rows relations p = unused-none p.rows rows

-- ---- on stores

module _ (m D : ℕ) {rows relations : List ℤ} {p : Progress} (ready : Ready rows relations p) where
  abbrev s : State
  s = state_of rows relations p

  rows-length : length s.rows ≡ p.rows
  unfolding state_of
  rows-length = length-rows_of p.rows rows

  pub unused-row : (i : ℕ) → i < p.rows → Unused m D s → T (unused_zero_of m D (row_of (numbers_at rows i)))
  unfolding row_at
  unused-row i h u =
      subst (λ r. T (unused_zero_of m D r)) (row-of rows relations p i h)
      (all_get_or (λ r. T (unused_zero_of m D r)) s.rows no_row i (omega (arith, rows-length)) (all-of-every (unused_zero_of m D) s.rows u))

  pub unused-width : (i : ℕ) → i < p.rows → Unused m D s → width (row_of (numbers_at rows i)) ≤ D + 1
  unused-width i h u = omega (arith, width-unused m D (row_of (numbers_at rows i)) (unused-row i h u))

  pub unused-after : (side : Side) {n most : ℕ} {rows' relations' : List ℤ} {o : Answer.Outcome} → p.settled < p.rows
      → Reached n rows relations rows' relations' most o (step side s) → o.done ≡ false → o.refusal ≡ 0
      → Unused m D s → Unused m D (state_of rows' relations' o.progress)
  unfolding outcome_of state_of
  unused-after side {rows' = rows'} {relations'} {o} inside r e f u =
      unused-going m D side s (omega (arith, rows-length, length-take-le p.settled p.order (omega (arith, ready.few-settled, ready.four))))
      (sym r.outcome ∙ ap₂ (λ n d. outcome_of n d (state_of rows' relations' o.progress)) f e) u
